use Rattle.std.proofs.Common.{◌≡◌, true, Some, [], sym, subst, refl}
use Rattle.rp_rules.specs.rp_server.specs.Invariant.{vote_record}
use Rattle.rp_model.specs.Parts.{is_in_log}
use Rattle.rp_model.specs.Says.{writes}
use Rattle.rp_replica.specs.Cutting.{MayWrite}
use Rattle.rp_replica.specs.State.{ReplicaState}
use Rattle.rp_replica.proofs.Cuts.{write_fails_if}
use Rattle.rp_replica.proofs.Keeping.{disk_written_if}
use Rattle.rp_replica.proofs.replica.Replica.keep_first_vote.Goals as goal

pub invariant_of-self : goal.invariant_of-self
invariant_of-self g c =
    let r = c.self.inside in
    let rec = vote_record c.args.placed.now in
    let kept = c.keep_first_vote in
    let may : MayWrite r.server.config.max_positions (Some rec) =
    (record { ranges = kept.ensures.range; right = c.requires.right }, subst (λ (k : ReplicaState g.row.M.Denot). is_in_log k.config.max_positions rec ≡ true) (sym c.self.view_is) c.requires.place) in
    disk_written_if g.D.Device.disk r.server kept.new.self r.store kept.new.store rec (writes rec r.server.running []) refl kept.result
    kept.ensures.put kept.ensures.noted kept.ensures.unchanged kept.ensures.err kept.ensures.none c.self.invariant may

pub returns-clause-err : goal.returns-clause-err
returns-clause-err g c =
    let r = c.self.inside in
    let rec = vote_record c.args.placed.now in
    let kept = c.keep_first_vote in
    let may : MayWrite r.server.config.max_positions (Some rec) =
    (record { ranges = kept.ensures.range; right = c.requires.right }, subst (λ (k : ReplicaState g.row.M.Denot). is_in_log k.config.max_positions rec ≡ true) (sym c.self.view_is) c.requires.place) in
    write_fails_if g.D.Device.disk r.server r.store kept.new.store rec kept.result kept.new.self c.args.self.now
    kept.ensures.unchanged kept.ensures.err c.self.invariant may c.self.view_is
