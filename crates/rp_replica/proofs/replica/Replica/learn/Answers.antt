use Rattle.std.proofs.Common.{◌≤◌, Some, sym, subst, refl}
use Rattle.std.proofs.lemmas.Bool.{le-leb}
use Rattle.rp_base.specs.declared.record.Rec.TheVariants.{Learned}
use Rattle.rp_rules.specs.rp_server.specs.Applying.{learns_alone}
use Rattle.rp_replica.specs.Cutting.{MayWrite}
use Rattle.rp_replica.specs.State.{ReplicaState}
use Rattle.rp_replica.proofs.Cuts.{write_fails}
use Rattle.rp_replica.proofs.Keeping.{disk_written}
use Rattle.rp_replica.proofs.replica.Replica.learn.Goals as goal

pub invariant_of-self : goal.invariant_of-self
invariant_of-self g c =
    let m = g.M.Machine in
    let r = c.self.inside in
    let i = c.args.decision.position in
    let v = c.args.decision.action in
    let within : i ≤ r.server.config.max_positions = subst (λ (k : ReplicaState g.row.M.Denot). i ≤ k.config.max_positions) (sym c.self.view_is) c.requires.place in
    let may : MayWrite r.server.config.max_positions (Some (Learned i v)) = (record { ranges = c.learn.ensures.range; right = c.requires.right }, le-leb i r.server.config.max_positions within) in
    disk_written g.D.Device.disk r.server c.learn.new.self r.store c.learn.new.store (Learned i v) (learns_alone m.next m.answers r.server i v) refl c.learn.result
    c.learn.ensures.put c.learn.ensures.learned c.learn.ensures.unchanged c.learn.ensures.err c.self.invariant may

pub returns-clause-err : goal.returns-clause-err
returns-clause-err g c =
    let r = c.self.inside in
    let i = c.args.decision.position in
    let v = c.args.decision.action in
    let within : i ≤ r.server.config.max_positions = subst (λ (k : ReplicaState g.row.M.Denot). i ≤ k.config.max_positions) (sym c.self.view_is) c.requires.place in
    let may : MayWrite r.server.config.max_positions (Some (Learned i v)) = (record { ranges = c.learn.ensures.range; right = c.requires.right }, le-leb i r.server.config.max_positions within) in
    write_fails g.D.Device.disk r.server r.store c.learn.new.store (Learned i v) c.learn.result c.learn.new.self c.args.self.now
    c.learn.ensures.unchanged c.learn.ensures.err c.self.invariant may c.self.view_is
