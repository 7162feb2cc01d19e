use Rattle.std.proofs.Common.{Some, [], refl}
use Rattle.rp_base.specs.declared.record.Rec.TheVariants.{Started}
use Rattle.rp_model.specs.Leader.{begun_running}
use Rattle.rp_model.specs.Says.{writes}
use Rattle.rp_replica.specs.Cutting.{MayWrite}
use Rattle.rp_replica.proofs.Cuts.{write_fails}
use Rattle.rp_replica.proofs.Keeping.{disk_written}
use Rattle.rp_replica.proofs.replica.Replica.start_range.Goals as goal

pub invariant_of-self : goal.invariant_of-self
invariant_of-self g c =
    let r = c.self.inside in
    let rec = Started c.args.ballot in
    let may : MayWrite r.server.config.max_positions (Some rec) = (record { ranges = c.requires.may.ballot.ballot; right = tt }, refl) in
    let begun = begun_running r.server.records r.server.running c.args.range c.args.ballot in
    disk_written g.D.Device.disk r.server c.begin_range.new.self r.store c.begin_range.new.store rec (writes rec begun []) refl c.begin_range.result
    c.begin_range.ensures.put c.begin_range.ensures.begun c.begin_range.ensures.unchanged c.begin_range.ensures.err c.self.invariant may

pub returns-clause-err : goal.returns-clause-err
returns-clause-err g c =
    let r = c.self.inside in
    let rec = Started c.args.ballot in
    let may : MayWrite r.server.config.max_positions (Some rec) = (record { ranges = c.requires.may.ballot.ballot; right = tt }, refl) in
    write_fails g.D.Device.disk r.server r.store c.begin_range.new.store rec c.begin_range.result c.begin_range.new.self c.args.self.now
    c.begin_range.ensures.unchanged c.begin_range.ensures.err c.self.invariant may c.self.view_is
