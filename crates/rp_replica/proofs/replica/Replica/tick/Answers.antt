use Rattle.std.proofs.Common.{refl}
use Rattle.rp_base.specs.declared.action.Action.TheVariants.{Tick}
use Rattle.rp_model.specs.Arrivals.{on_tick}
use Rattle.rp_model.specs.Plans.{turn_of}
use Rattle.rp_rules.specs.Inputs.{running_server}
use Rattle.rp_replica.specs.State.{server_of}
use Rattle.rp_replica.proofs.Certain.{adds_none}
use Rattle.rp_replica.proofs.replica.Replica.tick.Goals as goal

pub returns-clause-certain : goal.returns-clause-certain
returns-clause-certain g c = λ working.
    let m = g.M.Machine in
    let node = running_server m.next m.answers (server_of c.args.self.now) in
    c.turn.ensures.certain (λ long. long) (turn_of node (on_tick node c.args.now)) refl (adds_none node (Tick c.args.now)) working
