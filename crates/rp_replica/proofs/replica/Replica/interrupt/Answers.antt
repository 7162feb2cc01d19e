use Rattle.std.proofs.Common.{refl}
use Rattle.rp_model.specs.Arrivals.{on_interrupt}
use Rattle.rp_model.specs.Plans.{turn_of}
use Rattle.rp_rules.specs.Inputs.{running_server}
use Rattle.rp_replica.specs.State.{server_of}
use Rattle.rp_replica.proofs.Certain.{interrupt_adds_none}
use Rattle.rp_replica.proofs.replica.Replica.interrupt.Goals as goal

pub returns-clause-certain : goal.returns-clause-certain
returns-clause-certain g c = λ working.
    let m = g.M.Machine in
    let node = running_server m.next m.answers (server_of c.args.self.now) in
    c.turn.ensures.certain (λ long. long) (turn_of node (on_interrupt node c.args.source c.args.occurrence)) refl (interrupt_adds_none node c.args.source c.args.occurrence) working
