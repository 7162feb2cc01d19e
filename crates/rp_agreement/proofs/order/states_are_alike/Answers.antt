use Rattle.std.proofs.Common.{ap}
use Rattle.rp_base.specs.Records.{applied_of}
use Rattle.rp_machine.specs.Replay.{replay_of}
use Rattle.rp_agreement.proofs.Ordering.{applied_alike, alike_equal}
use Rattle.rp_agreement.proofs.order.states_are_alike.Goals as goal

pub returns : goal.returns
returns g c = λ begin nodes node after sent later before now all x y long.
    ap (replay_of g.M.Machine.next g.M.Machine.answers begin)
    (alike_equal (applied_of (node x).records) (applied_of (after y).records) (applied_alike nodes node after sent later before now all x y) long)
