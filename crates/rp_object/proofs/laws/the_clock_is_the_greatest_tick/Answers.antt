-- By induction on the actions.
use Rattle.std.proofs.Common.{◌∙◌, arith}
use Rattle.rp_machine.specs.Replay.{unmoved}
use Rattle.rp_object.specs.State.{first_state}
use Rattle.rp_object.proofs.Clock.{clock_greatest}
use Rattle.rp_object.proofs.laws.the_clock_is_the_greatest_tick.Goals as goal

pub returns : goal.returns
returns c program actions =
    clock_greatest (unmoved (first_state program)) actions ∙ omega arith
