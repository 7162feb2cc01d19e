-- By the cases of what comes in.
use Rattle.rp_model.specs.Effect.{running_effect}
use Rattle.rp_agreement.specs.Over.{brought_by}
use Rattle.rp_agreement.proofs.CallTurns.{call_taken}
use Rattle.rp_agreement.proofs.PendingTurns.{fate_of, learned_so, others_so, stay_exactly, interrupt_taken, tick_taken}
use Rattle.rp_agreement.proofs.responses.pending_items_stay_until_they_are_over.Goals as goal

pub returns-clause-learning : goal.returns-clause-learning
returns-clause-learning g c = λ s me i records running input turn v item result wrote.
    stay_exactly s records running (brought_by input) turn i v item
    (learned_so s records running (brought_by input) turn (running_effect s me records running input) (fate_of s me records running input) result i v wrote)

pub returns-clause-ordered : goal.returns-clause-ordered
returns-clause-ordered g c = λ s me i records running input turn v result wrote.
    (_, learned_so s records running (brought_by input) turn (running_effect s me records running input) (fate_of s me records running input) result i v wrote)

pub returns-clause-others : goal.returns-clause-others
returns-clause-others g c = λ s me records running input turn result none.
    others_so s records running (brought_by input) turn (running_effect s me records running input) (fate_of s me records running input) result none

pub returns-clause-calls : goal.returns-clause-calls
returns-clause-calls g c = λ s me task number object operation arg records running turn result.
    call_taken task number object operation arg s me records running turn result

pub returns-clause-interrupts : goal.returns-clause-interrupts
returns-clause-interrupts g c = λ s me source occurrence records running turn result. interrupt_taken s me records running turn source occurrence result

pub returns-clause-ticks : goal.returns-clause-ticks
returns-clause-ticks g c = λ s me now records running turn result. tick_taken s me records running turn now result
