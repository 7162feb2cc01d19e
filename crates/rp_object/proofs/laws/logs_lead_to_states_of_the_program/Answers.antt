-- By induction on the actions, with the laws of the machine.
use Rattle.rp_machine.proofs.Applying.{accounted}
use Rattle.rp_object.specs.State.{first_state}
use Rattle.rp_object.specs.Step.{objects_next, objects_answers, objects_waiting}
use Rattle.rp_object.specs.Reached.{IsStateOf}
use Rattle.rp_object.proofs.MachineLaws as machine
use Rattle.rp_object.proofs.laws.logs_lead_to_states_of_the_program.Goals as goal

pub returns : goal.returns
returns c program actions right each =
    (accounted objects_next objects_answers objects_waiting (λ (alone : Unit {0}). first_state program) (λ alone running. IsStateOf program running) (λ alone. machine.none_waits program)
    (λ alone. machine.starts program right) (λ alone. machine.keeps program right) (λ alone. machine.accounts program) tt actions each).inside
