-- A program that runs keeps the laws of a machine.
pub mod Queues
pub mod Accounting
pub mod Distinct
pub mod Keeping
pub mod First
pub mod Words
pub mod Stores
pub mod Showing
pub mod Replying
use Rattle.std.specs.Prelude.{◌≡◌, []}
use Rattle.rp_base.specs.Action.{IsRight}
use Rattle.rp_base.specs.Right.{IsReply}
use Rattle.rp_base.specs.Sets.{Has}
use Rattle.rp_base.specs.declared.action.Action.{Action}
use Rattle.rp_base.specs.declared.reply.Answer.{Answer}
use Rattle.rp_machine.specs.Calls.{MayApply, AccountsFor}
use Rattle.rp_object.specs.declared.program.Declarations.{Declarations}
use Rattle.rp_object.specs.Program.{IsProgram}
use Rattle.rp_object.specs.State.{Running, first_state}
use Rattle.rp_object.specs.Step.{objects_next, objects_answers, objects_waiting}
use Rattle.rp_object.specs.Reached.{IsStateOf}
use Rattle.rp_object.specs.Image.{objects_image}
use Rattle.rp_object.proofs.MachineLaws.Showing.{image_shows}
use Rattle.rp_object.proofs.MachineLaws.First.{nobody_first, first_is_state, state_accounts}
use Rattle.rp_object.proofs.MachineLaws.Keeping.{next_is_state}
use Rattle.rp_object.proofs.MachineLaws.Replying.{step_replies}

-- nobody waits at the start
pub none_waits : (program : Declarations) → objects_waiting (first_state program) ≡ []
none_waits = nobody_first

-- the start is a state of the program
pub starts : (program : Declarations) → IsProgram program → IsStateOf program (first_state program)
starts = first_is_state

-- an action leads from a state of the program to one
pub keeps : (program : Declarations) → IsProgram program → (running : Running) (action : Action)
    → IsStateOf program running → IsRight action → MayApply (objects_waiting running) action
    → IsStateOf program (objects_next running action)
keeps program right running action is fits may =
    next_is_state program running action right is fits may

-- two states of one program that look the same are the same
pub shows : (program : Declarations) → IsProgram program → (one other : Running)
    → IsStateOf program one → IsStateOf program other → objects_image one ≡ objects_image other
    → one ≡ other
shows = image_shows

-- who is answered and who waits
pub accounts : (program : Declarations) (running : Running) (action : Action)
    → IsStateOf program running → IsRight action → MayApply (objects_waiting running) action
    → AccountsFor (objects_waiting running) action (objects_answers running action)
    (objects_waiting (objects_next running action))
accounts program running action is fits may = state_accounts program running action is may

-- each reply's value has 64 signed bits
pub replies : (program : Declarations) (running : Running) (action : Action)
    → IsStateOf program running → IsRight action → MayApply (objects_waiting running) action
    → (answer : Answer) → Has answer (objects_answers running action) → IsReply answer.reply
replies program running action is fits may = step_replies running.program running.state action
