-- What a program is after some actions, and what was answered.
use Rattle.std.specs.Prelude.{◌≡◌, ℕ, ℤ, Option, List, [], ◌∷◌}
use Rattle.rp_object.specs.rp_base.specs.declared.action.Action.{Action}
use Rattle.rp_object.specs.rp_base.specs.declared.reply.Reply.{Reply}
use Rattle.rp_object.specs.rp_base.specs.declared.reply.Answer.{Answer}
use Rattle.rp_object.specs.rp_body.specs.Store.{Store}
use Rattle.rp_object.specs.rp_entry.specs.declared.operations.Operations.{Operations}
use Rattle.rp_object.specs.rp_entry.specs.declared.state.Waiting.{Waiting}
use Rattle.rp_object.specs.rp_machine.specs.Replay.{replay_answers, replay_state}
use Rattle.rp_object.specs.declared.program.Declarations.{Declarations}
use Rattle.rp_object.specs.State.{ProgramState, first_state}
use Rattle.rp_object.specs.Step.{objects_next, objects_answers}

-- From the start of the program these actions, one after another, give these answers in this order,
-- and lead to this state.
pub record LeadTo (program : Declarations) (actions : List Action) (given : List Answer)
    (state : ProgramState)
    : Type 0 where
  pub answered : replay_answers objects_next objects_answers (first_state program) actions ≡ given
  pub left : (replay_state objects_next objects_answers (first_state program) actions).state ≡ state

-- the reply to a task's call of this number
abbrev pub gets : ℕ → ℕ → Reply → Answer
gets task number reply = record { task = task; number = number; reply = reply }

-- one object with these components and queues, these times for which timing events are set, and the
-- clock
abbrev pub one_object : Operations → Store → List (List Waiting) → List (Option ℤ) → ℕ
    → ProgramState
one_object operations components queues timers clock = record {
  objects =
      record {
        operations = operations;
        state = record { store = components; queues = queues };
      }
      ∷ [];
  timers = timers;
  clock = clock;
}
