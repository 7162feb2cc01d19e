-- Who waited, who was answered and who waits, in order, at each entry by itself (Ada Reference
-- Manual, section 9.5.3; the order of arrival: section D.4).
use Rattle.std.specs.Prelude.{◌≡◌, ℕ, ◌-◌, nat_eq, List, [], ◌∷◌, ◌++◌, map, length, Option, Some}
use Rattle.std.specs.Prelude.{None, if◌then◌else◌}
use Rattle.rp_base.specs.declared.reply.Answer.{Answer}
use Rattle.rp_entry.specs.declared.state.Waiting.{Waiting}
use Rattle.rp_entry.specs.declared.state.CallOutcome.{CallOutcome}
use Rattle.rp_entry.specs.declared.state.CallOutcome.TheVariants.{Reply, Waits}
use Rattle.rp_entry.specs.Actions.{Request, calls_function, calls_procedure, calls_entry, event}
use Rattle.rp_entry.specs.Queue.{State, queue_at}

-- a waiting call by its task and number
abbrev pub waiting_key : Waiting → ℕ × ℕ
waiting_key call = (call.task, call.number)

-- the call that an answer is for
abbrev pub answered_caller : Answer → ℕ × ℕ
answered_caller answer = (answer.task, answer.number)

-- those that were answered, and after them those that wait still, are those that waited, in the
-- same order
abbrev pub KeepsCallers : List Waiting → List Answer → List Waiting → Type 0
KeepsCallers waited replied waiting =
    map answered_caller replied ++ map waiting_key waiting ≡ map waiting_key waited

-- what a request puts into a queue: its call, if the outcome is that it waits
abbrev pub joins : Request → Option CallOutcome → List Waiting
joins (calls_function index arg) outcome = []
joins (calls_procedure index arg) outcome = []
joins (calls_entry index call) None = []
joins (calls_entry index call) (Some (Reply reply)) = []
joins (calls_entry index call) (Some Waits) = call ∷ []
joins (event handler) outcome = []

-- what it puts into the queue of the entry at this place, counted from 0
abbrev pub joins_at : ℕ → Request → Option CallOutcome → List Waiting
joins_at place (calls_function index arg) outcome = []
joins_at place (calls_procedure index arg) outcome = []
joins_at place (calls_entry index call) outcome =
    if nat_eq (index - 1) place then joins (calls_entry index call) outcome else []
joins_at place (event handler) outcome = []

-- the answers to the callers of the entry at this place, where these are the entries of all answers
abbrev pub replied_at : ℕ → List ℕ → List Answer → List Answer
replied_at place (entry ∷ entries) (answer ∷ replied) =
    if nat_eq entry place then answer ∷ replied_at place entries replied
    else replied_at place entries replied
replied_at place _ _ = []

-- Each answer is for a caller of one entry, and each entry's callers are kept, those that joined it
-- too.
pub record KeepsAll (before : State) (request : Request) (caller : Option CallOutcome)
    (replied : List Answer)
    (after : State) : Type 0 where
  pub entries : List ℕ
  pub each : length entries ≡ length replied
  pub kept : (place : ℕ)
      → KeepsCallers (queue_at before.queues place ++ joins_at place request caller)
      (replied_at place entries replied) (queue_at after.queues place)
