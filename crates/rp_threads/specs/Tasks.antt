-- The calls that a task's loop made.
use Rattle.std.specs.Prelude.{◌≡◌, ℕ, suc, ◌+◌, ◌<◌, ◌≤◌, Bool, true, false, Option, Some, None}
use Rattle.std.specs.Prelude.{List, length, slice_get, if◌then◌else◌}
use Rattle.rp_base.specs.Sets.{Has}
use Rattle.rp_base.specs.declared.action.Action.{Action}
use Rattle.rp_base.specs.Calls.{next_call}
use Rattle.rp_codec.specs.Message.{Message}
use Rattle.rp_codec.specs.declared.packet.Party.{Party}
use Rattle.rp_codec.specs.declared.packet.Party.TheVariants.{Task}
use Rattle.rp_replica.specs.rp_model.specs.Parts.{TaskPart}
use Rattle.rp_replica.specs.rp_model.specs.Tasks.{asks}
use Rattle.rp_tasks.specs.Line.{Line}
use Rattle.rp_board.specs.Parts.{OfTask}
use Rattle.rp_board.specs.Seats.{SeatState}
use Rattle.rp_threads.specs.declared.tasks.Caller.{Caller}
use Rattle.rp_threads.specs.declared.tasks.Calls.{Calls}
use Rattle.rp_threads.specs.declared.tasks.TaskCall.{TaskCall}
use Rattle.rp_threads.specs.declared.tasks.TaskLoop.{TaskLoop}

-- the call that a task makes after n others, as nodes know it
abbrev pub call_after : ℕ → ℕ → TaskCall → Action
call_after task made call = next_call task made call.object call.operation call.arg

-- the packet in which a task asks for it first
abbrev pub first_asked : ℕ → ℕ → TaskCall → Message
first_asked task made call = asks task call.node (call_after task made call)

-- whether a task that made n of these calls waits; if so, for the reply to the last of them
abbrev pub Waits : ℕ → List TaskCall → ℕ → Bool → Option Action → Type 0
Waits task calls made true outstanding =
    (k : ℕ) × (call : TaskCall) × (made ≡ suc k) × (slice_get calls k ≡ Some call)
    × (outstanding ≡ Some (call_after task k call))
Waits task calls made false outstanding = outstanding ≡ None

-- the packet asks a node for one of the first n of these calls
abbrev pub AsksForOne : ℕ → List TaskCall → ℕ → Message → Type 0
AsksForOne task calls made packet =
    (k : ℕ) × (call : TaskCall) × (node : ℕ) × (k < made) × (slice_get calls k ≡ Some call)
    × (packet ≡ asks task node (call_after task k call))

-- The task of this seat made the first n calls of this list, each asked of its node, and each
-- packet that it sent asks for one of them. It waits for the reply to the last of them, or has all
-- replies.
pub record HasMade {P : Type 0} (calls : List TaskCall) (seat : SeatState P) (made : ℕ)
    (waits : Bool) : Type 0 where
  pub task : TaskPart
  pub is : seat.part.role ≡ OfTask task
  pub some : made ≤ length calls
  pub each : (k : ℕ) (call : TaskCall) → k < made → slice_get calls k ≡ Some call
      → Has (first_asked seat.setup.number k call) seat.part.sent
  pub only : (packet : Message) → Has packet seat.part.sent
      → AsksForOne seat.setup.number calls made packet
  pub count : length task.replies + (if waits then 1 else 0) ≡ made
  pub waiting : Waits seat.setup.number calls made waits task.outstanding

-- the state of a task's loop: its seat, its link, how many calls it made, and how many packets its
-- turns lost at boxes
pub record TaskAt (P : Type 0) : Type 0 where
  pub seat : SeatState P
  pub line : Line
  pub so_far : Calls

abbrev pub caller_at : {M P : Type 0} → Caller M P → TaskAt P
caller_at caller = record { seat = caller.seat; line = caller.link; so_far = caller.so_far }

abbrev pub task_state : {M P : Type 0} → TaskLoop M P → TaskAt P
task_state task = caller_at task.caller

-- who it is, as the gate knows it
abbrev pub task_party : {P : Type 0} → TaskAt P → Party
task_party now = Task now.seat.setup.number

-- before its first turn
abbrev pub before_calls : {P : Type 0} → SeatState P → Line → TaskAt P
before_calls seat line = record {
  seat = seat;
  line = line;
  so_far = record { made = 0; waits = false; last_reply = 0; lost = 0 };
}
