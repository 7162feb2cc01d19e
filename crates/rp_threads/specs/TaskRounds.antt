-- The turns of a task's loop: it fetches from one node, takes what its link passes on, and asks.
use Rattle.std.specs.Prelude.{◌≡◌, ◌⊎◌, ℕ, ◌+◌, ◌-◌, ◌%◌, ◌/◌, ◌<◌, nat_eq, nat_lt}
use Rattle.std.specs.Prelude.{Bool, true, false, ◌&&◌, ◌||◌, not, is_some, Option, Some, None}
use Rattle.std.specs.Prelude.{List, length, slice_get, if◌then◌else◌}
use Rattle.rp_base.specs.Action.{is_right}
use Rattle.rp_base.specs.declared.action.Action.{Action}
use Rattle.rp_base.specs.Calls.{are_exhausted}
use Rattle.rp_base.specs.declared.config.Config.{Config}
use Rattle.rp_base.specs.declared.fault.Fault.{Fault}
use Rattle.rp_base.specs.declared.fault.Fault.TheVariants.{OutOfMemory, NumbersSpent, BadConfig}
use Rattle.rp_base.specs.declared.reply.Answer.{Answer}
use Rattle.rp_codec.specs.declared.packet.Party.TheVariants.{Node, Task}
use Rattle.rp_replica.specs.rp_model.specs.Tasks.{TaskInput, Submit, Again}
use Rattle.rp_replica.specs.declared.sent.Sent.{Sent}
use Rattle.rp_tasks.specs.Line.{Line, saturating_sum}
use Rattle.rp_board.specs.Seats.{SeatState}
use Rattle.rp_boxes.specs.TaskSeats.{IsTaskTurn, IsNoTaskTurn, IsReplyTurn}
use Rattle.rp_threads.specs.Lines.{given_on, line_after}
use Rattle.rp_threads.specs.Loops.{node_at}
use Rattle.rp_threads.specs.Tasks.{TaskAt, call_after}
use Rattle.rp_threads.specs.Turns.{AreOffered, IsBrought, IsLost}
use Rattle.rp_threads.specs.declared.tasks.Calls.{Calls}
use Rattle.rp_threads.specs.declared.tasks.TaskCall.{TaskCall}

-- ---- a reply

-- the task takes the packet that the link passes on, if there is one: whether a call got its reply
abbrev pub Hears : {P : Type 0} → Option (List ℕ) → SeatState P → SeatState P → Bool → Type 0
Hears None old new answered = (new ≡ old) × (answered ≡ false)
Hears (Some text) old new answered =
    (taken : Option Answer) × IsReplyTurn old text new taken × (answered ≡ is_some taken)

-- if a call got its reply in this turn, the task no longer waits
abbrev pub heard_by : Bool → ℕ → Calls → Calls
heard_by answered turn so_far =
    if answered then record so_far { waits = false; last_reply = turn } else so_far

-- ---- what is asked

-- the call, asked of its node
abbrev pub submitted : Option TaskCall → Option TaskInput
submitted None = None
submitted (Some call) = Some (Submit call.node call.object call.operation call.arg)

-- what a task asks in a turn: while it waits, in each 16th turn the next of n nodes again;
-- otherwise its next call, if there is one
abbrev pub asked_by : Bool → ℕ → List TaskCall → ℕ → ℕ → Option TaskInput
asked_by true nodes calls made turn =
    if nat_eq (turn % 16) 0 then Some (Again (node_at nodes (turn / 16))) else None
asked_by false nodes calls made turn = submitted (slice_get calls made)

abbrev pub asked_in : ℕ → List TaskCall → ℕ → Calls → Option TaskInput
asked_in nodes calls turn so_far = asked_by so_far.waits nodes calls so_far.made turn

module _ {S P : Type 0} (next : S → Action → S) (answers : S → Action → List Answer)
    (begin : P → S) where
  -- One event, with this input; then its packet, if it sent one, was offered to its box, and n
  -- packets are lost.
  pub record IsAskedBy (input : TaskInput) (old new : SeatState P) (lost : ℕ) : Type 0 where
    pub stepped : SeatState P
    pub sent : Sent
    pub turn : IsTaskTurn old input stepped sent
    pub offered : AreOffered next answers begin (Task stepped.setup.number) turn.done.sends
        stepped new lost 0

  -- the seat after that is asked, and how many packets are lost
  abbrev pub Asks : Option TaskInput → SeatState P → SeatState P → ℕ → Type 0
  Asks None old new lost = (new ≡ old) × (lost ≡ 0)
  Asks (Some input) old new lost = IsAskedBy input old new lost

-- it is refused
abbrev pub IsTaskRefused : {P : Type 0} → Option TaskInput → SeatState P → SeatState P → Fault → Type 0
IsTaskRefused None old new fault = ⊥
IsTaskRefused (Some input) old new fault = IsNoTaskTurn old input new fault

-- how many calls are then made, and whether the task waits: a task that waits continues to wait,
-- and any other waits for its next call, if there is one
abbrev pub with_call : Option TaskCall → Calls → Calls
with_call None so_far = record so_far { waits = false }
with_call (Some call) so_far = record so_far { made = so_far.made + 1; waits = true }

abbrev pub made_by : Bool → List TaskCall → Calls → Calls
made_by true calls so_far = record so_far { waits = true }
made_by false calls so_far = with_call (slice_get calls so_far.made) so_far

abbrev pub asked_for : List TaskCall → Calls → Calls
asked_for calls so_far = made_by so_far.waits calls so_far

-- the task has the replies to all its calls
abbrev pub has_all_replies : List TaskCall → Calls → Bool
has_all_replies calls so_far = not so_far.waits && nat_eq so_far.made (length calls)

-- how many turns, up to this one, it has made since it has them
abbrev pub task_rested : {P : Type 0} → List TaskCall → ℕ → TaskAt P → ℕ
task_rested calls done now =
    if has_all_replies calls now.so_far then done - now.so_far.last_reply else 0

-- n more packets are lost at boxes
abbrev pub with_lost : ℕ → Calls → Calls
with_lost lost so_far = record so_far { lost = saturating_sum so_far.lost lost }

-- ---- turns

-- Why a task's loop may end before its last turn: out of memory; no number is left for its next
-- call; or the task asks a node above the last, or its next call is not right.
abbrev pub IsBadCall : Config → ℕ → List TaskCall → ℕ → Type 0
IsBadCall config task calls made =
    (call : TaskCall) × (slice_get calls made ≡ Some call)
    × ((nat_lt config.nodes call.node || not (is_right (call_after task made call))) ≡ true)

abbrev pub IsTaskFault : {P : Type 0} → ℕ → List TaskCall → SeatState P → ℕ → Fault → Type 0
IsTaskFault nodes calls seat made OutOfMemory = Unit {0}
IsTaskFault nodes calls seat made NumbersSpent = are_exhausted made ≡ true
IsTaskFault nodes calls seat made BadConfig =
    (seat.setup.config.nodes < nodes) ⊎ IsBadCall seat.setup.config seat.setup.number calls made
IsTaskFault nodes calls seat made _ = ⊥

module _ {S P : Type 0} (next : S → Action → S) (answers : S → Action → List Answer)
    (begin : P → S) (nodes : ℕ) (calls : List TaskCall) where
  -- What a task fetches and takes in a turn: it fetches from the next node in rotation.
  pub record IsHeard (turn : ℕ) (old : TaskAt P) (new : SeatState P) (line : Line)
      (so_far : Calls) : Type 0 where
    pub between : SeatState P
    pub full : Line
    pub brought : IsBrought next answers begin (Node (node_at nodes turn))
        (Task old.seat.setup.number) old.seat between old.line full
    pub answered : Bool
    pub hears : Hears (given_on full) between new answered
    pub gives : line ≡ line_after full
    pub counts : so_far ≡ heard_by answered turn old.so_far

  -- The turn was not made: the packet that the link passed on is lost, because memory ran out.
  pub record IsUnheard (turn : ℕ) (old new : TaskAt P) (fault : Fault) : Type 0 where
    pub full : Line
    pub brought : IsBrought next answers begin (Node (node_at nodes turn))
        (Task old.seat.setup.number) old.seat new.seat old.line full
    pub gives : new.line ≡ line_after full
    pub memory : fault ≡ OutOfMemory
    pub counts : new.so_far ≡ old.so_far

  -- The turn was not made: what the task asks is refused.
  pub record IsUnasked (turn : ℕ) (old new : TaskAt P) (fault : Fault) : Type 0 where
    pub heard : SeatState P
    pub hears : IsHeard turn old heard new.line new.so_far
    pub refused : IsTaskRefused (asked_in nodes calls turn new.so_far) heard new.seat fault

  -- Why the turn with this number was not made: memory ran out for the packet that was fetched, or
  -- for the one that the link passed on; or what the task asks is refused.
  pub data IsUnmadeTurn (turn : ℕ) (old new : TaskAt P) (fault : Fault) : Type 0 where
    untaken : IsLost (Node (node_at nodes turn)) (Task old.seat.setup.number)
        old.seat new.seat old.line new.line fault
        → new.so_far ≡ old.so_far → IsUnmadeTurn turn old new fault
    unheard : IsUnheard turn old new fault → IsUnmadeTurn turn old new fault
    unasked : IsUnasked turn old new fault → IsUnmadeTurn turn old new fault

  -- The turn with this number.
  pub record IsTaskTurnOf (turn : ℕ) (old new : TaskAt P) : Type 0 where
    pub heard : SeatState P
    pub so_far : Calls
    pub hears : IsHeard turn old heard new.line so_far
    pub lost : ℕ
    pub asks : Asks next answers begin (asked_in nodes calls turn so_far) heard new.seat lost
    pub counts : new.so_far ≡ with_lost lost (asked_for calls so_far)
