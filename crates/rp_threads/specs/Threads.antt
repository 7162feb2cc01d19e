-- The ends of the loops of a node and of a task, whether they run in a thread or not.
use Rattle.std.specs.Prelude.{◌≡◌, ◌≢◌, ℕ, ◌+◌, ◌<◌, ◌≤◌, Bool, Option, Some, None, IfSome, List}
use Rattle.std.specs.Prelude.{◌⊎◌, Result, length}
use Rattle.rp_base.specs.declared.action.Action.{Action}
use Rattle.rp_base.specs.declared.fault.Fault.{Fault}
use Rattle.rp_base.specs.declared.fault.Fault.TheVariants.{Device}
use Rattle.rp_base.specs.declared.reply.Answer.{Answer}
use Rattle.rp_codec.specs.declared.packet.Party.{Party}
use Rattle.rp_codec.specs.declared.packet.Party.TheVariants.{Node, Task}
use Rattle.rp_board.specs.Seats.{SeatState}
use Rattle.rp_tasks.specs.Line.{Line, saturating_sum}
use Rattle.rp_threads.specs.LoopTurns.{HasEnded, IsNeverOver, IsStoppedBy}
use Rattle.rp_threads.specs.Loops.{lead_period, total_of, turns_off}
use Rattle.rp_threads.specs.Rounds.{NodeAt, IsNodeFault, IsCountedTurn, IsUncountedTurn}
use Rattle.rp_threads.specs.Rounds.{before_turns, node_party, node_rested}
use Rattle.rp_threads.specs.Tasks.{TaskAt, HasMade, before_calls, task_party}
use Rattle.rp_threads.specs.TaskRounds.{IsTaskFault, IsTaskTurnOf, IsUnmadeTurn, task_rested}
use Rattle.rp_threads.specs.declared.loops.NodeEnd.{NodeEnd}
use Rattle.rp_threads.specs.declared.tasks.TaskCall.{TaskCall}
use Rattle.rp_threads.specs.declared.tasks.TaskEnd.{TaskEnd}

-- ---- nodes

-- the end of a node's loop in this state: its lost packets are those at boxes and those on its link
abbrev pub end_of : {M D P : Type 0} → NodeAt P → Option Fault → NodeEnd M D P
end_of last fault = record {
  seat = last.worker.seat;
  counts = record last.counts { lost = saturating_sum last.counts.lost last.worker.line.lost };
  fault = fault;
}

-- A loop of this seat made n turns: all are counted, each that was received or led is one event, and
-- only turns in which the node was not to lead are idle.
pub record CountsTurns {M D P : Type 0} (seat : SeatState P) (turns : ℕ) (end : NodeEnd M D P)
    : Type 0 where
  pub counted : total_of end.counts ≡ turns
  pub events : end.seat.part.events ≡ seat.part.events + end.counts.received + end.counts.led
  pub idle : end.counts.idle ≤ turns_off (lead_period seat.setup.number) turns

module _ {S M D P : Type 0} (next : S → Action → S) (answers : S → Action → List Answer)
    (begin : P → S) (lets : ℕ → ℕ → Bool → Type 0) (heard : ℕ → ℕ → ℕ → Type 0)
    (over : Party → ℕ → ℕ → Result Bool Fault → Type 0) (ended : Party → Option Fault → Type 0)
    (nodes turns : ℕ) (seat : SeatState P) (line : Line) (end : NodeEnd M D P) where
  -- A loop of at most n turns, of the node of this seat among n nodes and over this link, had this
  -- end, of which the ending was notified. If no run is ever over it made all its turns, unless a
  -- fault ended it. No packet of a turn that was not made counts as lost at a box.
  pub record IsLooped : Type 0 where
    pub last : NodeAt P
    pub is : end ≡ end_of last end.fault
    pub ran : HasEnded over node_party node_rested
        (IsCountedTurn next answers begin lets heard nodes)
        (IsUncountedTurn next answers begin lets heard nodes) turns (before_turns seat line) last
        end.fault
    pub same : end.seat.setup ≡ seat.setup
    pub notified : ended (Node seat.setup.number) end.fault
    pub failures : end.fault ≢ Some Device → end.seat.failures ≡ seat.failures
    pub counts : end.fault ≡ None → CountsTurns seat ran.done end
    pub whole : IsNeverOver over → end.fault ≡ None → CountsTurns seat turns end
    pub cause : IfSome end.fault (λ fault.
        IsNodeFault seat end.seat fault ⊎ IsStoppedBy over (Node seat.setup.number) fault)

-- ---- tasks

-- the end of a task's loop in this state: its lost packets are those at boxes and those on its link
abbrev pub task_end_of : {M P : Type 0} → TaskAt P → Option Fault → TaskEnd M P
task_end_of last fault = record {
  seat = last.seat;
  made = last.so_far.made;
  last_reply = last.so_far.last_reply;
  lost = saturating_sum last.so_far.lost last.line.lost;
  fault = fault;
}

module _ {S M P : Type 0} (next : S → Action → S) (answers : S → Action → List Answer)
    (begin : P → S) (over : Party → ℕ → ℕ → Result Bool Fault → Type 0)
    (ended : Party → Option Fault → Type 0) (nodes turns : ℕ) (calls : List TaskCall)
    (seat : SeatState P) (line : Line) (end : TaskEnd M P) where
  -- A loop of at most n turns, of the task of this seat with these calls among n nodes and over
  -- this link, had this end, of which the ending was notified. If no run is ever over it made all
  -- its turns, unless a fault ended it.
  pub record IsTaskLooped : Type 0 where
    pub last : TaskAt P
    pub is : end ≡ task_end_of last end.fault
    pub ran : HasEnded over task_party (task_rested calls)
        (IsTaskTurnOf next answers begin nodes calls)
        (IsUnmadeTurn next answers begin nodes calls) turns (before_calls seat line) last end.fault
    pub same : end.seat.setup ≡ seat.setup
    pub notified : ended (Task seat.setup.number) end.fault
    pub made : HasMade calls end.seat end.made last.so_far.waits
    pub first : end.fault ≡ None → 0 < length calls → 0 < ran.done → 0 < end.made
    pub whole : IsNeverOver over → end.fault ≡ None → ran.done ≡ turns
    pub cause : IfSome end.fault (λ fault.
        IsTaskFault nodes calls seat end.made fault
        ⊎ IsStoppedBy over (Task seat.setup.number) fault)
