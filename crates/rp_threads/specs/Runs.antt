-- What the threads of nodes and tasks require, and what they ensure.
use Rattle.std.specs.Prelude.{◌≡◌, ℕ, ◌≤◌, Bool, Option, Result, List, [], All, length, IfOk}
use Rattle.std.specs.Prelude.{OnErr}
use Rattle.std.specs.List.{AllZip}
use Rattle.rp_base.specs.declared.action.Action.{Action}
use Rattle.rp_base.specs.declared.fault.Fault.{Fault}
use Rattle.rp_base.specs.declared.reply.Answer.{Answer}
use Rattle.rp_codec.specs.declared.packet.Party.{Party}
use Rattle.rp_replica.specs.rp_model.specs.Parts.{fresh_task}
use Rattle.rp_board.specs.Parts.{OfTask, fresh_part}
use Rattle.rp_threads.specs.Threads.{IsLooped, IsTaskLooped}
use Rattle.rp_threads.specs.declared.loops.NodeEnd.{NodeEnd}
use Rattle.rp_threads.specs.declared.starts.NodeStart.{NodeStart}
use Rattle.rp_threads.specs.declared.starts.TaskStart.{TaskStart}
use Rattle.rp_threads.specs.declared.tasks.TaskEnd.{TaskEnd}

-- One to seven nodes, and tasks for which nothing has happened; and all links are empty.
pub record MayRun {M D P : Type 0} (nodes : List (NodeStart M D P)) (tasks : List (TaskStart M P))
    : Type 0 where
  pub count : (1 ≤ length nodes) × (length nodes ≤ 7)
  pub node_lines : All (λ start. start.line.held ≡ []) nodes
  pub task_lines : All (λ start. start.line.held ≡ []) tasks
  pub fresh : All (λ start. start.seat.part ≡ fresh_part (OfTask fresh_task)) tasks

module _ {S M D P : Type 0} (next : S → Action → S) (answers : S → Action → List Answer)
    (begin : P → S) (lets : ℕ → ℕ → Bool → Type 0) (heard : ℕ → ℕ → ℕ → Type 0)
    (over : Party → ℕ → ℕ → Result Bool Fault → Type 0) (ended : Party → Option Fault → Type 0)
    (nodes turns : ℕ) where
  -- the end is that of at most n turns of the loop of this start
  abbrev pub IsNodeEnd : NodeStart M D P → NodeEnd M D P → Type 0
  IsNodeEnd start end =
      IsLooped next answers begin lets heard over ended nodes turns start.seat start.line end

module _ {S M P : Type 0} (next : S → Action → S) (answers : S → Action → List Answer)
    (begin : P → S) (over : Party → ℕ → ℕ → Result Bool Fault → Type 0)
    (ended : Party → Option Fault → Type 0) (nodes turns : ℕ) where
  abbrev pub IsTaskEnd : TaskStart M P → TaskEnd M P → Type 0
  IsTaskEnd start end =
      IsTaskLooped next answers begin over ended nodes turns start.calls.items start.seat
      start.line end

-- Each end is that of at most n turns of the loop of the start at its place.
pub record HaveRun {M D P : Type 0} (next : M → Action → M) (answers : M → Action → List Answer)
    (begin : P → M) (lets : ℕ → ℕ → Bool → Type 0) (heard : ℕ → ℕ → ℕ → Type 0)
    (over : Party → ℕ → ℕ → Result Bool Fault → Type 0) (ended : Party → Option Fault → Type 0) (turns : ℕ)
    (nodes : List (NodeStart M D P)) (tasks : List (TaskStart M P))
    (node_ends : List (NodeEnd M D P)) (task_ends : List (TaskEnd M P)) : Type 0 where
  pub nodes_are : AllZip (IsNodeEnd next answers begin lets heard over ended (length nodes) turns)
      nodes node_ends
  pub tasks_are : AllZip (IsTaskEnd next answers begin over ended (length nodes) turns)
      tasks task_ends

-- With a result all have run so; without one the ending was notified that they cannot.
pub record RunsOrStops {A E : Type 0} (Ran : A → Type 0) (stopped : Type 0) (result : Result A E)
    : Type 0 where
  pub ran : IfOk result Ran
  pub stops : OnErr result stopped
