-- The result of a run in threads.
use Rattle.std.specs.Prelude.{◌≡◌, ◌≢◌, ◌⊎◌, ◌↔◌, ◌-◌, ◌≤◌, ℕ, suc, true, None, All, IfSome, List, length, flat_map}
use Rattle.std.specs.Prelude.{map, slice_get}
use Rattle.std.specs.List.{AllZip}
use Rattle.rp_threads.specs.rp_base.specs.Sets.{Has}
use Rattle.rp_threads.specs.rp_base.specs.declared.action.Action.{Action}
use Rattle.rp_threads.specs.rp_base.specs.declared.config.Config.{Config}
use Rattle.rp_threads.specs.rp_base.specs.declared.reply.Answer.{Answer}
use Rattle.rp_threads.specs.rp_codec.specs.declared.packet.Party.TheVariants.{Node, Task}
use Rattle.rp_board.specs.Parts.{task_of}
use Rattle.rp_board.specs.Seats.{SeatState}
use Rattle.rp_boxes.specs.rp_machine.specs.Places.{IsPlace}
use Rattle.rp_boxes.specs.rp_machine.specs.Replay.{counted_of}
use Rattle.rp_boxes.specs.rp_model.specs.declared.event.Event.{Event}
use Rattle.rp_boxes.specs.rp_store.specs.Disk.{Memory}
use Rattle.rp_boxes.specs.rp_agreement.specs.Answered.{named}
use Rattle.rp_boxes.specs.Audits.{Audited, known_of}
use Rattle.rp_boxes.specs.FirstSeats.{AreSeats}
use Rattle.rp_boxes.specs.Together.{AreTogether}
use Rattle.rp_threads.specs.Loops.{total_of}
use Rattle.rp_threads.specs.Threads.{IsLooped, IsTaskLooped}
use Rattle.rp_threads.specs.declared.loops.NodeEnd.{NodeEnd}
use Rattle.rp_threads.specs.declared.tasks.TaskEnd.{TaskEnd}
use Rattle.rp_live.specs.Calls.{CountsCalls}
use Rattle.rp_live.specs.Ends.{HadNoFault, HadMemory}
use Rattle.rp_live.specs.Events.{calls_at}
use Rattle.rp_live.specs.Figures.{figures_of}
use Rattle.rp_live.specs.Lines.{party_line}
use Rattle.rp_live.specs.Noted.{AreNoted}
use Rattle.rp_live.specs.Pace.{calm_turns, lets, heard, over, ended}
use Rattle.rp_live.specs.Seats.{HasAppliedAt, HasReportedSince, IsReadFrom}
use Rattle.rp_live.specs.declared.run.LiveOutcome.{LiveOutcome}

-- the replies that a task has at its end
abbrev pub replies_at : {M P : Type 0} → TaskEnd M P → List Answer
replies_at end = (task_of end.seat.part.role).replies

-- of each node from 1 on as many actions are known as it has applied
abbrev pub KnowsAll : List (List Action) → List ℕ → Type 0
KnowsAll known applied =
    (place : ℕ) → IfSome (slice_get applied place)
    (λ count. count ≡ length (known_of known (suc place)))

module _ {S P : Type 0} (next : S → Action → S) (answers : S → Action → List Answer)
    (begin : P → S) (config : Config) (events : List Event) (seed turns : ℕ) where
  -- the loop of the node at this seat, over the link of its party, had this end
  abbrev pub IsNodeEnd : SeatState P → NodeEnd S Memory P → Type 0
  IsNodeEnd seat end =
      IsLooped next answers begin lets heard over ended config.nodes turns seat
      (party_line seed (Node seat.setup.number)) end

  -- the loop of the task at this seat, with its calls and over the link of its party, had this end
  abbrev pub IsTaskEnd : SeatState P → TaskEnd S P → Type 0
  IsTaskEnd seat end =
      IsTaskLooped next answers begin over ended config.nodes turns (calls_at events seat.setup.number)
      seat
      (party_line seed (Task seat.setup.number)) end

  -- Why the loop of this node ended without a fault: it made all its turns, or nothing had happened
  -- to the node for 128 turns, in which it looked into each of its boxes.
  pub record IsNodeOver (seat : SeatState P) (end : NodeEnd S Memory P) : Type 0 where
    pub looped : IsNodeEnd seat end
    pub why : end.fault ≡ None → (total_of end.counts ≡ turns)
        ⊎ (calm_turns ≤ looped.ran.done - looped.last.stirred)

  -- Why the loop of this task ended without a fault: it made all its turns, or the task has made all
  -- its calls and has the replies to them.
  pub record IsTaskOver (seat : SeatState P) (end : TaskEnd S P) : Type 0 where
    pub looped : IsTaskEnd seat end
    pub why : end.fault ≡ None → (looped.ran.done ≡ turns)
        ⊎ ((end.made ≡ length (calls_at events seat.setup.number))
        × (length (replies_at end) ≡ end.made))

module _ {S P : Type 0} (next : S → Action → S) (answers : S → Action → List Answer)
    (begin : P → S) where
  -- How the nodes and the tasks of a program reached their ends: all had their seats at one table,
  -- the nodes noted the interrupts and ticks among the events, and then each made its turns over
  -- the link of its party, and the tasks the calls among the events.
  pub record HasRun (config : Config) (program : P) (events : List Event) (seed turns : ℕ)
      (audit : SeatState P) (nodes : List (NodeEnd S Memory P)) (tasks : List (TaskEnd S P))
      : Type 0 where
    pub first_nodes : List (SeatState P)
    pub first_tasks : List (SeatState P)
    pub failures : List ℕ
    pub seats : AreSeats config program failures first_nodes first_tasks audit
    pub noted : List (SeatState P)
    pub notes : AreNoted next answers begin events (length events) first_nodes noted
    pub node_loops : AllZip (IsNodeEnd next answers begin config events seed turns) noted nodes
    pub task_loops : AllZip (IsTaskEnd next answers begin config events seed turns)
        first_tasks tasks

  -- What was reported of the nodes and tasks of these ends: no node's loop ended by a fault, and no
  -- task's because memory ran out. The audit, which knew nothing of a node at first, read its log
  -- by reports that the node sent to it; then all looked at the table as one. How many actions each
  -- node has applied, and the replies of all tasks. The nodes agree where of each all is known that
  -- it has applied. The figures are theirs.
  pub record IsAudited {D : Type 0} (audit : SeatState P) (nodes : List (NodeEnd S D P))
      (tasks : List (TaskEnd S P)) (outcome : LiveOutcome) : Type 0 where
    pub nodes_ended : All HadNoFault nodes
    pub tasks_ended : All HadMemory tasks
    pub last : List (SeatState P)
    pub reported : AllZip HasReportedSince nodes last
    pub applied : AllZip HasAppliedAt last outcome.applied.items
    pub known : Audited P
    pub same : known.seat.setup ≡ audit.setup
    pub read : AllZip (IsReadFrom next answers begin known.known) nodes last
    pub together : AreTogether next answers begin known last (map (λ end. end.seat) tasks)
    pub replies : outcome.replies.items ≡ flat_map replies_at tasks
    pub agree : (outcome.agree ≡ true) ↔ KnowsAll known.known outcome.applied.items
    pub figures : outcome.figures ≡ figures_of nodes tasks

  -- A whole run. Each loop made all its turns, unless a fault ended it, or the run was over: then
  -- each task has the replies to all its calls, and nothing had happened to any node for 128 turns.
  -- In the one order the counted calls of each task are the calls among the events, in
  -- order, that it made; and each call that takes effect there is one that a task of the run made.
  pub record IsLiveRun (config : Config) (program : P) (events : List Event) (seed turns : ℕ)
      (outcome : LiveOutcome) : Type 0 where
    pub audit : SeatState P
    pub nodes : List (NodeEnd S Memory P)
    pub tasks : List (TaskEnd S P)
    pub ran : HasRun config program events seed turns audit nodes tasks
    pub stated : IsAudited audit nodes tasks outcome
    pub nodes_over : AllZip (IsNodeOver next answers begin config events seed turns) ran.noted nodes
    pub tasks_over : AllZip (IsTaskOver next answers begin config events seed turns)
        ran.first_tasks tasks
    pub size : length outcome.applied.items ≡ config.nodes
    pub calls : All (λ end.
        CountsCalls end.seat.setup.number (calls_at events end.seat.setup.number) end.made
        (counted_of next answers (begin program) stated.together.order)) tasks
    pub made : (t n place : ℕ)
        → IsPlace next answers (begin program) stated.together.order (named t n) place
        → (end : TaskEnd S P) × Has end tasks × (end.seat.setup.number ≡ t) × (1 ≤ n) × (n ≤ end.made)
