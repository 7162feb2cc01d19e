-- Histories in which something happens, so that the laws are not vacuous: a call is decided and its
-- task gets the reply, a tick is applied, a stopped node starts again, a range is led, a node takes
-- over from one that stopped, a node learns what it missed.
use Rattle.std.specs.Prelude.{◌≡◌, ℕ, Bool, false, true, nat_eq, Some, IsSome, List, [], ◌∷◌}
use Rattle.std.specs.Prelude.{◌++◌, filter}
use Rattle.rp_base.specs.Ranges.{Range}
use Rattle.rp_base.specs.Records.{applied_of}
use Rattle.rp_base.specs.Sets.{Has}
use Rattle.rp_base.specs.declared.action.Action.{Action}
use Rattle.rp_base.specs.declared.reply.Answer.{Answer}
use Rattle.rp_codec.specs.declared.packet.Body.{Body}
use Rattle.rp_codec.specs.declared.packet.Body.TheVariants.{Prepare, PrepareRange, Decided, Ask}
use Rattle.rp_model.specs.Answers.{IsStopped}
use Rattle.rp_model.specs.Effect.{Setting}
use Rattle.rp_model.specs.Events.{Event, Step, Makes, Cut, Stop, Restart, Deliver, Lead}
use Rattle.rp_model.specs.Events.{LeadRange}
use Rattle.rp_model.specs.Facts.{HasVoted, IsDecided}
use Rattle.rp_model.specs.Parts.{Running, NodePart, TaskPart}
use Rattle.rp_model.specs.Says.{says, says_to_all}
use Rattle.rp_model.specs.World.{World, part_at, step_writes}
use Rattle.rp_agreement.specs.Computed.{order_of}
use Rattle.rp_agreement.specs.History.{IsHistory}
use Rattle.rp_agreement.specs.Noted.{IsNoted}

-- three nodes, a log of n positions, and this machine
abbrev pub three_nodes : {S : Type 0} → ℕ → (S → Action → S) → (S → Action → List Answer) → S
    → Setting S
three_nodes positions next answers begin =
    record {
      config = record { nodes = 3; max_positions = positions };
      next = next;
      answers = answers;
      begin = begin;
    }

-- task 1 got this reply, and no other
abbrev pub HasOnlyReply : World → Answer → Type 0
HasOnlyReply w answer =
    (part : TaskPart) × (part_at w.tasks 1 ≡ Some part) × (part.replies ≡ answer ∷ [])

-- node 1 has applied this action, and no other
abbrev pub FirstHasApplied : World → Action → Type 0
FirstHasApplied w v =
    (part : NodePart) × (part_at w.nodes 1 ≡ Some part) × (applied_of part.records ≡ v ∷ [])

-- Some history brings task 1 this reply, and no other.
pub record IsReplied {S : Type 0} (s : Setting S) (answer : Answer) : Type 0 where
  pub events : List Event
  pub world : World
  pub history : IsHistory s events world
  pub replied : HasOnlyReply world answer

-- In some history a node notes this action, it is decided, and node 1 applies it.
pub record IsNotedAndApplied {S : Type 0} (s : Setting S) (v : Action) : Type 0 where
  pub events : List Event
  pub world : World
  pub history : IsHistory s events world
  pub noted : IsNoted events v
  pub decided : IsDecided s.config.nodes world.sent 1 v
  pub applied : FirstHasApplied world v

-- node 1 runs
abbrev pub FirstRuns : World → Type 0
FirstRuns w = (part : NodePart) × (part_at w.nodes 1 ≡ Some part) × IsSome part.running

-- In some history node 1 stops within a step that writes a record, before anything is decided; it
-- starts again, the call is decided, and task 1 gets this reply while node 1 runs.
pub record IsRepliedAfterRestart {S : Type 0} (s : Setting S) (call : Action) (answer : Answer)
    : Type 0 where
  pub before : List Event
  pub step : Step
  pub kept : ℕ
  pub after : List Event
  pub first : World
  pub stopped : World
  pub last : World
  pub begins : IsHistory s before first
  pub writes : IsSome (step_writes s first step)
  pub stops : IsHistory s (before ++ Cut step kept ∷ []) stopped
  pub is_stopped : IsStopped stopped 1
  pub undecided : order_of s.config.nodes stopped.sent ≡ []
  pub history : IsHistory s (before ++ Cut step kept ∷ Restart 1 ∷ after) last
  pub runs : FirstRuns last
  pub decided : IsDecided s.config.nodes last.sent 1 call
  pub replied : HasOnlyReply last answer

-- the body asks for promises
abbrev pub is_prepare : Body → Bool
is_prepare (Prepare position ballot) = true
is_prepare (PrepareRange range ballot) = true
is_prepare body = false

-- In some history node 1 leads a range of positions; each packet that asks for promises asks for
-- those of this range in one ballot, one packet a node; two calls are decided, at the positions 1
-- and 2, and task 1 gets this reply.
pub record IsRepliedInRange {S : Type 0} (s : Setting S) (range : Range) (call other : Action)
    (answer : Answer)
    : Type 0 where
  pub events : List Event
  pub world : World
  pub history : IsHistory s events world
  pub leads : Has (Makes (LeadRange 1 range.first range.count)) events
  pub ballot : ℕ
  pub prepares : filter (λ m. is_prepare m.body) world.sent
      ≡ says_to_all s.config.nodes 1 (PrepareRange range ballot)
  pub decided : IsDecided s.config.nodes world.sent 1 call
  pub other_decided : IsDecided s.config.nodes world.sent 2 other
  pub replied : HasOnlyReply world answer

-- the first item that waits at a node to be proposed
pub record WaitsFirst (w : World) (me : ℕ) (item : Action) : Type 0 where
  pub part : NodePart
  pub here : part_at w.nodes me ≡ Some part
  pub running : Running
  pub runs : part.running ≡ Some running
  pub others : List Action
  pub pending : running.pending ≡ item ∷ others

-- the event is that this node starts again
abbrev pub is_restart : ℕ → Event → Bool
is_restart me (Restart node) = nat_eq node me
is_restart me event = false

-- In some history node 2 votes for a call, and node 1, which led, stops before anything is decided
-- and never starts again; node 2, at which another call waits first, leads, the call that was voted
-- for is decided, and task 1 gets this reply.
pub record IsRepliedAfterTakeover {S : Type 0} (s : Setting S) (call other : Action)
    (answer : Answer)
    : Type 0 where
  pub before : List Event
  pub after : List Event
  pub stopped : World
  pub last : World
  pub stops : IsHistory s (before ++ Stop 1 ∷ []) stopped
  pub is_stopped : IsStopped stopped 1
  pub ballot : ℕ
  pub voted : HasVoted stopped.sent 2 1 ballot call
  pub undecided : order_of s.config.nodes stopped.sent ≡ []
  pub waits_first : WaitsFirst stopped 2 other
  pub history : IsHistory s (before ++ Stop 1 ∷ after) last
  pub for_good : filter (is_restart 1) after ≡ []
  pub leads : Has (Makes (Lead 2 (Some 1))) after
  pub decided : IsDecided s.config.nodes last.sent 1 call
  pub replied : HasOnlyReply last answer

-- the event delivers the packet of this number
abbrev pub is_delivery : ℕ → Event → Bool
is_delivery number (Makes (Deliver delivered)) = nat_eq delivered number
is_delivery number event = false

-- In some history two calls are decided, and nobody asks for promises but node 1, once, for both
-- positions; what it says to node 3 of position 1 is lost; node 3 asks it for that position, and
-- applies both calls.
pub record IsCaughtUp {S : Type 0} (s : Setting S) (call other : Action) : Type 0 where
  pub events : List Event
  pub world : World
  pub history : IsHistory s events world
  pub decided : IsDecided s.config.nodes world.sent 1 call
  pub other_decided : IsDecided s.config.nodes world.sent 2 other
  pub range : Range
  pub ballot : ℕ
  pub prepares : filter (λ m. is_prepare m.body) world.sent
      ≡ says_to_all s.config.nodes 1 (PrepareRange range ballot)
  pub number : ℕ
  pub missed : part_at world.sent number ≡ Some (says 1 (Decided 1 call) 3)
  pub lost : filter (is_delivery number) events ≡ []
  pub asks : Has (says 3 (Ask 1) 1) world.sent
  pub part : NodePart
  pub here : part_at world.nodes 3 ≡ Some part
  pub applied : applied_of part.records ≡ call ∷ other ∷ []
