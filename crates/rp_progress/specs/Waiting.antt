-- A call that a task waits for: what has to be left so that it can count, and what becomes of it.
use Rattle.std.specs.Prelude.{◌≡◌, ℕ, suc, ◌+◌, ◌-◌, ◌<◌, ◌≤◌, ◌^◌, Option, Some, None, List, []}
use Rattle.std.specs.Prelude.{◌∷◌, ◌++◌, ◌⊎◌, length}
use Rattle.rp_base.specs.Majority.{AreNodes, majority_of}
use Rattle.rp_base.specs.Number.{IsUpTo}
use Rattle.rp_base.specs.Records.{applied_of, first_unlearned}
use Rattle.rp_base.specs.Sets.{Has}
use Rattle.rp_base.specs.declared.action.Action.{Action}
use Rattle.rp_base.specs.declared.record.Rec.{Rec}
use Rattle.rp_base.specs.declared.record.Rec.TheVariants.{Voted}
use Rattle.rp_base.specs.declared.reply.Answer.{Answer}
use Rattle.rp_machine.specs.Calls.{CallName}
use Rattle.rp_machine.specs.Places.{IsPlace, IsAnswerOf, HasReply}
use Rattle.rp_model.specs.Effect.{Setting}
use Rattle.rp_model.specs.Events.{Event}
use Rattle.rp_model.specs.Facts.{IsDecided}
use Rattle.rp_model.specs.World.{World, part_at}
use Rattle.rp_agreement.specs.Answered.{named}
use Rattle.rp_agreement.specs.Computed.{order_of}
use Rattle.rp_agreement.specs.Worlds.{node_in}
use Rattle.rp_possible.specs.Rounds.{GoesOnBy, AreWithinRound}

-- the records of the node of this number
abbrev pub records_in : World → ℕ → List Rec
records_in w y = (node_in w.nodes y).records

-- what the node of this number has applied
abbrev pub applied_in : World → ℕ → List Action
applied_in w y = applied_of (records_in w y)

-- more than half of the nodes, of which the leader is one
pub record IsQuorum (nodes : ℕ) (quorum : List ℕ) (leader : ℕ) : Type 0 where
  pub members : AreNodes nodes quorum
  pub majority : majority_of nodes ≤ length quorum
  pub leads : Has leader quorum

-- none of these nodes wrote a vote at the position
abbrev pub IsUnvoted : (ℕ → List Rec) → List ℕ → ℕ → Type 0
IsUnvoted records nodes i = (y b : ℕ) (v : Action) → Has y nodes → ¬ Has (Voted i b v) (records y)

-- A position is left, where each node has these records: one of the log at which no node of the
-- quorum voted.
pub record IsPositionLeft (most : ℕ) (records : ℕ → List Rec) (quorum : List ℕ) (i : ℕ)
    : Type 0 where
  pub in_log : IsUpTo most i
  pub unvoted : IsUnvoted records quorum i

-- Ballots are left: no ballot on a record of the quorum is of a round above this one, and there is
-- a round above it for each position from the leader's first unlearned one to this one.
pub record AreBallotsLeft (records : ℕ → List Rec) (quorum : List ℕ) (leader i round : ℕ)
    : Type 0 where
  pub within : (y : ℕ) → Has y quorum → AreWithinRound round (records y)
  pub enough : round + (suc i - first_unlearned (records leader)) < 2 ^ 32

-- the task has got these replies and no others, and waits for this call, or for none
abbrev pub TaskHas : World → ℕ → List Answer → Option Action → Type 0
TaskHas w t replies waits =
    part_at w.tasks t ≡ Some (record { outstanding = waits; replies = replies })

-- the next call of a task that has got these replies
abbrev pub next_of : ℕ → List Answer → CallName
next_of t replies = named t (suc (length replies))

-- The task has got this answer too, and waits for none; it is the reply that the order of all
-- actions gives to the call.
pub record IsRepliedTo {S : Type 0} (s : Setting S) (t : ℕ) (replies : List Answer) (answer : Answer)
    (w : World)
    : Type 0 where
  pub taken : TaskHas w t (replies ++ answer ∷ []) None
  pub ordered : HasReply s.next s.answers s.begin (order_of s.config.nodes w.sent)
      (next_of t replies) answer

-- A task's next call can count: from this world on, by these events and more, all of them of the
-- quorum and of the task, and with no packet of before. Then the leader has applied the call at a
-- place where it counts; and if what the leader has applied answers it, the task has got this
-- answer.
pub record CanCount {S : Type 0} (s : Setting S) (quorum : List ℕ) (leader t : ℕ)
    (replies : List Answer) (w : World) (begins : List Event)
    : Type 0 where
  pub more : List Event
  pub after : World
  pub goes_on : GoesOnBy s quorum t (length w.sent) w (begins ++ more) after
  pub place : ℕ
  pub counts : IsPlace s.next s.answers s.begin (applied_in after leader) (next_of t replies) place
  pub replied : (answer : Answer)
      → IsAnswerOf s.next s.answers s.begin (applied_in after leader) (next_of t replies) answer
      → IsRepliedTo s t replies answer after

-- The leader has applied a task's next call, and nothing that it has applied answers it: the call
-- waits at its object.
pub record WaitsAtItsObject {S : Type 0} (s : Setting S) (leader t : ℕ) (replies : List Answer)
    (w : World)
    : Type 0 where
  pub place : ℕ
  pub counts : IsPlace s.next s.answers s.begin (applied_in w leader) (next_of t replies) place
  pub unanswered : (answer : Answer)
      → ¬ IsAnswerOf s.next s.answers s.begin (applied_in w leader) (next_of t replies) answer

-- A task's next call can be answered, by events as above; or it waits at its object after them.
pub record CanBeAnswered {S : Type 0} (s : Setting S) (quorum : List ℕ) (leader t : ℕ)
    (replies : List Answer) (w : World)
    : Type 0 where
  pub more : List Event
  pub after : World
  pub goes_on : GoesOnBy s quorum t (length w.sent) w more after
  pub ends : ((answer : Answer) × IsRepliedTo s t replies answer after)
      ⊎ WaitsAtItsObject s leader t replies after

-- ---- a full log

-- at each position of the log an action is decided
abbrev pub IsFull : ℕ → ℕ → World → Type 0
IsFull nodes most w =
    (i : ℕ) → 1 ≤ i → i ≤ most → (v : Action) × IsDecided nodes w.sent i v

-- No position is left, and the log can be filled without a task's next call: from this world on, by
-- events of the quorum and of the task, and with no packet of before. Then it is full, and the call
-- has no place in it.
pub record CanFill {S : Type 0} (s : Setting S) (quorum : List ℕ) (t : ℕ) (replies : List Answer)
    (w : World)
    : Type 0 where
  pub none_left : (i : ℕ) → ¬ IsPositionLeft s.config.max_positions (records_in w) quorum i
  pub more : List Event
  pub after : World
  pub goes_on : GoesOnBy s quorum t (length w.sent) w more after
  pub full : IsFull s.config.nodes s.config.max_positions after
  pub absent : (place : ℕ)
      → ¬ IsPlace s.next s.answers s.begin (order_of s.config.nodes after.sent)
      (next_of t replies) place
