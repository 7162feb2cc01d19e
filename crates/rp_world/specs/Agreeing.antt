-- What nodes have in common.
use Rattle.std.specs.Prelude.{◌≡◌, ◌≤◌, ℕ, suc, Bool, true, false, nat_lt, Some, List, length}
use Rattle.std.specs.Prelude.{slice_get}
use Rattle.rp_base.specs.Records.{applied_of}
use Rattle.rp_base.specs.declared.action.Action.{Action}
use Rattle.rp_base.specs.declared.reply.Answer.{Answer}
use Rattle.rp_model.specs.rp_machine.specs.Calls.{CallName}
use Rattle.rp_model.specs.rp_machine.specs.Places.{IsPlace, IsOnlyPlace, HasReply}
use Rattle.rp_model.specs.rp_machine.specs.Replay.{replay_of, replay_state, counted_of}
use Rattle.rp_model.specs.Facts.{IsOrder}
use Rattle.rp_model.specs.World.{World, part_at}
use Rattle.rp_model.specs.Parts.{NodePart}
use Rattle.rp_model.specs.Parts.{TaskPart}
use Rattle.rp_agreement.specs.Answered.{named, calls_so_far, AreItsCalls}
use Rattle.rp_agreement.specs.Order.{IsPrefix, AreAlike}

-- a node now and one later
abbrev pub EachTwo : World → World → (NodePart → NodePart → Type 0) → Type 0
EachTwo now later P =
    (x y : ℕ) (one other : NodePart) → part_at now.nodes x ≡ Some one
    → part_at later.nodes y ≡ Some other → P one other

-- they have applied equally many actions
abbrev pub AreLevel : NodePart → NodePart → Type 0
AreLevel one other = length (applied_of one.records) ≡ length (applied_of other.records)

-- Of what two nodes have applied, the one now and the other later, one is a prefix of the other;
-- and if they have applied equally many actions they are in one state, with the same answers
-- given, and show the same image.
pub record Agree {S : Type 0} (next : S → Action → S) (answers : S → Action → List Answer)
    (image : S → List ℕ)
    (begin : S) (now later : World) : Type 0 where
  pub applied : EachTwo now later
      (λ one other. AreAlike (applied_of one.records) (applied_of other.records))
  pub states : EachTwo now later (λ one other. AreLevel one other
      → replay_of next answers begin (applied_of one.records)
      ≡ replay_of next answers begin (applied_of other.records))
  pub images : EachTwo now later (λ one other. AreLevel one other
      → image (replay_state next answers begin (applied_of one.records))
      ≡ image (replay_state next answers begin (applied_of other.records)))

module _ {S : Type 0} (next : S → Action → S) (answers : S → Action → List Answer) (begin : S) where
  -- A call takes effect at exactly one place of the actions, if it is answered; else at one place
  -- at most.
  abbrev pub TakesEffectOnce : List Action → CallName → Bool → Type 0
  TakesEffectOnce actions call true =
      (place : ℕ) × IsOnlyPlace next answers begin actions call place
  TakesEffectOnce actions call false =
      (one other : ℕ) → IsPlace next answers begin actions call one
      → IsPlace next answers begin actions call other → one ≡ other

  -- There is one order in which all happens: what each node has applied is a prefix of it; the
  -- calls of each task that count in it are those that the task made, in order, with their objects,
  -- operations and arguments, all of them or all but the one that it waits for; the reply that the
  -- task got to its nth call is the one that the order gives, at the call's place. A call of the
  -- task takes effect at exactly one place of the order if the task got its reply, and otherwise at
  -- one at most; and each call that takes effect is one that a task of the world made.
  pub record IsOrdered (nodes : ℕ) (w : World) : Type 0 where
    pub order : List Action
    pub decided : IsOrder nodes w.sent order
    pub applied : (x : ℕ) (part : NodePart) → part_at w.nodes x ≡ Some part
        → IsPrefix (applied_of part.records) order
    pub calls : (t : ℕ) (part : TaskPart) → part_at w.tasks t ≡ Some part
        → AreItsCalls w.sent t part (counted_of next answers begin order)
    pub replies : (t k : ℕ) (part : TaskPart) (answer : Answer) → part_at w.tasks t ≡ Some part
        → slice_get part.replies k ≡ Some answer
        → HasReply next answers begin order (named t (suc k)) answer
    pub once : (t k : ℕ) (part : TaskPart) → part_at w.tasks t ≡ Some part
        → TakesEffectOnce order (named t (suc k)) (nat_lt k (length part.replies))
    pub made : (t n place : ℕ) → IsPlace next answers begin order (named t n) place
        → (part : TaskPart) × (part_at w.tasks t ≡ Some part) × (1 ≤ n) × (n ≤ calls_so_far part)
