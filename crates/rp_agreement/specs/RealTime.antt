-- What the order of all actions says of the order of time (linearizability: Herlihy and Wing).
use Rattle.std.specs.Prelude.{◌≡◌, ◌<◌, ℕ, suc, Some, List, slice_get}
use Rattle.rp_base.specs.declared.action.Action.{Action}
use Rattle.rp_base.specs.declared.reply.Answer.{Answer}
use Rattle.rp_machine.specs.Places.{IsPlace}
use Rattle.rp_model.specs.Facts.{IsOrder}
use Rattle.rp_model.specs.Parts.{TaskPart}
use Rattle.rp_model.specs.World.{World, part_at}
use Rattle.rp_agreement.specs.Answered.{named, calls_so_far}

-- now this task has the reply to its kth call, counted from 0
abbrev pub IsAnsweredNow : World → ℕ → ℕ → Type 0
IsAnsweredNow now t k =
    (part : TaskPart) × (answer : Answer) × (part_at now.tasks t ≡ Some part)
    × (slice_get part.replies k ≡ Some answer)

-- now this task has made fewer than n calls
abbrev pub IsNotMadeNow : World → ℕ → ℕ → Type 0
IsNotMadeNow now t n =
    (part : TaskPart) × (part_at now.tasks t ≡ Some part) × (calls_so_far part < n)

module _ {S : Type 0} (next : S → Action → S) (answers : S → Action → List Answer) (begin : S) where
  -- In the later order each call that is answered now has a place, which is before that of each
  -- call that is not made now.
  pub record KeepsRealTime (nodes : ℕ) (now later : World) : Type 0 where
    pub order : List Action
    pub decided : IsOrder nodes later.sent order
    pub placed : (t k : ℕ) → IsAnsweredNow now t k
        → (place : ℕ) × IsPlace next answers begin order (named t (suc k)) place
    pub before : (t k u n place other : ℕ) → IsAnsweredNow now t k → IsNotMadeNow now u n
        → IsPlace next answers begin order (named t (suc k)) place
        → IsPlace next answers begin order (named u n) other → place < other
