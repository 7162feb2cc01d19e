-- What is put into a caller's buffer (ours).
use Rattle.std.specs.Prelude.{◌≡◌, ◌<◌, ℕ, Result, Ok, Err, List, ◌++◌, length, take, drop}
use Rattle.rp_requests.specs.declared.buffer.Lengths.{Lengths}
use Rattle.rp_requests.specs.declared.refusal.Refusal.{Refusal}
use Rattle.rp_requests.specs.declared.refusal.Refusal.TheVariants.{Fault, ShortAnswer, BadRequest}
use Rattle.rp_requests.specs.declared.refusal.Refusal.TheVariants.{NoObjects}
use Rattle.rp_requests.specs.declared.refusal.Refusal.TheVariants.{LongAnswer, TooFar, WrongDevice}

-- The bytes to be stored, and the other bytes after them, are at the front of the buffer, whose
-- remaining bytes are as they were.
pub record IsPutInFront (stored others before after : List ℕ) (lengths : Lengths) : Type 0 where
  pub front : after ≡ (stored ++ others) ++ drop (length (stored ++ others)) before
  pub stored_is : lengths.stored ≡ length stored
  pub used_is : lengths.used ≡ length (stored ++ others)

-- They are longer than the buffer, which is as it was, and this is their total length.
pub record IsTooLongForBuffer (stored others before after : List ℕ) (needed : ℕ) : Type 0 where
  pub longer : length before < needed
  pub kept : after ≡ before
  pub needed_is : needed ≡ length (stored ++ others)

-- an array once these are put at its front, as many as it has room for
abbrev pub with_front : List ℕ → List ℕ → List ℕ
with_front front before = take (length before) front ++ drop (length front) before

-- They are put into the buffer, or are too long.
abbrev pub Puts : List ℕ → List ℕ → List ℕ → List ℕ → Result Lengths ℕ → Type 0
Puts stored others before after (Ok lengths) = IsPutInFront stored others before after lengths
Puts stored others before after (Err needed) = IsTooLongForBuffer stored others before after needed

-- As `Puts`, but if they are too long only their length is given out.
abbrev pub PutsOr : List ℕ → List ℕ → List ℕ → List ℕ → Result Lengths Refusal → Type 0
PutsOr stored others before after (Ok lengths) = IsPutInFront stored others before after lengths
PutsOr stored others before after (Err (ShortAnswer needed)) =
    IsTooLongForBuffer stored others before after needed
PutsOr stored others before after (Err (Fault fault)) = ⊥
PutsOr stored others before after (Err BadRequest) = ⊥
PutsOr stored others before after (Err NoObjects) = ⊥
PutsOr stored others before after (Err (LongAnswer needed)) = ⊥
PutsOr stored others before after (Err TooFar) = ⊥
PutsOr stored others before after (Err WrongDevice) = ⊥
