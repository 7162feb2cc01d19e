-- What no body changes: which components there are, and the ranges of whole numbers.
use Rattle.std.specs.Prelude.{◌≡◌, ℕ, ◌<◌, ◌↔◌, ℤ, IsTrue, true, is_some, option_map, IfSome}
use Rattle.std.specs.FinMap.{get, len}
use Rattle.rp_body.specs.declared.components.Ranged.{Ranged}
use Rattle.rp_body.specs.declared.components.Limits.{Limits}
use Rattle.rp_body.specs.Store.{Store, is_within}

-- the range of a whole number
abbrev pub range_of : Ranged → ℤ × ℤ
range_of component = (component.low, component.high)

-- the same names denote whole numbers, each with the same range
abbrev pub HasRangesOf : Store → Store → Type 0
HasRangesOf old new =
    (name : ℕ) → option_map range_of (get new.ints name) ≡ option_map range_of (get old.ints name)

-- each whole number lies in its range
abbrev pub IsInRange : Store → Type 0
IsInRange store =
    (name : ℕ) → IfSome (get store.ints name)
    (λ component. IsTrue (is_within component.low component.high component.value))

-- the ranges stay, and values that lie in them still do
pub record KeepsRanges (old new : Store) : Type 0 where
  pub ranges : HasRangesOf old new
  pub values : IsInRange old → IsInRange new

-- the components of each kind are named by the numbers below their count
pub record IsNumbered (store : Store) : Type 0 where
  pub ints : (name : ℕ) → is_some (get store.ints name) ≡ true ↔ (name < len store.ints)
  pub bools : (name : ℕ) → is_some (get store.bools name) ≡ true ↔ (name < len store.bools)

-- each Boolean that is counted is there
abbrev pub HasBools : Limits → Store → Type 0
HasBools limits store = (name : ℕ) → name < limits.bools → is_some (get store.bools name) ≡ true

-- the same names denote Booleans
abbrev pub HasBoolsOf : Store → Store → Type 0
HasBoolsOf old new = (name : ℕ) → is_some (get new.bools name) ≡ is_some (get old.bools name)
