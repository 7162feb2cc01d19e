-- Lists of which one is a prefix of the other, and lists of decided actions.
use Rattle.std.specs.Prelude.{◌≡◌, ◌⊎◌, ℕ, suc, Some, List, ◌++◌, slice_get}
use Rattle.rp_base.specs.Sets.{Has}
use Rattle.rp_base.specs.declared.action.Action.{Action}
use Rattle.rp_codec.specs.Message.{Message}
use Rattle.rp_model.specs.Facts.{IsDecided}

-- the first list is a prefix of the second
abbrev pub IsPrefix : {A : Type 0} → List A → List A → Type 0
IsPrefix {A} xs ys = (rest : List A) × (ys ≡ xs ++ rest)

-- of two lists one is a prefix of the other
abbrev pub AreAlike : {A : Type 0} → List A → List A → Type 0
AreAlike xs ys = IsPrefix xs ys ⊎ IsPrefix ys xs

-- the ith action is decided at position i, for each from 1 on
abbrev pub AreDecided : ℕ → List Message → List Action → Type 0
AreDecided nodes sent actions =
    (k : ℕ) (v : Action) → slice_get actions k ≡ Some v → IsDecided nodes sent (suc k) v

-- all that was sent is still sent later
abbrev pub AllSent : List Message → List Message → Type 0
AllSent sent later = (m : Message) → Has m sent → Has m later
