-- Finite sets, as lists in which nothing is twice.
use Rattle.std.specs.Prelude.{◌≡◌, ◌↔◌, ◌⊎◌, Bool, List, [], ◌∷◌, ◌++◌, if◌then◌else◌}
use Rattle.std.specs.List.{list_any}

-- x is in the list
abbrev pub Has : {A : Type 0} → A → List A → Type 0
Has x [] = ⊥
Has x (y ∷ ys) = (x ≡ y) ⊎ Has x ys

-- nothing is twice
abbrev pub IsSet : {A : Type 0} → List A → Type 0
IsSet [] = Unit {0}
IsSet (x ∷ xs) = (¬ Has x xs) × IsSet xs

-- the two have the same members
abbrev pub SameMembers : {A : Type 0} → List A → List A → Type 0
SameMembers {A} xs ys = (x : A) → Has x xs ↔ Has x ys

-- the list with x, at its end unless it is there
abbrev pub with_member : {A : Type 0} → (A → A → Bool) → List A → A → List A
with_member same xs x = if list_any (same x) xs then xs else xs ++ x ∷ []

-- the list with these members too, each once
abbrev pub with_members : {A : Type 0} → (A → A → Bool) → List A → List A → List A
with_members same seen [] = seen
with_members same seen (x ∷ xs) = with_members same (with_member same seen x) xs
