-- A test of names as they are kept, and as texts.
use Rattle.std.proofs.Common.{◌≡◌, List, [], ◌∷◌, map, Bool, ◌||◌, ap, refl}
use Rattle.std.specs.List.{list_any}

pub any_mapped : {X Y : Type 0} (test : Y → Bool) (view : X → Y) (xs : List X) → list_any test (map view xs) ≡ list_any (λ x. test (view x)) xs
any_mapped test view [] = refl
any_mapped test view (x ∷ xs) = ap (λ (b : Bool). test (view x) || b) (any_mapped test view xs)
