-- The positions of a range, one after another.
use Rattle.std.proofs.Common.{◌≡◌, ℕ, suc, ◌+◌, ◌-◌, ◌<◌, ◌∷◌, refl, subst, arith}
use Rattle.std.specs.List.{range_with_len}

-- the positions from an index on are the one there and those after it
pub range_next : (first count index : ℕ) → index < count
    → range_with_len (first + index) (count - index) ≡ (first + index) ∷ range_with_len (first + (index + 1)) (count - (index + 1))
range_next first count index within =
    let rest : ℕ = count - (index + 1) in
    let many : suc rest ≡ count - index = omega (arith, within) in
    let next : first + index + 1 ≡ first + (index + 1) = omega arith in
    subst (λ (n : ℕ). range_with_len (first + index) n ≡ (first + index) ∷ range_with_len (first + (index + 1)) rest) many
    (subst (λ (a : ℕ). (first + index) ∷ range_with_len (first + index + 1) rest ≡ (first + index) ∷ range_with_len a rest) next refl)
