-- How a ballot compares with the bounds at positions.
use Rattle.std.specs.Prelude.{ℕ, nat_eq, nat_le, nat_lt, ◌&&◌, ◌||◌, Option, Some, None, List, []}
use Rattle.std.specs.Prelude.{◌∷◌, find, if◌then◌else◌}
use Rattle.std.specs.List.{list_all}
use Rattle.rp_acceptor.specs.declared.comparison.Comparison.{Comparison}
use Rattle.rp_acceptor.specs.declared.comparison.Comparison.TheVariants.{Above, Below, Equal}

-- below the bound at the least position that has one above the ballot, or equal to one
abbrev pub not_above : (ℕ → ℕ) → Option ℕ → Comparison
not_above bound None = Equal
not_above bound (Some i) = Below i (bound i)

-- the ballot against the bounds at positions: above each; else below one, at the least such
-- position; else equal to one
abbrev pub compared : (ℕ → ℕ) → ℕ → List ℕ → Comparison
compared bound b is =
    if list_all (λ i. nat_lt (bound i) b) is then Above
    else not_above bound (find (λ i. nat_lt b (bound i)) is)

-- the ballot against the bound at one position
abbrev pub compared_at : ℕ → ℕ → ℕ → Comparison
compared_at i bound b =
    if nat_lt b bound then Below i bound else if nat_lt bound b then Above else Equal

-- at some positions and at later ones
abbrev pub followed_by : Comparison → Comparison → Comparison
followed_by Above later = later
followed_by (Below i bound) later = Below i bound
followed_by Equal Above = Equal
followed_by Equal (Below i bound) = Below i bound
followed_by Equal Equal = Equal

-- with the greater of two bounds at each of the same positions
abbrev pub combined : Comparison → Comparison → Comparison
combined Above other = other
combined (Below i bound) Above = Below i bound
combined (Below i bound) Equal = Below i bound
combined (Below i bound) (Below j higher) =
    if nat_lt i j || nat_eq i j && nat_le higher bound then Below i bound else Below j higher
combined Equal Above = Equal
combined Equal (Below i bound) = Below i bound
combined Equal Equal = Equal

-- a bound at a position, 0 where there is none
pub record Bound : Type 0 where
  pub position : ℕ
  pub ballot : ℕ

-- the ballot against bounds, in order
abbrev pub compared_bounds : ℕ → List Bound → Comparison
compared_bounds b [] = Above
compared_bounds b (bound ∷ rest) =
    followed_by (compared_at bound.position bound.ballot b) (compared_bounds b rest)
