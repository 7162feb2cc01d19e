-- Proposals at positions in a row.
use Rattle.std.specs.Prelude.{◌≡◌, ℕ, suc, false, Option, Some, None, List, [], ◌∷◌}
use Rattle.std.specs.Prelude.{nat_eq, not, ◌&&◌, if◌then◌else◌}
use Rattle.rp_base.specs.Proposals.{Proposal, is_prepared}

-- a proposal runs that is not prepared
abbrev pub IsBusy : ℕ → Option Proposal → Type 0
IsBusy nodes None = ⊥
IsBusy nodes (Some p) = is_prepared nodes p ≡ false

-- how many of the proposals, from the first on, run at positions in a row from i on and are not
-- prepared
abbrev pub in_row : ℕ → ℕ → List Proposal → ℕ
in_row nodes i [] = 0
in_row nodes i (p ∷ rest) =
    if nat_eq p.position i && not (is_prepared nodes p) then suc (in_row nodes (suc i) rest) else 0
