-- Proposals at positions in a row.
use Rattle.std.proofs.Common.{◌≡◌, ℕ, suc, ◌+◌, ◌<◌, ◌≤◌, Bool, true, false, cond, nat_eq, not, ◌&&◌, List, [], ◌∷◌, refl, inl, inr, arith, eqb-true}
use Rattle.std.proofs.lemmas.Bool.{eq-eqb, ne_eqb, cases_lt}
use Rattle.rp_base.specs.Proposals.{Proposal, proposal_at, is_prepared}
use Rattle.rp_proposer.specs.Rows.{IsBusy, in_row}

-- one runs at the first position, and those of the rest follow
first_or_later : (nodes i j rest_row : ℕ) (p : Proposal) (rest : List Proposal) (same prepared : Bool) → (i < j → j < suc i + rest_row → IsBusy nodes (proposal_at rest j)) → i ≤ j
    → nat_eq p.position i ≡ same → is_prepared nodes p ≡ prepared → j < i + cond (same && not prepared) (suc rest_row) 0 → IsBusy nodes (proposal_at (p ∷ rest) j)
first_or_later nodes i j rest_row p rest true false later low at is within =
    let place : p.position ≡ i = eqb-true p.position i at in
    elim (cases_lt i j) [
      | inl above ↦ rw (ne_eqb p.position j (λ e. absurd (omega (arith, e, place, above)))) (later above (omega (arith, within)))
      | inr past ↦ let here : p.position ≡ j = omega (arith, place, low, past) in rw (eq-eqb p.position j here) is
    ]
first_or_later nodes i j rest_row p rest true true later low at is within = absurd (omega (arith, low, within))
first_or_later nodes i j rest_row p rest false true later low at is within = absurd (omega (arith, low, within))
first_or_later nodes i j rest_row p rest false false later low at is within = absurd (omega (arith, low, within))

-- at each of these positions one runs that is not prepared
pub busy_in_row : (nodes i : ℕ) (ps : List Proposal) (j : ℕ) → i ≤ j → j < i + in_row nodes i ps → IsBusy nodes (proposal_at ps j)
busy_in_row nodes i [] j low high = absurd (omega (arith, low, high))
busy_in_row nodes i (p ∷ rest) j low high =
    first_or_later nodes i j (in_row nodes (suc i) rest) p rest (nat_eq p.position i) (is_prepared nodes p) (λ above within. busy_in_row nodes (suc i) rest j (omega (arith, above)) within) low refl refl high
