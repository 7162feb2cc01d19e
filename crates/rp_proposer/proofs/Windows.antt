-- A window of positions has room for one more.
use Rattle.std.proofs.Common.{◌≡◌, ℕ, zero, suc, ◌+◌, ◌<◌, ◌≤◌, not, List, [], ◌∷◌, length, map, refl, sym, ap, subst, inl, inr, arith}
use Rattle.std.specs.Prelude.{nat_eq}
use Rattle.std.proofs.lemmas.Bool.{cases_eq, cases_Bool, both_ways, eq-eqb, cond-true, cond-false}
use Rattle.std.proofs.lemmas.List.{length-map}
use Rattle.rp_base.specs.Sets.{Has, IsSet}
use Rattle.rp_base.specs.Proposals.{Proposal, without_proposal}
use Rattle.rp_base.proofs.Members.{has_mapped, mapped_has, has_passing, set_fits}
use Rattle.rp_proposer.specs.Proposing.{HasRoom, AreInWindow, IsInWindow}

-- n positions from the first on
window : ℕ → ℕ → List ℕ
window first zero = []
window first (suc n) = first ∷ window (suc first) n

window_length : (first n : ℕ) → length (window first n) ≡ n
unfolding window
window_length first zero = refl
window_length first (suc n) = ap suc (window_length (suc first) n)

window_has : (first n i : ℕ) → first ≤ i → i < first + n → Has i (window first n)
unfolding window
window_has first zero i least most = absurd (omega (arith, least, most))
window_has first (suc n) i least most =
    elim (cases_eq i first) [ inl same ↦ inl same | inr other ↦ inr (window_has (suc first) n i (omega arith) (omega (arith, most))) ]

-- the positions of the proposals elsewhere are different
elsewhere : (proposals : List Proposal) (i : ℕ) → IsSet (map (λ p. p.position) proposals) → IsSet (map (λ p. p.position) (without_proposal proposals i))
elsewhere [] i set = tt
elsewhere (p ∷ proposals) i set =
    let rest : List Proposal = without_proposal proposals i in
    elim (cases_Bool (not (nat_eq p.position i))) [
      | inl kept ↦ subst (λ (l : List Proposal). IsSet (map (λ (q : Proposal). q.position) l)) (sym (cond-true (not (nat_eq p.position i)) (p ∷ rest) rest kept)) (
        λ h.
            let hit = mapped_has (λ (q : Proposal). q.position) p.position rest h in
            let there = has_passing (λ (q : Proposal). not (nat_eq q.position i)) hit.0 proposals hit.1 in
            set.0 (subst (λ (n : ℕ). Has n (map (λ (q : Proposal). q.position) proposals)) (sym hit.2) (has_mapped (λ (q : Proposal). q.position) hit.0 proposals there.0)),
        elsewhere proposals i set.1,
      )
      | inr dropped ↦ subst (λ (l : List Proposal). IsSet (map (λ (q : Proposal). q.position) l)) (sym (cond-false (not (nat_eq p.position i)) (p ∷ rest) rest dropped))
          (elsewhere proposals i set.1)
    ]

pub window_has_room : (proposals : List Proposal) (first i : ℕ) → AreInWindow first proposals → IsInWindow first i → HasRoom proposals i
window_has_room proposals first i are inside =
    let others : List Proposal = without_proposal proposals i in
    let positions : List ℕ = map (λ (p : Proposal). p.position) others in
    let none = λ (h : Has i positions).
    let hit = mapped_has (λ (p : Proposal). p.position) i others h in
    let there = has_passing (λ (p : Proposal). not (nat_eq p.position i)) hit.0 proposals hit.1 in
    both_ways (not (nat_eq hit.0.position i)) (ap not (eq-eqb hit.0.position i (sym hit.2))) there.1 in
    let fits : length (i ∷ positions) ≤ length (window first 64) =
    set_fits (i ∷ positions) (window first 64) (none, elsewhere proposals i are.different)
    (λ x h. elim h [
      | inl same ↦ window_has first 64 x (omega (arith, same, inside.0)) (omega (arith, same, inside.1))
      | inr later ↦
          let hit = mapped_has (λ (p : Proposal). p.position) x others later in
          let there = has_passing (λ (p : Proposal). not (nat_eq p.position i)) hit.0 proposals hit.1 in
          let within = are.inside x (subst (λ (n : ℕ). Has n (map (λ (p : Proposal). p.position) proposals)) (sym hit.2) (has_mapped (λ (p : Proposal). p.position) hit.0 proposals there.0)) in
          window_has first 64 x within.0 within.1
    ]) in
    let long = window_length first 64 in
    let same : length positions ≡ length others = length-map others (λ (p : Proposal). p.position) in
    omega (arith, fits, long, same)
