-- Proposals at positions that ascend: where one is, where none is, and that they ascend after a change.
use Rattle.std.proofs.Common.{◌≡◌, ℕ, zero, suc, ◌+◌, ◌<◌, ◌≤◌, Bool, true, false, cond, Some, None, List, [], ◌∷◌, ◌++◌, length, map, set, inl, inr, refl, sym, ap, subst, ◌∙◌, ◌⊎◌, Option, arith}
use Rattle.std.specs.Prelude.{slice_get, filter, is_some}
use Rattle.std.proofs.lemmas.Bool.{eq-eqb, ne_eqb}
use Rattle.rp_base.specs.Sets.{Has, IsSet}
use Rattle.rp_base.specs.Proposals.{Proposal, with_proposal}
use Rattle.rp_proposer.specs.Proposing.{index_from}
use Rattle.rp_proposer.specs.Room.{Rises, IsLastBelow}
use Rattle.rp_proposer.proofs.Places.{IsFound, index_none, index_at}

-- ---- where one is

has_at : (ps : List Proposal) (n : ℕ) (p : Proposal) → slice_get ps n ≡ Some p → Has p.position (map (λ q. q.position) ps)
has_at [] n p at = absurd (cc)
has_at (q ∷ ps) zero p at = let same : q ≡ p = cc in inl (ap (λ (r : Proposal). r.position) (sym same))
has_at (q ∷ ps) (suc n) p at = inr (has_at ps n p at)

found_from : (ps : List Proposal) (k n i : ℕ) (p : Proposal) → slice_get ps n ≡ Some p → p.position ≡ i → IsSet (map (λ q. q.position) ps) → index_from k i ps ≡ Some (k + n)
found_from [] k n i p at here apart = absurd (cc)
found_from (q ∷ ps) k zero i p at here apart =
    let same : q ≡ p = cc in
    let place : q.position ≡ i = ap (λ (r : Proposal). r.position) same ∙ here in
    let is : k ≡ k + 0 = omega arith in
    rw (eq-eqb q.position i place) (ap Some is)
found_from (q ∷ ps) k (suc n) i p at here apart =
    let other = ne_eqb q.position i (λ same. apart.0 (subst (λ (m : ℕ). Has m (map (λ (r : Proposal). r.position) ps)) (here ∙ sym same) (has_at ps n p at))) in
    let is : suc k + n ≡ k + suc n = omega arith in
    rw other (found_from ps (suc k) n i p at here apart.1 ∙ ap Some is)

-- one that is at the position is the one that is found
pub found_there : (ps : List Proposal) (n i : ℕ) (p : Proposal) → slice_get ps n ≡ Some p → p.position ≡ i → IsSet (map (λ q. q.position) ps) → index_from 0 i ps ≡ Some n
found_there ps n i p at here apart = let is : 0 + n ≡ n = omega arith in found_from ps 0 n i p at here apart ∙ ap Some is

-- ---- where none is

none_below : (ps : List Proposal) (n k i : ℕ) → Rises n ps → i < n → index_from k i ps ≡ None
none_below [] n k i up less = refl
none_below (p ∷ ps) n k i up less =
    rw (ne_eqb p.position i (λ same. absurd (omega (arith, same, up.0, less)))) (none_below ps (suc p.position) (suc k) i up.1 (omega (arith, up.0, less)))

-- none is before the first
pub none_before : (ps : List Proposal) (i : ℕ) (p : Proposal) → slice_get ps 0 ≡ Some p → i < p.position → Rises 0 ps → index_from 0 i ps ≡ None
none_before [] i p at less up = refl
none_before (q ∷ ps) i p at less up =
    let same : q.position ≡ p.position = let is : q ≡ p = cc in ap (λ (r : Proposal). r.position) is in
    rw (ne_eqb q.position i (λ e. absurd (omega (arith, e, same, less)))) (none_below ps (suc q.position) 1 i up.1 (omega (arith, same, less)))

last_above : (ps : List Proposal) (n m : ℕ) (p : Proposal) → Rises n ps → slice_get ps m ≡ Some p → n ≤ p.position
last_above [] n m p up at = absurd (cc)
last_above (q ∷ ps) n zero p up at = let same : q.position ≡ p.position = let is : q ≡ p = cc in ap (λ (r : Proposal). r.position) is in omega (arith, same, up.0)
last_above (q ∷ ps) n (suc m) p up at = let more = last_above ps (suc q.position) m p up.1 at in omega (arith, more, up.0)

none_past : (ps : List Proposal) (n k m i : ℕ) (p : Proposal) → Rises n ps → length ps ≡ suc m → slice_get ps m ≡ Some p → p.position < i → index_from k i ps ≡ None
none_past [] n k m i p up long at less = refl
none_past (q ∷ []) n k zero i p up long at less =
    let same : q.position ≡ p.position = let is : q ≡ p = cc in ap (λ (r : Proposal). r.position) is in
    rw (ne_eqb q.position i (λ e. absurd (omega (arith, e, same, less)))) refl
none_past (q ∷ []) n k (suc m) i p up long at less = absurd (omega (arith, long))
none_past (q ∷ r ∷ ps) n k zero i p up long at less = absurd (omega (arith, long))
none_past (q ∷ r ∷ ps) n k (suc m) i p up long at less =
    let more = last_above (r ∷ ps) (suc q.position) m p up.1 at in
    rw (ne_eqb q.position i (λ e. absurd (omega (arith, e, more, less)))) (none_past (r ∷ ps) (suc q.position) (suc k) m i p up.1 (omega (arith, long)) at less)

-- none is after the last
pub none_after : (ps : List Proposal) (m i : ℕ) (p : Proposal) → length ps ≡ suc m → slice_get ps m ≡ Some p → p.position < i → Rises 0 ps → index_from 0 i ps ≡ None
none_after ps m i p long at less up = none_past ps 0 0 m i p up long at less

-- ---- that they ascend after a change

rises_less : (n m : ℕ) (ps : List Proposal) → n ≤ m → Rises m ps → Rises n ps
rises_less n m [] less up = tt
rises_less n m (p ∷ ps) less up = (omega (arith, less, up.0), up.1)

pub rises_passing : (test : Proposal → Bool) (n : ℕ) (ps : List Proposal) → Rises n ps → Rises n (filter test ps)
rises_passing test n [] up = tt
rises_passing test n (p ∷ ps) up =
    let later = rises_passing test (suc p.position) ps up.1 in
    elim (test p) as (λ t. Rises n (cond t (p ∷ filter test ps) (filter test ps))) [
      | true ↦ (up.0, later)
      | false ↦ rises_less n (suc p.position) (filter test ps) (omega (arith, up.0)) later
    ]

pub rises_changed : (change : Proposal → Proposal) → ((p : Proposal) → (change p).position ≡ p.position) → (n : ℕ) (ps : List Proposal) → Rises n ps → Rises n (map change ps)
rises_changed change stays n [] up = tt
rises_changed change stays n (p ∷ ps) up = (
  omega (arith, stays p, up.0),
  subst (λ (i : ℕ). Rises (suc i) (map change ps)) (sym (stays p)) (rises_changed change stays (suc p.position) ps up.1),
)

rises_set : (n : ℕ) (ps : List Proposal) (j : ℕ) (p q : Proposal) → slice_get ps j ≡ Some p → q.position ≡ p.position → Rises n ps → Rises n (set ps j q)
rises_set n [] j p q at here up = absurd (cc)
rises_set n (r ∷ ps) zero p q at here up =
    let same : r.position ≡ q.position = let is : r ≡ p = cc in ap (λ (s : Proposal). s.position) is ∙ sym here in
    (omega (arith, same, up.0), subst (λ (i : ℕ). Rises (suc i) ps) same up.1)
rises_set n (r ∷ ps) (suc j) p q at here up = (up.0, rises_set (suc r.position) ps j p q at here up.1)

rises_push : (n : ℕ) (ps : List Proposal) (m : ℕ) (p q : Proposal) → length ps ≡ suc m → slice_get ps m ≡ Some p → p.position < q.position → Rises n ps → Rises n (ps ++ q ∷ [])
rises_push n [] m p q long at less up = absurd (cc)
rises_push n (r ∷ []) zero p q long at less up =
    let same : r.position ≡ p.position = let is : r ≡ p = cc in ap (λ (s : Proposal). s.position) is in
    (up.0, (omega (arith, same, less), tt))
rises_push n (r ∷ []) (suc m) p q long at less up = absurd (omega (arith, long))
rises_push n (r ∷ s ∷ ps) zero p q long at less up = absurd (omega (arith, long))
rises_push n (r ∷ s ∷ ps) (suc m) p q long at less up = (up.0, rises_push (suc r.position) (s ∷ ps) m p q (omega (arith, long)) at less up.1)

-- with one put where another was
pub rises_in_place : (ps : List Proposal) (n i : ℕ) (p q : Proposal) → IsFound ps i n p → q.position ≡ i → Rises 0 ps → Rises 0 (with_proposal ps q)
rises_in_place ps n i p q found here up =
    subst (λ (l : List Proposal). Rises 0 l) (sym (found.put q here)) (rises_set 0 ps n p q found.at (here ∙ sym found.place) up)

-- with one put after the last
pub rises_at_end : (ps : List Proposal) (q : Proposal) → index_from 0 q.position ps ≡ None → IsLastBelow ps q.position → Rises 0 ps → Rises 0 (with_proposal ps q)
rises_at_end [] q none below up = (omega arith, tt)
rises_at_end (r ∷ ps) q none below up =
    subst (λ (l : List Proposal). Rises 0 l) (sym ((index_none (r ∷ ps) 0 q.position none).put q refl)) (rises_push 0 (r ∷ ps) below.others below.last q below.count below.at below.below up)

-- with one put where others may run
pub rises_with : (ps : List Proposal) (found : Option ℕ) (q : Proposal) → found ≡ index_from 0 q.position ps → (is_some found ≡ true) ⊎ IsLastBelow ps q.position → Rises 0 ps → Rises 0 (with_proposal ps q)
rises_with ps (Some n) q is how up = let at = index_at ps n q.position (sym is) in rises_in_place ps n q.position at.0 q at.1 refl up
rises_with ps None q is (inl found) up = absurd (cc)
rises_with ps None q is (inr below) up = rises_at_end ps q (sym is) below up
