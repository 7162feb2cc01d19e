-- Proposals that begin at the positions of a range: how many run then.
use Rattle.std.proofs.Common.{◌≡◌, ℕ, zero, suc, ◌+◌, ◌-◌, ◌<◌, ◌≤◌, Bool, true, false, cond, Some, None, List, [], ◌∷◌, ◌++◌, length, map, append-nil, append_assoc, length-append, inl, inr, refl, sym, ap, ◌∙◌, arith}
use Rattle.std.specs.Prelude.{nat_eq, not, filter}
use Rattle.std.specs.Int.{bit_at}
use Rattle.std.specs.List.{range_with_len, list_any}
use Rattle.std.proofs.lemmas.Bool.{ne_eqb, both_ways, or_parts, and_from, le-leb, lt-ltb}
use Rattle.std.proofs.lemmas.Bool.Decides.{eqb_tells}
use Rattle.rp_base.proofs.Stretches.{range_next}
use Rattle.rp_base.specs.Ranges.{Range, is_covered}
use Rattle.rp_base.specs.Proposals.{Proposal, proposal_at, with_proposal, without_proposal, with_range, range_proposal}

pub few_pass : (test : Proposal → Bool) (proposals : List Proposal) → length (filter test proposals) ≤ length proposals
few_pass test [] = omega arith
few_pass test (p ∷ rest) =
    let fewer = few_pass test rest in
    elim (test p) as (λ t. length (cond t (p ∷ filter test rest) (filter test rest)) ≤ suc (length rest)) [ true ↦ omega (arith, fewer) | false ↦ omega (arith, fewer) ]

-- fewer run elsewhere than with one put at its position
pub fewer_elsewhere : (proposals : List Proposal) (p : Proposal) → length (without_proposal proposals p.position) < length (with_proposal proposals p)
fewer_elsewhere [] p = omega arith
fewer_elsewhere (q ∷ rest) p =
    elim (eqb_tells q.position p.position) [
      | inl same ↦ let fewer = few_pass (λ r. not (nat_eq r.position p.position)) rest in rw same.0 (omega (arith, fewer))
      | inr other ↦ let fewer = fewer_elsewhere rest p in rw other.0 (omega (arith, fewer))
    ]

no_fewer : (proposals : List Proposal) (p : Proposal) → length proposals ≤ length (with_proposal proposals p)
no_fewer [] p = omega arith
no_fewer (q ∷ rest) p =
    elim (eqb_tells q.position p.position) [
      | inl same ↦ rw same.0 (omega arith)
      | inr other ↦ let more = no_fewer rest p in rw other.0 (omega (arith, more))
    ]

-- no fewer run with those of a range
pub range_no_fewer : (proposals : List Proposal) (b : ℕ) (positions : List ℕ) → length proposals ≤ length (with_range proposals b positions)
range_no_fewer proposals b [] = omega arith
range_no_fewer proposals b (i ∷ rest) =
    let one = no_fewer proposals (range_proposal b i) in
    let more : length (with_proposal proposals (range_proposal b i)) ≤ length (with_range proposals b (i ∷ rest)) =
    range_no_fewer (with_proposal proposals (range_proposal b i)) b rest in
    omega (arith, one, more)

-- the positions that are not skipped, from an index on
abbrev pub open_from : ℕ → ℕ → ℕ → ℕ → List ℕ
open_from skip first count index = filter (λ i. not (nat_eq (bit_at skip (i - first)) 1)) (range_with_len (first + index) (count - index))

by_bit : (proposals : List Proposal) (b i : ℕ) (rest : List ℕ) (t : Bool)
    → with_range (cond t proposals (with_proposal proposals (range_proposal b i))) b rest ≡ with_range proposals b (cond (not t) (i ∷ rest) rest)
by_bit proposals b i rest true = refl
by_bit proposals b i rest false = refl

-- with a proposal put at the next position, if it is not skipped, and then at the later ones
pub begins_next : (proposals : List Proposal) (b skip first count index : ℕ) → index < count
    → with_range (cond (nat_eq (bit_at skip index) 1) proposals (with_proposal proposals (range_proposal b (first + index)))) b (open_from skip first count (index + 1))
    ≡ with_range proposals b (open_from skip first count index)
begins_next proposals b skip first count index within =
    let i : ℕ = first + index in
    let rest : List ℕ = open_from skip first count (index + 1) in
    let minus : first + index - first ≡ index = omega arith in
    by_bit proposals b i rest (nat_eq (bit_at skip index) 1)
    ∙ ap (λ (k : ℕ). with_range proposals b (cond (not (nat_eq (bit_at skip k) 1)) (i ∷ rest) rest)) (sym minus)
    ∙ ap (λ (l : List ℕ). with_range proposals b (filter (λ j. not (nat_eq (bit_at skip (j - first)) 1)) l)) (sym (range_next first count index within))

-- where all have room, the next one does
pub room_next : (proposals : List Proposal) (b skip first count index room : ℕ) → index < count → nat_eq (bit_at skip index) 1 ≡ false
    → length (with_range proposals b (open_from skip first count index)) ≤ room → length (without_proposal proposals (first + index)) < room
room_next proposals b skip first count index room within is most =
    let p : Proposal = range_proposal b (first + index) in
    let rest : List ℕ = open_from skip first count (index + 1) in
    let same : with_range (with_proposal proposals p) b rest ≡ with_range proposals b (open_from skip first count index) =
    ap (λ (t : Bool). with_range (cond t proposals (with_proposal proposals p)) b rest) (sym is) ∙ begins_next proposals b skip first count index within in
    let long = ap length same in
    let more = range_no_fewer (with_proposal proposals p) b rest in
    let fewer : length (without_proposal proposals (first + index)) < length (with_proposal proposals p) = fewer_elsewhere proposals p in
    omega (arith, long, more, fewer, most)

-- ---- where none runs at a position of the range

absent_put : (proposals : List Proposal) (q : Proposal) → proposal_at proposals q.position ≡ None → with_proposal proposals q ≡ proposals ++ q ∷ []
absent_put [] q h = refl
absent_put (p ∷ rest) q h =
    elim (eqb_tells p.position q.position) [
      | inl same ↦ let is : Some p ≡ None = rw same.0 at h in absurd (cc)
      | inr other ↦ rw other.0 (ap (λ (l : List Proposal). p ∷ l) (absent_put rest q (rw other.0 at h)))
    ]

absent_after : (proposals : List Proposal) (q : Proposal) (i : ℕ) → q.position < i → proposal_at proposals i ≡ None → proposal_at (proposals ++ q ∷ []) i ≡ None
absent_after [] q i below h = rw (ne_eqb q.position i (λ same. absurd (omega (arith, same, below)))) refl
absent_after (p ∷ rest) q i below h =
    elim (eqb_tells p.position i) [
      | inl same ↦ let is : Some p ≡ None = rw same.0 at h in absurd (cc)
      | inr other ↦ rw other.0 (absent_after rest q i below (rw other.0 at h))
    ]

-- none runs at a position that is covered, where none is found there
pub none_covered : (range : Range) (proposals : List Proposal) → list_any (λ p. is_covered range p.position) proposals ≡ false
    → (i : ℕ) → range.first ≤ i → i < range.first + range.count → proposal_at proposals i ≡ None
none_covered range [] none i least most = refl
none_covered range (p ∷ rest) none i least most =
    let both = or_parts (is_covered range p.position) (list_any (λ q. is_covered range q.position) rest) none in
    elim (eqb_tells p.position i) [
      | inl same ↦
          let low = le-leb range.first p.position (omega (arith, same.1, least)) in
          let high = lt-ltb p.position (range.first + range.count) (omega (arith, same.1, most)) in
          let covered : is_covered range p.position ≡ true = and_from _ _ low high in
          absurd (both_ways (is_covered range p.position) both.0 covered)
      | inr other ↦ rw other.0 (none_covered range rest both.1 i least most)
    ]

-- where none runs at the positions, a proposal for each that passes is put after the others
pub pushed : (test : ℕ → Bool) (proposals : List Proposal) (b first count : ℕ) → ((i : ℕ) → first ≤ i → i < first + count → proposal_at proposals i ≡ None)
    → with_range proposals b (filter test (range_with_len first count)) ≡ proposals ++ map (range_proposal b) (filter test (range_with_len first count))
pushed test proposals b first zero none = sym (append-nil proposals)
pushed test proposals b first (suc n) none =
    let p : Proposal = range_proposal b first in
    let rest : List ℕ = filter test (range_with_len (first + 1) n) in
    let here : with_proposal proposals p ≡ proposals ++ p ∷ [] = absent_put proposals p (none first (omega arith) (omega arith)) in
    let later = pushed test (proposals ++ p ∷ []) b (first + 1) n (λ i least most.
    absent_after proposals p i (omega (arith, least)) (none i (omega (arith, least)) (omega (arith, most)))) in
    elim (test first) as (λ t. with_range proposals b (cond t (first ∷ rest) rest) ≡ proposals ++ map (range_proposal b) (cond t (first ∷ rest) rest)) [
      | true ↦ ap (λ (l : List Proposal). with_range l b rest) here ∙ later ∙ append_assoc proposals (p ∷ []) (map (range_proposal b) rest)
      | false ↦ pushed test proposals b (first + 1) n (λ i least most. none i (omega (arith, least)) (omega (arith, most)))
    ]

abbrev pushed_from : List Proposal → ℕ → List ℕ → List Proposal
pushed_from proposals b positions = proposals ++ map (range_proposal b) positions

pushed_by : (proposals : List Proposal) (b i : ℕ) (rest : List ℕ) (t : Bool)
    → pushed_from (cond t proposals (proposals ++ range_proposal b i ∷ [])) b rest ≡ pushed_from proposals b (cond (not t) (i ∷ rest) rest)
pushed_by proposals b i rest true = refl
pushed_by proposals b i rest false = append_assoc proposals (range_proposal b i ∷ []) (map (range_proposal b) rest)

-- with one pushed for the next position, if it is not skipped, and then for the later ones
pub pushed_next : (proposals : List Proposal) (b skip first count index : ℕ) → index < count
    → cond (nat_eq (bit_at skip index) 1) proposals (proposals ++ range_proposal b (first + index) ∷ []) ++ map (range_proposal b) (open_from skip first count (index + 1))
    ≡ proposals ++ map (range_proposal b) (open_from skip first count index)
pushed_next proposals b skip first count index within =
    let i : ℕ = first + index in
    let rest : List ℕ = open_from skip first count (index + 1) in
    let minus : first + index - first ≡ index = omega arith in
    pushed_by proposals b i rest (nat_eq (bit_at skip index) 1)
    ∙ ap (λ (k : ℕ). pushed_from proposals b (cond (not (nat_eq (bit_at skip k) 1)) (i ∷ rest) rest)) (sym minus)
    ∙ ap (λ (l : List ℕ). pushed_from proposals b (filter (λ j. not (nat_eq (bit_at skip (j - first)) 1)) l)) (sym (range_next first count index within))

-- where there is room for all, there is for the next one
pub push_room : (proposals : List Proposal) (b skip first count index room : ℕ) → index < count → nat_eq (bit_at skip index) 1 ≡ false
    → length (proposals ++ map (range_proposal b) (open_from skip first count index)) ≤ room → length proposals < room
push_room proposals b skip first count index room within is most =
    let p : Proposal = range_proposal b (first + index) in
    let rest : List Proposal = map (range_proposal b) (open_from skip first count (index + 1)) in
    let same : (proposals ++ p ∷ []) ++ rest ≡ proposals ++ map (range_proposal b) (open_from skip first count index) =
    ap (λ (t : Bool). cond t proposals (proposals ++ p ∷ []) ++ rest) (sym is) ∙ pushed_next proposals b skip first count index within in
    let long = ap length same in
    let parts : length ((proposals ++ p ∷ []) ++ rest) ≡ length proposals + 1 + length rest = simp length-append in
    omega (arith, long, parts, most)
