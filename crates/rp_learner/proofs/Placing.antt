-- The places of a learner, and the sets of votes and positions that they represent.
use Rattle.std.proofs.Common.{◌≡◌, ℕ, zero, suc, ◌+◌, ◌<◌, Bool, true, false, ◌↔◌, ◌||◌, Option, Some, None, List, [], ◌∷◌, ◌++◌, map, set, refl, sym, ap, subst, ◌∙◌, inl, inr, arith}
use Rattle.std.specs.Prelude.{nat_eq, slice_get, unwrap_or}
use Rattle.std.specs.List.{list_any}
use Rattle.std.proofs.lemmas.Bool.{both_ways, ne_eqb, eq-eqb, or_left, or_from}
use Rattle.rp_base.specs.Sets.{Has}
use Rattle.rp_base.specs.Promises.{HeardVote}
use Rattle.rp_learner.specs.Casts.{CastVote}
use Rattle.rp_learner.specs.Place.{Place}
use Rattle.rp_learner.specs.Place.{Unheard, Heard, Settled}
use Rattle.rp_learner.specs.Places.{votes_in, is_settled_in, heard_from, if_settled, settled_from}
use Rattle.rp_base.proofs.Members.{found}
use Rattle.std.proofs.lemmas.Bool.Decides.{Decides-eqb}
use Rattle.rp_base.proofs.Members.{has_split, has_left, has_right, has_mapped}

-- a vote of a node, heard at a position
abbrev pub heard_as : ℕ → CastVote → HeardVote
heard_as i c = (c.from, i, c.vote)

-- the vote without its position
abbrev pub cast_of : HeardVote → CastVote
cast_of h = record { from = h.0; vote = h.2 }

-- the votes that a place holds, if there is one
abbrev pub votes_of : Option Place → List CastVote
votes_of None = []
votes_of (Some place) = votes_in place

-- whether a place is settled, if there is one
abbrev pub settled_of : Option Place → Bool
settled_of None = false
settled_of (Some place) = is_settled_in place

-- what an `Option` holds
some_is : {x y : Place} → Some x ≡ Some y → x ≡ y
some_is {x} {y} e = ap (λ (o : Option Place). unwrap_or o x) e

pub or_skip : (x y : Bool) → x ≡ false → (x || y) ≡ y
or_skip x y e = ap (λ (t : Bool). t || y) e

heard_here : (i : ℕ) (h : HeardVote) (votes : List CastVote) → Has h (map (heard_as i) votes) → (h.1 ≡ i) × Has (cast_of h) votes
heard_here i h [] m = absurd m
heard_here i h (c ∷ votes) m =
    elim m [
      | inl e ↦ (ap (λ (k : HeardVote). k.1) e, inl (ap cast_of e))
      | inr later ↦ let rest = heard_here i h votes later in (rest.0, inr rest.1)
    ]

-- the place that holds a vote
pub heard_where : (places : List Place) (i : ℕ) (h : HeardVote) → Has h (heard_from i places) → (k : ℕ) × (h.1 ≡ i + k) × Has (cast_of h) (votes_of (slice_get places k))
heard_where [] i h m = absurd m
heard_where (place ∷ places) i h m =
    elim (has_split h (map (heard_as i) (votes_in place)) (heard_from (suc i) places) m) [
      | inl here ↦ let hit = heard_here i h (votes_in place) here in (0, omega (arith, hit.0), hit.1)
      | inr later ↦ let rest = heard_where places (suc i) h later in (suc rest.0, omega (arith, rest.1), rest.2)
    ]

pub heard_there : (places : List Place) (i k : ℕ) (h : HeardVote) → h.1 ≡ i + k → Has (cast_of h) (votes_of (slice_get places k)) → Has h (heard_from i places)
heard_there [] i k h e m = absurd m
heard_there (place ∷ places) i zero h e m =
    let at : h.1 ≡ i = omega (arith, e) in
    has_left h (map (heard_as i) (votes_in place)) (heard_from (suc i) places)
    (subst (λ (j : ℕ). Has h (map (heard_as j) (votes_in place))) at (has_mapped (heard_as h.1) (cast_of h) (votes_in place) m))
heard_there (place ∷ places) i (suc k) h e m =
    has_right h (map (heard_as i) (votes_in place)) (heard_from (suc i) places) (heard_there places (suc i) k h (omega (arith, e)) m)

-- the votes heard at a position are those of its place
pub heard_at : (places : List Place) (first k : ℕ) (h : HeardVote) → h.1 ≡ first + k → Has h (heard_from first places) ↔ Has (cast_of h) (votes_of (slice_get places k))
heard_at places first k h at = (
  λ m.
      let hit = heard_where places first h m in
      let same : hit.0 ≡ k = omega (arith, hit.1, at) in
      subst (λ (j : ℕ). Has (cast_of h) (votes_of (slice_get places j))) same hit.2,
  heard_there places first k h at,
)

-- no position below the first is settled
pub settled_below : (places : List Place) (i j : ℕ) → j < i → list_any (nat_eq j) (settled_from i places) ≡ false
settled_below [] i j lt = refl
settled_below (Unheard ∷ places) i j lt = settled_below places (suc i) j (omega arith)
settled_below (Heard votes ∷ places) i j lt = settled_below places (suc i) j (omega arith)
settled_below (Settled ∷ places) i j lt = or_from (nat_eq j i) (list_any (nat_eq j) (settled_from (suc i) places)) (ne_eqb j i (λ e. omega (arith, lt, e))) (settled_below places (suc i) j (omega arith))

pub settled_where : (places : List Place) (i j k : ℕ) → j ≡ i + k → list_any (nat_eq j) (settled_from i places) ≡ settled_of (slice_get places k)
settled_where [] i j k e = refl
settled_where (Unheard ∷ places) i j zero e = settled_below places (suc i) j (omega (arith, e))
settled_where (Heard votes ∷ places) i j zero e = settled_below places (suc i) j (omega (arith, e))
settled_where (Settled ∷ places) i j zero e = or_left (nat_eq j i) (list_any (nat_eq j) (settled_from (suc i) places)) (eq-eqb j i (omega (arith, e)))
settled_where (Unheard ∷ places) i j (suc k) e = settled_where places (suc i) j k (omega (arith, e))
settled_where (Heard votes ∷ places) i j (suc k) e = settled_where places (suc i) j k (omega (arith, e))
settled_where (Settled ∷ places) i j (suc k) e =
    or_skip (nat_eq j i) (list_any (nat_eq j) (settled_from (suc i) places)) (ne_eqb j i (λ same. omega (arith, e, same)))
    ∙ settled_where places (suc i) j k (omega (arith, e))

-- a settled position has a settled place
settled_first : (i j : ℕ) (place : Place) → Has j (if_settled i place) → (j ≡ i) × (is_settled_in place ≡ true)
settled_first i j Unheard h = absurd h
settled_first i j (Heard votes) h = absurd h
settled_first i j Settled h = elim h [ inl e ↦ (e, refl) | inr none ↦ absurd none ]

pub settled_spot : (places : List Place) (i j : ℕ) → Has j (settled_from i places) → (k : ℕ) × (j ≡ i + k) × (settled_of (slice_get places k) ≡ true)
settled_spot [] i j m = absurd m
settled_spot (place ∷ places) i j m =
    elim (has_split j (if_settled i place) (settled_from (suc i) places) m) [
      | inl here ↦ let mark = settled_first i j place here in (0, omega (arith, mark.0), mark.1)
      | inr later ↦ let rest = settled_spot places (suc i) j later in (suc rest.0, omega (arith, rest.1), rest.2)
    ]

-- a settled place settles its position
pub settled_there : (places : List Place) (i k j : ℕ) → j ≡ i + k → settled_of (slice_get places k) ≡ true → Has j (settled_from i places)
settled_there places i k j at e = found nat_eq Decides-eqb j (settled_from i places) (settled_where places i j k at ∙ e)

same_if_settled : (i : ℕ) (p q : Place) → is_settled_in q ≡ is_settled_in p → if_settled i q ≡ if_settled i p
same_if_settled i Unheard Unheard e = refl
same_if_settled i Unheard (Heard v) e = refl
same_if_settled i Unheard Settled e = absurd (both_ways true (e) refl)
same_if_settled i (Heard v) Unheard e = refl
same_if_settled i (Heard v) (Heard w) e = refl
same_if_settled i (Heard v) Settled e = absurd (both_ways true (e) refl)
same_if_settled i Settled Unheard e = absurd (both_ways false refl e)
same_if_settled i Settled (Heard w) e = absurd (both_ways false refl e)
same_if_settled i Settled Settled e = refl

-- a write of such a place settles nothing
pub settled_kept : (places : List Place) (i k : ℕ) (p q : Place) → slice_get places k ≡ Some p → is_settled_in q ≡ is_settled_in p → settled_from i (set places k q) ≡ settled_from i places
settled_kept [] i k p q at same = refl
settled_kept (place ∷ places) i zero p q at same =
    let here : place ≡ p = some_is at in
    ap (λ (mark : List ℕ). mark ++ settled_from (suc i) places) (same_if_settled i p q same ∙ ap (if_settled i) (sym here))
settled_kept (place ∷ places) i (suc k) p q at same =
    ap (λ (rest : List ℕ). if_settled i place ++ rest) (settled_kept places (suc i) k p q at same)
