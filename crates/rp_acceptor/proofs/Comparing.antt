-- How a ballot compares with the bounds at positions: part by part, and with the greater of two bounds.
use Rattle.std.proofs.Common.{◌≡◌, ℕ, zero, suc, ◌+◌, ◌<◌, ◌≤◌, max, Bool, true, false, cond, nat_eq, nat_le, nat_lt, ◌||◌, ◌&&◌, Option, Some, None, List, [], ◌∷◌, ◌++◌, length, ◌-◌, refl, sym, ap, subst, ◌∙◌, inl, inr, arith}
use Rattle.std.specs.Prelude.{find}
use Rattle.std.specs.List.{list_all, range_with_len, AllWithin}
use Rattle.std.proofs.lemmas.Bool.{and_parts, ltb-true, ne_eqb, eq-eqb, cases_order}
use Rattle.std.proofs.lemmas.Bool.Decides.{leb_tells}
use Rattle.rp_base.specs.declared.record.Rec.{Rec}
use Rattle.rp_acceptor.specs.declared.comparison.Comparison.{Comparison}
use Rattle.rp_acceptor.specs.declared.comparison.Comparison.TheVariants.{Above, Below, Equal}
use Rattle.rp_acceptor.specs.Comparing.{not_above, compared, compared_at, followed_by, combined, Bound, compared_bounds}
use Rattle.rp_acceptor.specs.Slots.{Kept, nothing_kept, bound_of, kept_at, kept_in_page, bounds_from}
use Rattle.rp_acceptor.specs.Levels.{Level, holding_ballot, ballot_before}
use Rattle.rp_acceptor.proofs.Splitting.{ballot_by}

-- ---- part by part

-- no bound lies above the ballot where it lies above them
none_above : (bound : ℕ → ℕ) (b : ℕ) (is : List ℕ) → list_all (λ i. nat_lt (bound i) b) is ≡ true → find (λ i. nat_lt b (bound i)) is ≡ None
none_above bound b [] all = refl
none_above bound b (i ∷ rest) all =
    let both = and_parts (nat_lt (bound i) b) (list_all (λ j. nat_lt (bound j) b) rest) all in
    let below : bound i < b = ltb-true (bound i) b both.0 in
    elim (leb_tells (suc b) (bound i)) [
      | inl above ↦ absurd (omega (arith, below, above.1))
      | inr not ↦ rw not.0 (none_above bound b rest both.1)
    ]

equal_goes_on : (bound : ℕ → ℕ) (all : Bool) (found : Option ℕ) → (all ≡ true → found ≡ None) → not_above bound found ≡ followed_by Equal (cond all Above (not_above bound found))
equal_goes_on bound true found none = ap (not_above bound) (none refl)
equal_goes_on bound false None none = refl
equal_goes_on bound false (Some i) none = refl

-- the first position, then the rest
pub compared_next : (bound : ℕ → ℕ) (b i : ℕ) (rest : List ℕ) → compared bound b (i ∷ rest) ≡ followed_by (compared_at i (bound i) b) (compared bound b rest)
compared_next bound b i rest =
    elim (leb_tells (suc b) (bound i)) [
      | inl above ↦ elim (leb_tells (suc (bound i)) b) [
        | inl below ↦ absurd (omega (arith, below.1, above.1))
        | inr not ↦ rw (above.0, not.0) refl
      ]
      | inr low ↦ elim (leb_tells (suc (bound i)) b) [
        | inl below ↦ rw (low.0, below.0) refl
        | inr not ↦ rw (low.0, not.0)
            (equal_goes_on bound (list_all (λ j. nat_lt (bound j) b) rest) (find (λ j. nat_lt b (bound j)) rest) (none_above bound b rest))
      ]
    ]

followed_again : (x y z : Comparison) → followed_by (followed_by x y) z ≡ followed_by x (followed_by y z)
followed_again Above y z = refl
followed_again (Below i bound) y z = refl
followed_again Equal Above z = refl
followed_again Equal (Below i bound) z = refl
followed_again Equal Equal Above = refl
followed_again Equal Equal (Below i bound) = refl
followed_again Equal Equal Equal = refl

pub followed_none : (x : Comparison) → followed_by x Above ≡ x
followed_none Above = refl
followed_none (Below i bound) = refl
followed_none Equal = refl

-- positions in two parts
pub compared_parts : (bound : ℕ → ℕ) (b first m n next k : ℕ) → m + n ≡ k → first + m ≡ next
    → compared bound b (range_with_len first k) ≡ followed_by (compared bound b (range_with_len first m)) (compared bound b (range_with_len next n))
compared_parts bound b first zero n next k all at =
    let same : n ≡ k = omega (arith, all) in
    let here : first ≡ next = omega (arith, at) in
    subst (λ (j : ℕ). compared bound b (range_with_len first j) ≡ compared bound b (range_with_len next n)) same
    (ap (λ (j : ℕ). compared bound b (range_with_len j n)) here)
compared_parts bound b first (suc m) n next zero all at = absurd (omega (arith, all))
compared_parts bound b first (suc m) n next (suc k) all at =
    compared_next bound b first (range_with_len (first + 1) k)
    ∙ ap (followed_by (compared_at first (bound first) b)) (compared_parts bound b (first + 1) m n next k (omega (arith, all)) (omega (arith, at)))
    ∙ sym (followed_again (compared_at first (bound first) b) (compared bound b (range_with_len (first + 1) m)) (compared bound b (range_with_len next n)))
    ∙ ap (λ (x : Comparison). followed_by x (compared bound b (range_with_len next n))) (sym (compared_next bound b first (range_with_len (first + 1) m)))

-- the same bounds
pub compared_same : (bound other : ℕ → ℕ) (b first n : ℕ) → ((i : ℕ) → first ≤ i → i < first + n → bound i ≡ other i)
    → compared bound b (range_with_len first n) ≡ compared other b (range_with_len first n)
compared_same bound other b first zero same = refl
compared_same bound other b first (suc n) same =
    compared_next bound b first (range_with_len (first + 1) n)
    ∙ ap (λ (x : ℕ). followed_by (compared_at first x b) (compared bound b (range_with_len (first + 1) n))) (same first (omega arith) (omega arith))
    ∙ ap (followed_by (compared_at first (other first) b)) (compared_same bound other b (first + 1) n (λ i from within. same i (omega (arith, from)) (omega (arith, within))))
    ∙ sym (compared_next other b first (range_with_len (first + 1) n))

-- at one position, by the order of ballot and bound
here_above : (b i bound : ℕ) → b < bound → compared_at i bound b ≡ Below i bound
here_above b i bound above = elim (leb_tells (suc b) bound) [ inl is ↦ rw is.0 refl | inr ge ↦ absurd (omega (arith, ge.1, above)) ]

here_below : (b i bound : ℕ) → bound < b → compared_at i bound b ≡ Above
here_below b i bound below =
    elim (leb_tells (suc b) bound) [
      | inl above ↦ absurd (omega (arith, above.1, below))
      | inr low ↦ elim (leb_tells (suc bound) b) [ inl is ↦ rw (low.0, is.0) refl | inr ge ↦ absurd (omega (arith, ge.1, below)) ]
    ]

here_equal : (b i bound : ℕ) → bound ≡ b → compared_at i bound b ≡ Equal
here_equal b i bound same =
    elim (leb_tells (suc b) bound) [
      | inl above ↦ absurd (omega (arith, above.1, same))
      | inr low ↦ elim (leb_tells (suc bound) b) [ inl is ↦ absurd (omega (arith, is.1, same)) | inr ge ↦ rw (low.0, ge.0) refl ]
    ]

-- no bound
pub compared_none : (b : ℕ) (is : List ℕ) → 0 < b → compared (λ i. 0) b is ≡ Above
compared_none b [] some = refl
compared_none b (i ∷ rest) some =
    compared_next (λ i. 0) b i rest
    ∙ ap (λ (x : Comparison). followed_by x (compared (λ i. 0) b rest)) (here_below b i 0 some)
    ∙ compared_none b rest some

-- one bound at each position
again : (b bound i j : ℕ) → followed_by (compared_at i bound b) (compared_at j bound b) ≡ compared_at i bound b
again b bound i j =
    elim (leb_tells (suc b) bound) [
      | inl above ↦ rw above.0 refl
      | inr low ↦ elim (leb_tells (suc bound) b) [ inl below ↦ rw (low.0, below.0) refl | inr not ↦ rw (low.0, not.0) refl ]
    ]

pub compared_flat : (b bound first n : ℕ) → compared (λ i. bound) b (range_with_len first (suc n)) ≡ compared_at first bound b
compared_flat b bound first zero = compared_next (λ i. bound) b first [] ∙ followed_none (compared_at first bound b)
compared_flat b bound first (suc n) =
    compared_next (λ i. bound) b first (range_with_len (first + 1) (suc n))
    ∙ ap (followed_by (compared_at first bound b)) (compared_flat b bound (first + 1) n)
    ∙ again b bound first (first + 1)

-- the bounds of a stretch in which one level holds
pub stretch_ballot : (levels : List Level) (b position next count : ℕ) → AllWithin (λ s. s.from < position + 1) levels 0 count → AllWithin (λ s. next ≤ s.from) levels count (length levels)
    → compared (holding_ballot levels) b (range_with_len position (next - position)) ≡ compared (λ i. ballot_before 0 levels count) b (range_with_len position (next - position))
stretch_ballot levels b position next count below above =
    compared_same (holding_ballot levels) (λ i. ballot_before 0 levels count) b position (next - position) (λ i from within.
    ballot_by 0 levels i count (λ k d low high. let early = below k d low high in omega (arith, early, from)) (λ k d low high. let late = above k d low high in omega (arith, late, from, within)))

-- what was found before a stretch, with what the stretch has and what the rest has
pub stretch_next : (levels : List Level) (b position next end count : ℕ) (found here all : Comparison) → position ≤ next → next ≤ end
    → AllWithin (λ s. s.from < position + 1) levels 0 count → AllWithin (λ s. next ≤ s.from) levels count (length levels)
    → here ≡ compared (λ i. ballot_before 0 levels count) b (range_with_len position (next - position))
    → followed_by found (compared (holding_ballot levels) b (range_with_len position (end - position))) ≡ all
    → followed_by (followed_by found here) (compared (holding_ballot levels) b (range_with_len next (end - next))) ≡ all
stretch_next levels b position next end count found here all up most below above is so_far =
    followed_again found here (compared (holding_ballot levels) b (range_with_len next (end - next)))
    ∙ ap (λ (c : Comparison). followed_by found (followed_by c (compared (holding_ballot levels) b (range_with_len next (end - next)))))
    (is ∙ sym (stretch_ballot levels b position next count below above))
    ∙ ap (followed_by found) (sym (compared_parts (holding_ballot levels) b position (next - position) (end - next) next (end - position) (omega (arith, up, most)) (omega (arith, up))))
    ∙ so_far

-- ---- with the greater of two bounds

-- a bound above the ballot is at this position or at a later one
abbrev IsFrom : ℕ → Comparison → Type 0
IsFrom i Above = Unit {0}
IsFrom i (Below j bound) = i ≤ j
IsFrom i Equal = Unit {0}

from_test : (i bound : ℕ) (above below : Bool) → IsFrom i (cond above (Below i bound) (cond below Above Equal))
from_test i bound true below = omega arith
from_test i bound false true = tt
from_test i bound false false = tt

from_next : (i : ℕ) (here rest : Comparison) → IsFrom i here → IsFrom (i + 1) rest → IsFrom i (followed_by here rest)
from_next i Above Above now later = tt
from_next i Above (Below j bound) now later = omega (arith, later)
from_next i Above Equal now later = tt
from_next i (Below j bound) rest now later = now
from_next i Equal Above now later = tt
from_next i Equal (Below j bound) now later = omega (arith, later)
from_next i Equal Equal now later = tt

from_first : (bound : ℕ → ℕ) (b first n : ℕ) → IsFrom first (compared bound b (range_with_len first n))
from_first bound b first zero = tt
from_first bound b first (suc n) =
    subst (IsFrom first) (sym (compared_next bound b first (range_with_len (first + 1) n)))
    (from_next first (compared_at first (bound first) b) (compared bound b (range_with_len (first + 1) n))
    (from_test first (bound first) (nat_lt b (bound first)) (nat_lt (bound first) b))
    (from_first bound b (first + 1) n))

from_equal : (i : ℕ) (rest : Comparison) → IsFrom i rest → IsFrom i (followed_by Equal rest)
from_equal i Above later = tt
from_equal i (Below j bound) later = later
from_equal i Equal later = tt

equal_test : (first : Bool) (i x j y : ℕ) → cond first (Below i x) (Below j y) ≡ followed_by Equal (cond first (Below i x) (Below j y))
equal_test true i x j y = refl
equal_test false i x j y = refl

equal_left : (f g : Comparison) → combined (followed_by Equal f) g ≡ followed_by Equal (combined f g)
equal_left Above Above = refl
equal_left Above (Below j y) = refl
equal_left Above Equal = refl
equal_left (Below i x) Above = refl
equal_left (Below i x) (Below j y) = equal_test (nat_lt i j || nat_eq i j && nat_le y x) i x j y
equal_left (Below i x) Equal = refl
equal_left Equal Above = refl
equal_left Equal (Below j y) = refl
equal_left Equal Equal = refl

equal_right : (f g : Comparison) → combined f (followed_by Equal g) ≡ followed_by Equal (combined f g)
equal_right Above g = refl
equal_right (Below i x) Above = refl
equal_right (Below i x) (Below j y) = equal_test (nat_lt i j || nat_eq i j && nat_le y x) i x j y
equal_right (Below i x) Equal = refl
equal_right Equal Above = refl
equal_right Equal (Below j y) = refl
equal_right Equal Equal = refl

equal_both : (f g : Comparison) → combined (followed_by Equal f) (followed_by Equal g) ≡ followed_by Equal (combined f g)
equal_both f g = equal_left f (followed_by Equal g) ∙ ap (followed_by Equal) (equal_right f g) ∙ sym (followed_again Equal Equal (combined f g))

below_left : (i x : ℕ) (g : Comparison) → IsFrom (i + 1) g → combined (Below i x) g ≡ Below i x
below_left i x Above later = refl
below_left i x (Below j y) later = elim (leb_tells (suc i) j) [ inl is ↦ rw is.0 refl | inr ge ↦ absurd (omega (arith, ge.1, later)) ]
below_left i x Equal later = refl

below_right : (i y : ℕ) (f : Comparison) → IsFrom (i + 1) f → combined f (Below i y) ≡ Below i y
below_right i y Above later = refl
below_right i y (Below j x) later =
    elim (leb_tells (suc j) i) [
      | inl is ↦ absurd (omega (arith, is.1, later))
      | inr ge ↦ rw (ge.0, ne_eqb j i (λ e. omega (arith, e, later))) refl
    ]
below_right i y Equal later = refl

below_both : (i x y : ℕ) → combined (Below i x) (Below i y) ≡ Below i (max x y)
below_both i x y =
    elim (leb_tells (suc i) i) [
      | inl is ↦ absurd (omega (arith, is.1))
      | inr ge ↦ elim (leb_tells y x) [
        | inl less ↦ rw (ge.0, eq-eqb i i refl, less.0) (ap (Below i) (omega (arith, less.1)))
        | inr more ↦ rw (ge.0, eq-eqb i i refl, more.0) (ap (Below i) (omega (arith, more.1)))
      ]
    ]

-- at one position, then at the rest
at_first : (i b x y : ℕ) (f g left right both : Comparison) → compared_at i x b ≡ left → compared_at i y b ≡ right → compared_at i (max x y) b ≡ both
    → combined (followed_by left f) (followed_by right g) ≡ followed_by both (combined f g)
    → combined (followed_by (compared_at i x b) f) (followed_by (compared_at i y b) g) ≡ followed_by (compared_at i (max x y) b) (combined f g)
at_first i b x y f g left right both one other all is =
    ap (λ (c : Comparison). combined (followed_by c f) (followed_by (compared_at i y b) g)) one
    ∙ ap (λ (c : Comparison). combined (followed_by left f) (followed_by c g)) other
    ∙ is
    ∙ ap (λ (c : Comparison). followed_by c (combined f g)) (sym all)

combined_next : (i b x y : ℕ) (f g : Comparison) → IsFrom (i + 1) f → IsFrom (i + 1) g
    → combined (followed_by (compared_at i x b) f) (followed_by (compared_at i y b) g) ≡ followed_by (compared_at i (max x y) b) (combined f g)
combined_next i b x y f g later later' =
    elim (cases_order x b) [
      | inr (inl below) ↦ elim (cases_order y b) [
        | inr (inl below') ↦ at_first i b x y f g Above Above Above (here_below b i x below) (here_below b i y below') (here_below b i (max x y) (omega (arith, below, below'))) refl
        | inl same ↦ at_first i b x y f g Above Equal Equal (here_below b i x below) (here_equal b i y same) (here_equal b i (max x y) (omega (arith, below, same))) (equal_right f g)
        | inr (inr above) ↦ at_first i b x y f g Above (Below i y) (Below i y) (here_below b i x below) (here_above b i y above)
            (here_above b i (max x y) (omega (arith, above)) ∙ ap (Below i) (omega (arith, below, above))) (below_right i y f later)
      ]
      | inl equal ↦ elim (cases_order y b) [
        | inr (inl below) ↦ at_first i b x y f g Equal Above Equal (here_equal b i x equal) (here_below b i y below) (here_equal b i (max x y) (omega (arith, below, equal))) (equal_left f g)
        | inl same ↦ at_first i b x y f g Equal Equal Equal (here_equal b i x equal) (here_equal b i y same) (here_equal b i (max x y) (omega (arith, equal, same))) (equal_both f g)
        | inr (inr above) ↦ at_first i b x y f g Equal (Below i y) (Below i y) (here_equal b i x equal) (here_above b i y above)
            (here_above b i (max x y) (omega (arith, above)) ∙ ap (Below i) (omega (arith, equal, above))) (below_right i y (followed_by Equal f) (from_equal (i + 1) f later))
      ]
      | inr (inr above) ↦ elim (cases_order y b) [
        | inr (inl below) ↦ at_first i b x y f g (Below i x) Above (Below i x) (here_above b i x above) (here_below b i y below)
            (here_above b i (max x y) (omega (arith, above)) ∙ ap (Below i) (omega (arith, above, below))) (below_left i x g later')
        | inl same ↦ at_first i b x y f g (Below i x) Equal (Below i x) (here_above b i x above) (here_equal b i y same)
            (here_above b i (max x y) (omega (arith, above)) ∙ ap (Below i) (omega (arith, above, same))) (below_left i x (followed_by Equal g) (from_equal (i + 1) g later'))
        | inr (inr above') ↦ at_first i b x y f g (Below i x) (Below i y) (Below i (max x y)) (here_above b i x above) (here_above b i y above')
            (here_above b i (max x y) (omega (arith, above))) (below_both i x y)
      ]
    ]

-- the greater of two bounds at each position
pub combined_all : (f g : ℕ → ℕ) (b first n : ℕ)
    → combined (compared f b (range_with_len first n)) (compared g b (range_with_len first n)) ≡ compared (λ i. max (f i) (g i)) b (range_with_len first n)
combined_all f g b first zero = refl
combined_all f g b first (suc n) =
    let rest : List ℕ = range_with_len (first + 1) n in
    ap (λ (c : Comparison). combined c (compared g b (first ∷ rest))) (compared_next f b first rest)
    ∙ ap (combined (followed_by (compared_at first (f first) b) (compared f b rest))) (compared_next g b first rest)
    ∙ combined_next first b (f first) (g first) (compared f b rest) (compared g b rest) (from_first f b (first + 1) n) (from_first g b (first + 1) n)
    ∙ ap (followed_by (compared_at first (max (f first) (g first)) b)) (combined_all f g b (first + 1) n)
    ∙ sym (compared_next (λ i. max (f i) (g i)) b first rest)

-- ---- bounds at places

pub compared_bounds_parts : (b : ℕ) (bounds more : List Bound) → compared_bounds b (bounds ++ more) ≡ followed_by (compared_bounds b bounds) (compared_bounds b more)
compared_bounds_parts b [] more = refl
compared_bounds_parts b (bound ∷ rest) more =
    ap (followed_by (compared_at bound.position bound.ballot b)) (compared_bounds_parts b rest more)
    ∙ sym (followed_again (compared_at bound.position bound.ballot b) (compared_bounds b rest) (compared_bounds b more))

-- places that hold what the records say, and nothing where they end
pub compared_places : (records : List Rec) (places : List Kept) (b first n : ℕ) → 0 < b → length places ≤ n
    → ((k : ℕ) → k < n → kept_in_page places k ≡ kept_at records (first + k))
    → compared_bounds b (bounds_from first places) ≡ compared (λ i. bound_of (kept_at records i)) b (range_with_len first n)
compared_places records [] b first zero some few right = refl
compared_places records (kept ∷ places) b first zero some few right = absurd (omega (arith, few))
compared_places records [] b first (suc n) some few right =
    let same : nothing_kept ≡ kept_at records first = right 0 (omega arith) ∙ ap (kept_at records) (omega arith) in
    let none : bound_of (kept_at records first) ≡ 0 = ap bound_of (sym same) in
    let rest : List ℕ = range_with_len (first + 1) n in
    compared_places records [] b (first + 1) n some (omega arith) (λ k within. right (suc k) (omega (arith, within)) ∙ ap (kept_at records) (omega arith))
    ∙ ap (λ (c : Comparison). followed_by c (compared (λ i. bound_of (kept_at records i)) b rest))
    (sym (ap (λ (x : ℕ). compared_at first x b) none ∙ here_below b first 0 some))
    ∙ sym (compared_next (λ i. bound_of (kept_at records i)) b first rest)
compared_places records (kept ∷ places) b first (suc n) some few right =
    let same : kept ≡ kept_at records first = right 0 (omega arith) ∙ ap (kept_at records) (omega arith) in
    let rest : List ℕ = range_with_len (first + 1) n in
    ap (followed_by (compared_at first (bound_of kept) b))
    (compared_places records places b (first + 1) n some (omega (arith, few)) (λ k within. right (suc k) (omega (arith, within)) ∙ ap (kept_at records) (omega arith)))
    ∙ ap (λ (k : Kept). followed_by (compared_at first (bound_of k) b) (compared (λ i. bound_of (kept_at records i)) b rest)) same
    ∙ sym (compared_next (λ i. bound_of (kept_at records i)) b first rest)
