-- The levels: what raising those between two positions makes of the ballots that hold.
use Rattle.std.proofs.Common.{◌≡◌, ℕ, zero, suc, ◌<◌, ◌≤◌, max, true, false, List, [], ◌∷◌, ◌++◌, length, map, take, drop, refl, sym, ap, ◌∙◌, inl, inr, arith}
use Rattle.std.specs.Prelude.{slice_index_or}
use Rattle.std.specs.List.{AllWithin}
use Rattle.std.proofs.lemmas.List.{get_or-map, get_or_default, length-map, map-append, take-append-drop}
use Rattle.std.proofs.lemmas.Bool.Decides.{leb_tells}
use Rattle.rp_acceptor.specs.Levels.{Level, IsRising, ballot_after, holding_ballot, HasLevel, is_between, raised_at, raised_level}

none : Level
none = record { from = 0; ballot = 0 }

-- the levels begin at a position or later, in order
abbrev IsFrom : ℕ → List Level → Type 0
IsFrom low [] = Unit {0}
IsFrom low (level ∷ rest) = (low ≤ level.from) × IsFrom level.from rest

from_rising : (low : ℕ) (levels : List Level) → IsRising levels → ((0 < length levels) → low ≤ (slice_index_or levels 0 none).from) → IsFrom low levels
from_rising low [] rising first = tt
from_rising low (level ∷ rest) rising first = (
  first (omega arith),
  from_rising level.from rest (λ i j d before within. rising (suc i) (suc j) d (omega (arith, before)) (omega (arith, within)))
      (λ some. rising 0 1 none (omega arith) (omega (arith, some))),
)

lower : (low least : ℕ) (levels : List Level) → least ≤ low → IsFrom low levels → IsFrom least levels
lower low least [] le are = tt
lower low least (level ∷ rest) le are = (omega (arith, le, are.0), are.1)

-- a level that is there begins no lower than all do
at_least : (low i : ℕ) (levels : List Level) → IsFrom low levels → HasLevel levels i → low ≤ i
at_least low i [] are has = absurd has
at_least low i (level ∷ rest) are has =
    elim has [
      | inl here ↦ omega (arith, are.0, here)
      | inr following ↦ let h = at_least level.from i rest are.1 following in omega (arith, are.0, h)
    ]

pub between : (first end i : ℕ) → first ≤ i → i < end → is_between first end i ≡ true
between first end i from below =
    elim (leb_tells first i) [
      | inl le ↦ elim (leb_tells (suc i) end) [ inl lt ↦ rw (le.0, lt.0) refl | inr ge ↦ absurd (omega (arith, ge.1, below)) ]
      | inr gt ↦ absurd (omega (arith, gt.1, from))
    ]

pub below_all : (first end i : ℕ) → i < first → is_between first end i ≡ false
below_all first end i below = elim (leb_tells first i) [ inl le ↦ absurd (omega (arith, le.1, below)) | inr gt ↦ rw gt.0 refl ]

pub above_all : (first end i : ℕ) → end ≤ i → is_between first end i ≡ false
above_all first end i above =
    elim (leb_tells first i) [
      | inl le ↦ elim (leb_tells (suc i) end) [ inl lt ↦ absurd (omega (arith, lt.1, above)) | inr ge ↦ rw (le.0, ge.0) refl ]
      | inr gt ↦ rw gt.0 refl
    ]

-- the level as raised
pub raised_here : (first end b : ℕ) (level : Level) → first ≤ level.from → level.from < end → raised_level first end b level ≡ record level { ballot = max level.ballot b }
raised_here first end b level from below = rw (between first end level.from from below) refl

untouched : (first end b : ℕ) (level : Level) → is_between first end level.from ≡ false → raised_level first end b level ≡ level
untouched first end b level outside = rw outside refl

-- levels from the end on stay
stay : (first end b : ℕ) (levels : List Level) → IsFrom end levels → map (raised_level first end b) levels ≡ levels
stay first end b [] are = refl
stay first end b (level ∷ rest) are =
    ap (λ (s : Level). s ∷ map (raised_level first end b) rest) (untouched first end b level (above_all first end level.from are.0))
    ∙ ap (λ (l : List Level). level ∷ l) (stay first end b rest (lower level.from end rest are.0 are.1))

-- the level is in the rest, where it is not the first
following : (level : Level) (rest : List Level) (i : ℕ) → ¬ (level.from ≡ i) → HasLevel (level ∷ rest) i → HasLevel rest i
following level rest i other has = elim has [ inl here ↦ absurd (other here) | inr later ↦ later ]

-- ---- where the ballot before is raised as well

within_below : (first end b before : ℕ) (levels : List Level) (i : ℕ) → i < end → IsFrom first levels
    → ballot_after (max before b) (map (raised_level first end b) levels) i ≡ max (ballot_after before levels i) b
within_below first end b before [] i below are = refl
within_below first end b before (level ∷ rest) i below are =
    elim (leb_tells level.from i) [
      | inl low ↦
          ap (λ (s : Level). ballot_after (max before b) (s ∷ map (raised_level first end b) rest) i) (raised_here first end b level are.0 (omega (arith, low.1, below)))
          ∙ rw low.0 (within_below first end b level.ballot rest i below (lower level.from first rest are.0 are.1))
      | inr high ↦ rw high.0 refl
    ]

within_above : (first end b before : ℕ) (levels : List Level) (i : ℕ) → end ≤ i → IsFrom first levels → HasLevel levels end
    → ballot_after (max before b) (map (raised_level first end b) levels) i ≡ ballot_after before levels i
within_above first end b before [] i above are has = absurd has
within_above first end b before (level ∷ rest) i above are has =
    elim (leb_tells level.from i) [
      | inl low ↦ elim (leb_tells end level.from) [
        | inl past ↦
            ap (λ (l : List Level). ballot_after (max before b) l i) (stay first end b (level ∷ rest) (past.1, are.1))
            ∙ rw low.0 refl
        | inr inside ↦
            ap (λ (s : Level). ballot_after (max before b) (s ∷ map (raised_level first end b) rest) i) (raised_here first end b level are.0 inside.1)
            ∙ rw low.0 (within_above first end b level.ballot rest i above (lower level.from first rest are.0 are.1) (following level rest end (λ e. omega (arith, e, inside.1)) has))
      ]
      | inr high ↦ let least = at_least level.from end (level ∷ rest) (omega arith, are.1) has in absurd (omega (arith, least, high.1, above))
    ]

-- ---- from the first level on

raised_below : (first end b before : ℕ) (levels : List Level) (i : ℕ) → i < first → ballot_after before (map (raised_level first end b) levels) i ≡ ballot_after before levels i
raised_below first end b before [] i below = refl
raised_below first end b before (level ∷ rest) i below =
    elim (leb_tells level.from i) [
      | inl low ↦
          ap (λ (s : Level). ballot_after before (s ∷ map (raised_level first end b) rest) i) (untouched first end b level (below_all first end level.from (omega (arith, low.1, below))))
          ∙ rw low.0 (raised_below first end b level.ballot rest i below)
      | inr high ↦ rw high.0 refl
    ]

raised_within : (first end b before low : ℕ) (levels : List Level) (i : ℕ) → first ≤ i → i < end → IsFrom low levels → HasLevel levels first
    → ballot_after before (map (raised_level first end b) levels) i ≡ max (ballot_after before levels i) b
raised_within first end b before low [] i from below are has = absurd has
raised_within first end b before low (level ∷ rest) i from below are has =
    elim (leb_tells level.from i) [
      | inl le ↦ elim (leb_tells first level.from) [
        | inl past ↦
            ap (λ (s : Level). ballot_after before (s ∷ map (raised_level first end b) rest) i) (raised_here first end b level past.1 (omega (arith, le.1, below)))
            ∙ rw le.0 (within_below first end b level.ballot rest i below (lower level.from first rest past.1 are.1))
        | inr early ↦
            ap (λ (s : Level). ballot_after before (s ∷ map (raised_level first end b) rest) i) (untouched first end b level (below_all first end level.from early.1))
            ∙ rw le.0 (raised_within first end b level.ballot level.from rest i from below are.1 (following level rest first (λ e. omega (arith, e, early.1)) has))
      ]
      | inr high ↦ let least = at_least level.from first (level ∷ rest) (omega arith, are.1) has in absurd (omega (arith, least, high.1, from))
    ]

raised_above : (first end b before low : ℕ) (levels : List Level) (i : ℕ) → first < end → end ≤ i → IsFrom low levels → HasLevel levels first → HasLevel levels end
    → ballot_after before (map (raised_level first end b) levels) i ≡ ballot_after before levels i
raised_above first end b before low [] i rises above are has ends = absurd has
raised_above first end b before low (level ∷ rest) i rises above are has ends =
    elim (leb_tells level.from i) [
      | inl le ↦ elim (leb_tells first level.from) [
        | inl past ↦
            let least = at_least level.from first (level ∷ rest) (omega arith, are.1) has in
            let inside : level.from < end = omega (arith, least, rises) in
            ap (λ (s : Level). ballot_after before (s ∷ map (raised_level first end b) rest) i) (raised_here first end b level past.1 inside)
            ∙ rw le.0 (within_above first end b level.ballot rest i above (lower level.from first rest past.1 are.1) (following level rest end (λ e. omega (arith, e, inside)) ends))
        | inr early ↦
            ap (λ (s : Level). ballot_after before (s ∷ map (raised_level first end b) rest) i) (untouched first end b level (below_all first end level.from early.1))
            ∙ rw le.0 (raised_above first end b level.ballot level.from rest i rises above are.1 (following level rest first (λ e. omega (arith, e, early.1)) has) (following level rest end (λ e. omega (arith, e, early.1, rises)) ends))
      ]
      | inr high ↦ let least = at_least level.from end (level ∷ rest) (omega arith, are.1) ends in absurd (omega (arith, least, high.1, above))
    ]

-- where a level begins at each end, raising the levels raises the ballots that hold
pub raising_raises : (first end b : ℕ) (levels : List Level) → IsRising levels → first < end → HasLevel levels first → HasLevel levels end
    → (i : ℕ) → holding_ballot (map (raised_level first end b) levels) i ≡ raised_at first end b i (holding_ballot levels i)
raising_raises first end b levels rising rises has ends i =
    let are : IsFrom 0 levels = from_rising 0 levels rising (λ some. omega arith) in
    elim (leb_tells first i) [
      | inl from ↦ elim (leb_tells (suc i) end) [
        | inl below ↦ rw (between first end i from.1 (omega (arith, below.1))) (raised_within first end b 0 0 levels i from.1 (omega (arith, below.1)) are has)
        | inr above ↦ rw (above_all first end i (omega (arith, above.1))) (raised_above first end b 0 0 levels i rises (omega (arith, above.1)) are has ends)
      ]
      | inr early ↦ rw (below_all first end i early.1) (raised_below first end b 0 levels i early.1)
    ]

-- ---- the levels as raised, one after the other

pub raised_rising : (first end b : ℕ) (levels : List Level) → IsRising levels → IsRising (map (raised_level first end b) levels)
raised_rising first end b levels rising = λ i j d before within.
    let short : j < length levels = omega (arith, within, length-map levels (raised_level first end b)) in
    let low = ap (λ (s : Level). s.from) (get_or-map (raised_level first end b) levels i d d (omega (arith, before, short))) in
    let high = ap (λ (s : Level). s.from) (get_or-map (raised_level first end b) levels j d d short) in
    let was = rising i j d before short in
    omega (arith, low, high, was)

pub raised_levels : (first end b : ℕ) (levels : List Level) (i : ℕ) → HasLevel levels i → HasLevel (map (raised_level first end b) levels) i
raised_levels first end b [] i has = absurd has
raised_levels first end b (level ∷ rest) i has = elim has [ inl here ↦ inl here | inr later ↦ inr (raised_levels first end b rest i later) ]

-- those below the first stay
pub early_stay : (first end b : ℕ) (levels : List Level) (count : ℕ) → AllWithin (λ s. s.from < first) levels 0 count → map (raised_level first end b) (take count levels) ≡ take count levels
early_stay first end b levels zero below = refl
early_stay first end b [] (suc count) below = refl
early_stay first end b (level ∷ rest) (suc count) below =
    ap (λ (s : Level). s ∷ map (raised_level first end b) (take count rest)) (untouched first end b level (below_all first end level.from (below 0 none (omega arith) (omega arith))))
    ∙ ap (λ (l : List Level). level ∷ l) (early_stay first end b rest count (λ k d from within. below (suc k) d (omega arith) (omega (arith, within))))

late_stay : (first end b : ℕ) (levels : List Level) (count : ℕ) → AllWithin (λ s. end ≤ s.from) levels count (length levels) → map (raised_level first end b) (drop count levels) ≡ drop count levels
late_stay first end b [] zero above = refl
late_stay first end b [] (suc count) above = refl
late_stay first end b (level ∷ rest) zero above =
    ap (λ (s : Level). s ∷ map (raised_level first end b) rest) (untouched first end b level (above_all first end level.from (above 0 none (omega arith) (omega arith))))
    ∙ ap (λ (l : List Level). level ∷ l) (late_stay first end b rest 0 (λ k d from within. above (suc k) d (omega arith) (omega (arith, within))))
late_stay first end b (level ∷ rest) (suc count) above = late_stay first end b rest count (λ k d from within. above (suc k) d (omega (arith, from)) (omega (arith, within)))

-- the level at the index is as it was
pub next_as_it_was : (f : Level → Level) (levels : List Level) (index : ℕ) (d : Level) → index < length levels → slice_index_or (map f (take index levels) ++ drop index levels) index d ≡ slice_index_or levels index d
next_as_it_was f [] index d within = absurd (omega (arith, within))
next_as_it_was f (level ∷ rest) zero d within = refl
next_as_it_was f (level ∷ rest) (suc index) d within = next_as_it_was f rest index d (omega (arith, within))

-- once a level begins at the end or later, all are raised that are to be
pub all_raised : (first end b : ℕ) (levels : List Level) (index : ℕ) (d : Level) → IsRising levels → index < length levels → end ≤ (slice_index_or levels index d).from
    → map (raised_level first end b) (take index levels) ++ drop index levels ≡ map (raised_level first end b) levels
all_raised first end b levels index d rising within past =
    ap (λ (l : List Level). map (raised_level first end b) (take index levels) ++ l)
    (sym (late_stay first end b levels index (λ k e from below.
    let later = rising index k e from below in
    let same = ap (λ (s : Level). s.from) (get_or_default levels index d e within) in
    omega (arith, later, past, same))))
    ∙ sym (map-append (raised_level first end b) (take index levels) (drop index levels))
    ∙ ap (map (raised_level first end b)) (take-append-drop index levels)
