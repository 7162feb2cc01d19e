-- The levels: which ballot holds at a position, and what one level more makes of it.
use Rattle.std.proofs.Common.{◌≡◌, ℕ, zero, suc, ◌+◌, ◌<◌, ◌≤◌, true, false, cond, List, [], ◌∷◌, length, nat_le, refl, sym, ap, ◌∙◌, inl, inr, arith}
use Rattle.std.specs.Prelude.{slice_index_or, slice_get}
use Rattle.std.specs.List.{insert, AllWithin}
use Rattle.std.proofs.lemmas.Bool.{both_ways, cases_lt, eq-eqb, eqb-true}
use Rattle.std.proofs.lemmas.Bool.Decides.{leb_tells}
use Rattle.std.proofs.lemmas.Option.{slice_get-get_or}
use Rattle.std.proofs.lemmas.List.{get_or_default}
use Rattle.std.proofs.lemmas.List.Sorted.{IsNonDecreasingBy-insert}
use Rattle.rp_acceptor.specs.Levels.{Level, IsRising, ballot_after, ballot_before, begins_at, HasLevel}

none : Level
none = record { from = 0; ballot = 0 }

-- the levels after the first one have what all have
later : (P : Level → Type 0) (level : Level) (rest : List Level) (low high : ℕ) → AllWithin P (level ∷ rest) (suc low) (suc high) → AllWithin P rest low high
later P level rest low high all = λ k d from below. all (suc k) d (omega (arith, from)) (omega (arith, below))

-- where the last of some levels begins below a position, all of them do
pub all_below : (levels : List Level) (i last : ℕ) (d : Level) → IsRising levels → last < length levels → (slice_index_or levels last d).from < i → AllWithin (λ s. s.from < i) levels 0 (suc last)
all_below levels i last d rising within low = λ k e from below.
    let order = rising k last e (omega (arith, below)) within in
    let same = ap (λ (s : Level). s.from) (get_or_default levels last e d within) in
    omega (arith, order, same, low)

-- before the first level what held before holds
pub none_yet : (before : ℕ) (levels : List Level) (i : ℕ) → AllWithin (λ s. i < s.from) levels 0 (length levels) → ballot_after before levels i ≡ before
none_yet before [] i above = refl
none_yet before (level ∷ rest) i above =
    elim (leb_tells level.from i) [
      | inl low ↦ let high = above 0 none (omega arith) (omega arith) in absurd (omega (arith, low.1, high))
      | inr high ↦ rw high.0
    ]

-- what holds is the ballot of the last level that began
pub ballot_by : (before : ℕ) (levels : List Level) (i count : ℕ) → AllWithin (λ s. s.from < i + 1) levels 0 count → AllWithin (λ s. i + 1 ≤ s.from) levels count (length levels)
    → ballot_after before levels i ≡ ballot_before before levels count
ballot_by before [] i count below above = refl
ballot_by before (level ∷ rest) i zero below above = none_yet before (level ∷ rest) i (λ k d from within. let high = above k d from within in omega (arith, high))
ballot_by before (level ∷ rest) i (suc count) below above =
    elim (leb_tells level.from i) [
      | inl low ↦ rw low.0 (ballot_by level.ballot rest i count (later (λ s. s.from < i + 1) level rest 0 count (λ k d from within. below k d (omega arith) within)) (later (λ s. i + 1 ≤ s.from) level rest count (length rest) above))
      | inr high ↦ let low = below 0 none (omega arith) (omega arith) in absurd (omega (arith, high.1, low))
    ]

-- the ballot of the last of some levels
pub last_ballot : (before : ℕ) (levels : List Level) (count : ℕ) (d : Level) → count < length levels → ballot_before before levels (suc count) ≡ (slice_index_or levels count d).ballot
last_ballot before [] count d within = absurd (omega (arith, within))
last_ballot before (level ∷ []) zero d within = refl
last_ballot before (level ∷ next ∷ rest) zero d within = refl
last_ballot before (level ∷ rest) (suc count) d within = last_ballot level.ballot rest count d (omega (arith, within))

pub no_ballot : (before : ℕ) (levels : List Level) → ballot_before before levels 0 ≡ before
no_ballot before [] = refl
no_ballot before (level ∷ rest) = refl

-- a level put in with the ballot that holds there changes no ballot
pub same_ballot : (before : ℕ) (levels : List Level) (level : Level) (count i : ℕ) → count ≤ length levels → level.ballot ≡ ballot_before before levels count
    → AllWithin (λ s. s.from < level.from) levels 0 count → AllWithin (λ s. level.from < s.from) levels count (length levels)
    → ballot_after before (insert levels count level) i ≡ ballot_after before levels i
same_ballot before levels level zero i within is below above =
    let same : level.ballot ≡ before = is ∙ no_ballot before levels in
    elim (leb_tells level.from i) [
      | inl low ↦ rw (low.0, same) refl
      | inr high ↦ rw high.0 (sym (none_yet before levels i (λ k d from w. let a = above k d from w in omega (arith, a, high.1))))
    ]
same_ballot before [] level (suc count) i within is below above = absurd (omega (arith, within))
same_ballot before (first ∷ rest) level (suc count) i within is below above =
    ap (λ n. cond (nat_le first.from i) n before)
    (same_ballot first.ballot rest level count i (omega (arith, within)) is (later (λ s. s.from < level.from) first rest 0 count (λ k d from w. below k d (omega arith) w)) (later (λ s. level.from < s.from) first rest count (length rest) above))

-- the level is there, and each that was there still is
pub level_put : (levels : List Level) (level : Level) (count : ℕ) → HasLevel (insert levels count level) level.from
level_put levels level zero = inl refl
level_put [] level (suc count) = inl refl
level_put (first ∷ rest) level (suc count) = inr (level_put rest level count)

pub levels_stay : (levels : List Level) (level : Level) (count i : ℕ) → HasLevel levels i → HasLevel (insert levels count level) i
levels_stay levels level zero i has = inr has
levels_stay [] level (suc count) i has = absurd has
levels_stay (first ∷ rest) level (suc count) i has = elim has [ inl here ↦ inl here | inr following ↦ inr (levels_stay rest level count i following) ]

-- a level of the index begins there
pub begun : (levels : List Level) (index i : ℕ) → begins_at i (slice_get levels index) ≡ true → HasLevel levels i
begun [] index i is = absurd (cc)
begun (level ∷ rest) zero i is = inl (eqb-true level.from i is)
begun (level ∷ rest) (suc index) i is = inr (begun rest index i is)

level_index : (levels : List Level) (i : ℕ) (d : Level) → HasLevel levels i → (index : ℕ) × (index < length levels) × ((slice_index_or levels index d).from ≡ i)
level_index [] i d has = absurd has
level_index (level ∷ rest) i d has =
    elim has [
      | inl here ↦ (0, omega arith, here)
      | inr following ↦ let later = level_index rest i d following in (suc later.0, omega (arith, later.1), later.2)
    ]

-- the first level that begins there or later begins elsewhere, so all from it on begin later
pub begin_later : (levels : List Level) (count i : ℕ) → IsRising levels → begins_at i (slice_get levels count) ≡ false → AllWithin (λ s. i ≤ s.from) levels count (length levels)
    → AllWithin (λ s. i < s.from) levels count (length levels)
begin_later levels count i rising other above = λ k d from within.
    let low : count < length levels = omega (arith, from, within) in
    let first : i ≤ (slice_index_or levels count d).from = above count d (omega arith) low in
    let apart : ¬ ((slice_index_or levels count d).from ≡ i) =
    λ same. both_ways (begins_at i (slice_get levels count)) other (ap (begins_at i) (slice_get-get_or levels count d low) ∙ eq-eqb (slice_index_or levels count d).from i same) in
    let next = rising count k d from within in
    omega (arith, first, apart, next)

-- so no level begins there
pub none_begins : (levels : List Level) (count i : ℕ) → AllWithin (λ s. s.from < i) levels 0 count → AllWithin (λ s. i < s.from) levels count (length levels) → ¬ HasLevel levels i
none_begins levels count i below above has =
    let hit = level_index levels i none has in
    elim (cases_lt hit.0 count) [
      | inl early ↦ let low = below hit.0 none (omega arith) early in omega (arith, low, hit.2)
      | inr late ↦ let high = above hit.0 none late hit.1 in omega (arith, high, hit.2)
    ]

-- with the level put in they rise
pub rising_still : (levels : List Level) (level : Level) (count : ℕ) → IsRising levels → count ≤ length levels → AllWithin (λ s. s.from < level.from) levels 0 count
    → AllWithin (λ s. level.from < s.from) levels count (length levels) → IsRising (insert levels count level)
rising_still levels level count rising within below above =
    IsNonDecreasingBy-insert (λ (s : Level). s.from) levels count level rising within
    (λ k d early. let low = below k d (omega arith) early in omega (arith, low))
    (λ k d from late. let high = above k d from late in omega (arith, high))
