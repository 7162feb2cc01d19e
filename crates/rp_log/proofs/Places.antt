-- The places of a log, position by position, and what a step does to them.
use Rattle.std.proofs.Common.{◌≡◌, ◌≢◌, ℕ, zero, suc, ◌+◌, ◌<◌, ◌≤◌, ◌==◌, Bool, true, false, cond, Option, Some, None, List, [], ◌∷◌, ◌++◌, map, length, IsSome, refl, sym, ap, ap₂, subst, ◌∙◌, arith, eq-eqb}
use Rattle.std.specs.List.{slice_get, enumerate_from}
use Rattle.std.specs.Prelude.{option_and_then, is_some, if◌then◌else◌}
use Rattle.std.specs.Option.{option_map, option_or}
use Rattle.std.specs.Ordering.{nat_cmp, eq_by_cmp}
use Rattle.std.specs.Cmp.{unsigned_tied}
use Rattle.std.specs.FinMap.{get, insert, find, get-insert, get-from_entries, same_map, nat_cmp-IsAntisymmetric}
use Rattle.std.proofs.lemmas.Cmp.{nat_cmp_total}
use Rattle.std.proofs.lemmas.Option.{slice_get_past, slice_get-map}
use Rattle.std.proofs.lemmas.Bool.{cases_eq, cases_lt, ne_eqb}
use Rattle.std.proofs.Math.Logic.{⊎_elim}
use Rattle.rp_base.specs.declared.action.Action.{Action}
use Rattle.rp_log.specs.Contents.{Places}
use Rattle.rp_log.specs.Holding.{Ahead, place_ahead, next_place, places_of, front_place, place_of, IsAhead}

-- ---- tests

-- the two numbers are one
abbrev pub same : ℕ → ℕ → Bool
same i n = eq_by_cmp nat_cmp i n

pub same_is : (i n : ℕ) → i ≡ n → same i n ≡ true
same_is i n e = unsigned_tied i n ∙ eq-eqb i n e

pub same_apart : (i n : ℕ) → i ≢ n → same i n ≡ false
same_apart i n apart = unsigned_tied i n ∙ ne_eqb i n apart

pub same_turned : (i n : ℕ) → same i n ≡ same n i
same_turned i n = ⊎_elim
    (λ (e : i ≡ n). same_is i n e ∙ sym (same_is n i (sym e)))
    (λ (apart : i ≢ n). same_apart i n apart ∙ sym (same_apart n i (λ e. apart (sym e))))
    (cases_eq i n)

-- ---- the map, position by position

find_here : {X : Type 0} (n : ℕ) (xs : List X) (q : ℕ) → find nat_cmp (n + q) (enumerate_from n xs) ≡ slice_get xs q
find_here n [] q = refl
find_here n (x ∷ xs) zero =
    ap (λ b. cond b (Some x) (find nat_cmp (n + 0) (enumerate_from (n + 1) xs))) (same_is (n + 0) n (omega arith))
find_here n (x ∷ xs) (suc q) =
    let there : n + suc q ≡ n + 1 + q = omega arith in
    ap (λ b. cond b (Some x) (find nat_cmp (n + suc q) (enumerate_from (n + 1) xs))) (same_apart (n + suc q) n (λ e. omega arith))
    ∙ ap (λ m. find nat_cmp m (enumerate_from (n + 1) xs)) there ∙ find_here (n + 1) xs q

find_before : {X : Type 0} (n : ℕ) (xs : List X) (q : ℕ) → q < n → find nat_cmp q (enumerate_from n xs) ≡ None
find_before n [] q below = refl
find_before n (x ∷ xs) q below =
    ap (λ b. cond b (Some x) (find nat_cmp q (enumerate_from (n + 1) xs))) (same_apart q n (λ e. omega arith))
    ∙ find_before (n + 1) xs q (omega arith)

find_front : (front : List Action) (i : ℕ) → find nat_cmp i (enumerate_from 1 (map (λ action. Some action) front)) ≡ front_place front i
find_front front zero = find_before 1 (map (λ action. Some action) front) 0 (omega arith)
find_front front (suc k) =
    let there : suc k ≡ 1 + k = omega arith in
    ap (λ m. find nat_cmp m (enumerate_from 1 (map (λ action. Some action) front))) there
    ∙ find_here 1 (map (λ action. Some action) front) k ∙ slice_get-map (λ action. Some action) front k

find_ahead : (i : ℕ) (ahead : Ahead) → find nat_cmp i ahead ≡ place_ahead ahead i
find_ahead i [] = refl
find_ahead i (e ∷ es) = ap (λ rest. cond (same i e.0) (Some e.1) rest) (find_ahead i es)

find_both : (i : ℕ) (xs ys : Ahead) → find nat_cmp i (xs ++ ys) ≡ option_or (find nat_cmp i xs) (find nat_cmp i ys)
find_both i [] ys = refl
find_both i (x ∷ xs) ys =
    elim (same i x.0) as (λ b. cond b (Some x.1) (find nat_cmp i (xs ++ ys)) ≡ option_or (cond b (Some x.1) (find nat_cmp i xs)) (find nat_cmp i ys))
    [ true ↦ refl | false ↦ find_both i xs ys ]

pub shown : (front : List Action) (reserved : Bool) (ahead : Ahead) (i : ℕ) → get (places_of front reserved ahead) i ≡ place_of front reserved ahead i
shown front reserved ahead i =
    let next = next_place reserved (length front + 1) in
    get-from_entries nat_cmp_total _ i ∙ find_both i (enumerate_from 1 (map (λ action. Some action) front)) (next ++ ahead)
    ∙ ap₂ option_or (find_front front i) (find_both i next ahead ∙ ap₂ option_or (find_ahead i next) (find_ahead i ahead))

-- a map that differs at one position
pub inserted : (old new : Places) (p : ℕ) (place : Option Action) → ((i : ℕ) → get new i ≡ cond (same i p) (Some place) (get old i)) → new ≡ insert old p place
inserted old new p place here =
    same_map nat_cmp_total nat_cmp-IsAntisymmetric new (insert old p place) (λ i. here i ∙ sym (get-insert nat_cmp_total old p place i))

pub unchanged : (old new : Places) → ((i : ℕ) → get new i ≡ get old i) → new ≡ old
unchanged old new here = same_map nat_cmp_total nat_cmp-IsAntisymmetric new old here

-- ---- the front

pub front_past : (front : List Action) (i : ℕ) → length front < i → front_place front i ≡ None
front_past front zero past = absurd (omega arith)
front_past front (suc k) past = ap (option_map (λ action. Some action)) (slice_get_past front k (omega arith))

pub front_within : (front : List Action) (k : ℕ) → k < length front → IsSome (slice_get front k)
front_within [] k within = absurd (omega arith)
front_within (a ∷ rest) zero within = refl
front_within (a ∷ rest) (suc k) within = front_within rest k (omega arith)

slice_get-push : (front : List Action) (a : Action) (k : ℕ) → slice_get (front ++ a ∷ []) k ≡ cond (k == length front) (Some a) (slice_get front k)
slice_get-push [] a zero = refl
slice_get-push [] a (suc k) = ap (λ b. cond b (Some a) None) (sym (ne_eqb (suc k) 0 (λ e. omega arith)))
slice_get-push (x ∷ xs) a zero = ap (λ b. cond b (Some a) (Some x)) (sym (ne_eqb 0 (suc (length xs)) (λ e. omega arith)))
slice_get-push (x ∷ xs) a (suc k) = slice_get-push xs a k ∙ ap (λ b. cond b (Some a) (slice_get xs k)) (⊎_elim
    (λ (e : k ≡ length xs). eq-eqb k (length xs) e ∙ sym (eq-eqb (suc k) (suc (length xs)) (ap suc e)))
    (λ (apart : k ≢ length xs). ne_eqb k (length xs) apart ∙ sym (ne_eqb (suc k) (suc (length xs)) (λ e. apart (omega arith))))
    (cases_eq k (length xs)))

some_cond : (b : Bool) (a : Action) (found : Option Action) → option_map (λ action. Some action) (cond b (Some a) found) ≡ cond b (Some (Some a)) (option_map (λ action. Some action) found)
some_cond true a found = refl
some_cond false a found = refl

pub push_place : (front : List Action) (a : Action) (i : ℕ) → front_place (front ++ a ∷ []) i ≡ cond (same i (length front + 1)) (Some (Some a)) (front_place front i)
push_place front a zero = ap (λ b. cond b (Some (Some a)) None) (sym (same_apart 0 (length front + 1) (λ e. omega arith)))
push_place front a (suc k) =
    let test : (k == length front) ≡ same (suc k) (length front + 1) =
    ⊎_elim
    (λ (e : k ≡ length front). eq-eqb k (length front) e ∙ sym (same_is (suc k) (length front + 1) (omega arith)))
    (λ (apart : k ≢ length front). ne_eqb k (length front) apart ∙ sym (same_apart (suc k) (length front + 1) (λ e. apart (omega arith))))
    (cases_eq k (length front)) in
    ap (option_map (λ action. Some action)) (slice_get-push front a k) ∙ some_cond (k == length front) a (slice_get front k)
    ∙ ap (λ b. cond b (Some (Some a)) (option_map (λ action. Some action) (slice_get front k))) test

-- ---- the steps

-- the position after the front is reserved
pub next_reserved : (front : List Action) (ahead : Ahead) (i : ℕ) → place_of front true ahead i ≡ cond (same i (length front + 1)) (Some None) (place_of front false ahead i)
next_reserved front ahead i = ⊎_elim
    (λ (e : i ≡ length front + 1).
    let out : front_place front i ≡ None = front_past front i (omega arith) in
    let here = same_is i (length front + 1) e in
    rw (out, here) refl)
    (λ (apart : i ≢ length front + 1).
    let here = same_apart i (length front + 1) apart in
    rw here refl)
    (cases_eq i (length front + 1))

-- a place ahead is written
pub ahead_written : (front : List Action) (reserved : Bool) (old new : Ahead) (p : ℕ) (place : Option Action) → length front + 1 < p
    → ((i : ℕ) → place_ahead new i ≡ cond (same p i) (Some place) (place_ahead old i))
    → (i : ℕ) → place_of front reserved new i ≡ cond (same i p) (Some place) (place_of front reserved old i)
ahead_written front reserved old new p place far written i = ⊎_elim
    (λ (e : i ≡ p).
    let out : front_place front i ≡ None = front_past front i (omega arith) in
    let next : place_ahead (next_place reserved (length front + 1)) i ≡ None =
    elim reserved as (λ b. place_ahead (next_place b (length front + 1)) i ≡ None)
    [ true ↦ ap (λ b. cond b (Some None) None) (same_apart i (length front + 1) (λ f. omega arith)) | false ↦ refl ] in
    let here = same_is i p e in
    let there = written i ∙ ap (λ b. cond b (Some place) (place_ahead old i)) (same_is p i (sym e)) in
    ap₂ option_or out (ap₂ option_or next there) ∙ sym (ap (λ b. cond b (Some place) (place_of front reserved old i)) here))
    (λ (apart : i ≢ p).
    let there = written i ∙ ap (λ b. cond b (Some place) (place_ahead old i)) (same_apart p i (λ e. apart (sym e))) in
    ap (λ x. option_or (front_place front i) (option_or (place_ahead (next_place reserved (length front + 1)) i) x)) there
    ∙ sym (ap (λ b. cond b (Some place) (place_of front reserved old i)) (same_apart i p apart)))
    (cases_eq i p)

-- or was ahead
pub next_moved : (front : List Action) (old new : Ahead) (a : Action) → ((i : ℕ) → place_ahead new i ≡ cond (same (length front + 1) i) None (place_ahead old i))
    → (i : ℕ) → place_of (front ++ a ∷ []) false new i ≡ cond (same i (length front + 1)) (Some (Some a)) (place_of front false old i)
next_moved front old new a removed i =
    let there = removed i ∙ ap (λ b. cond b None (place_ahead old i)) (same_turned (length front + 1) i) in
    ap₂ option_or (push_place front a i) there
    ∙ elim (same i (length front + 1)) as (λ b. option_or (cond b (Some (Some a)) (front_place front i)) (cond b None (place_ahead old i)) ≡ cond b (Some (Some a)) (option_or (front_place front i) (place_ahead old i)))
    [ true ↦ refl | false ↦ refl ]

-- where it was learned ahead, no place changes
pub next_advanced : (front : List Action) (old new : Ahead) (a : Action) → place_ahead old (length front + 1) ≡ Some (Some a)
    → ((i : ℕ) → place_ahead new i ≡ cond (same (length front + 1) i) None (place_ahead old i))
    → (i : ℕ) → place_of (front ++ a ∷ []) false new i ≡ place_of front false old i
next_advanced front old new a learned removed i = next_moved front old new a removed i ∙ ⊎_elim
    (λ (e : i ≡ length front + 1).
    let out : front_place front i ≡ None = front_past front i (omega arith) in
    let there : place_ahead old i ≡ Some (Some a) = ap (place_ahead old) e ∙ learned in
    ap (λ b. cond b (Some (Some a)) (place_of front false old i)) (same_is i (length front + 1) e) ∙ sym (ap₂ option_or out there))
    (λ (apart : i ≢ length front + 1). ap (λ b. cond b (Some (Some a)) (place_of front false old i)) (same_apart i (length front + 1) apart))
    (cases_eq i (length front + 1))

-- ---- ahead

-- where an action is learned, a place is there
pub action_some : (place : Option (Option Action)) (a : Action) → Some a ≡ option_and_then (λ learned. learned) place → place ≡ Some (Some a)
action_some None a e = absurd cc
action_some (Some learned) a e = ap (λ (l : Option Action). Some l) (sym e)

-- where the position after the front is taken out, those ahead lie after that position
pub removed_ahead : (n : ℕ) (old new : Ahead) → IsAhead n old → ((i : ℕ) → place_ahead new i ≡ cond (same (n + 1) i) None (place_ahead old i)) → IsAhead (n + 1) new
removed_ahead n old new ahead removed i there = ⊎_elim
    (λ (e : n + 1 ≡ i).
    let gone : place_ahead new i ≡ None = removed i ∙ ap (λ b. cond b None (place_ahead old i)) (same_is (n + 1) i e) in
    absurd cc)
    (λ (apart : n + 1 ≢ i).
    let stays : place_ahead new i ≡ place_ahead old i = removed i ∙ ap (λ b. cond b None (place_ahead old i)) (same_apart (n + 1) i apart) in
    let low = ahead i (subst (λ (p : Option (Option Action)). IsSome p) stays there) in
    ⊎_elim
    (λ (past : n + 1 < i). (past, low.1))
    (λ (within : i ≤ n + 1). absurd (apart (omega (arith, low.0))))
    (cases_lt (n + 1) i))
    (cases_eq (n + 1) i)

-- what is taken out was one place
pub one_fewer : (n : ℕ) (place : Option (Option Action)) (m : ℕ) (a : Option Action) → place ≡ Some a → n + (if is_some place then 1 else 0) ≡ m → n + 1 ≡ m
one_fewer n None m a is e = absurd cc
one_fewer n (Some x) m a is e = e

-- a place that is there is counted
pub counted : (i : ℕ) (ahead : Ahead) → IsSome (place_ahead ahead i) → 1 ≤ length ahead
counted i [] there = absurd cc
counted i (e ∷ es) there = omega arith

-- an action is put after the front, whatever was there
pub next_put : (front : List Action) (reserved : Bool) (old new : Ahead) (a : Action) → ((i : ℕ) → place_ahead new i ≡ cond (same (length front + 1) i) None (place_ahead old i))
    → (i : ℕ) → place_of (front ++ a ∷ []) false new i ≡ cond (same i (length front + 1)) (Some (Some a)) (place_of front reserved old i)
next_put front false old new a removed i = next_moved front old new a removed i
next_put front true old new a removed i =
    let there = removed i ∙ ap (λ b. cond b None (place_ahead old i)) (same_turned (length front + 1) i) in
    ap₂ option_or (push_place front a i) there
    ∙ elim (same i (length front + 1)) as (λ b. option_or (cond b (Some (Some a)) (front_place front i)) (cond b None (place_ahead old i)) ≡ cond b (Some (Some a)) (option_or (front_place front i) (option_or (cond b (Some None) None) (place_ahead old i))))
    [ true ↦ refl | false ↦ refl ]

-- ---- where none is ahead

pub place_alone : (ahead : Ahead) → length ahead ≡ 0 → (i : ℕ) → place_ahead ahead i ≡ None
place_alone [] none i = refl
place_alone (place ∷ rest) none i = absurd (omega arith)

pub follows_alone : (front : ℕ) (ahead : Ahead) → length ahead ≡ 0 → IsAhead front ahead
follows_alone front ahead none i there =
    let gone = place_alone ahead none i in
    absurd cc

pub put_alone : (front : List Action) (reserved : Bool) (ahead : Ahead) (a : Action) → length ahead ≡ 0
    → (i : ℕ) → place_of (front ++ a ∷ []) false ahead i ≡ cond (same i (length front + 1)) (Some (Some a)) (place_of front reserved ahead i)
put_alone front reserved ahead a none =
    next_put front reserved ahead ahead a (λ i. ⊎_elim
    (λ (e : length front + 1 ≡ i). place_alone ahead none i ∙ sym (ap (λ b. cond b None (place_ahead ahead i)) (same_is (length front + 1) i e)))
    (λ (apart : length front + 1 ≢ i). sym (ap (λ b. cond b None (place_ahead ahead i)) (same_apart (length front + 1) i apart)))
    (cases_eq (length front + 1) i))
