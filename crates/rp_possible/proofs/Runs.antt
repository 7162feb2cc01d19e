-- The applied list ends where nothing is learned, and only what is learned makes it longer.
use Rattle.std.proofs.Common.{◌≡◌, ℕ, zero, suc, ◌+◌, ◌-◌, ◌<◌, ◌≤◌, Bool, true, false, cond, ◌||◌, Option, Some, None, List, [], ◌∷◌, ◌++◌, length, refl, ap, subst, ◌∙◌, inl, inr, arith, length-append, append-nil}
use Rattle.std.specs.Prelude.{nat_eq, option_to_list}
use Rattle.std.specs.List.{list_any, cons_option}
use Rattle.std.proofs.lemmas.Bool.{cases_eq, eq-eqb, ne_eqb, cond-true}
use Rattle.std.proofs.lemmas.Map.Steps.{le-length_from_below}
use Rattle.rp_base.specs.declared.action.Action.{Action}
use Rattle.rp_base.specs.declared.record.Rec.{Rec}
use Rattle.rp_base.specs.declared.record.Rec.TheVariants.{Started, Promised, Voted, Learned, PromisedRange}
use Rattle.rp_base.specs.declared.record.Vote.{Vote}
use Rattle.rp_base.specs.Records.{or_else, learned_in, learned_at, learned_run, applied_of, first_unlearned, unless_missing, vote_in, last_vote_at, highest}
use Rattle.rp_base.proofs.MoreRecords.{learned_push, last_push}

-- ---- runs

-- a run that is shorter than it may be ends where nothing is learned
run_gap : (records : List Rec) (most i : ℕ) → length (learned_run records most i) < most → learned_at records (i + length (learned_run records most i)) ≡ None
run_gap records zero i short = absurd (omega (arith, short))
run_gap records (suc most) i short = by (learned_at records i) refl short (run_gap records most (suc i))
  where
    by : (o : Option Action) → learned_at records i ≡ o → length (unless_missing o (learned_run records most (suc i))) < suc most
        → (length (learned_run records most (suc i)) < most → learned_at records (suc i + length (learned_run records most (suc i))) ≡ None)
        → learned_at records (i + length (unless_missing o (learned_run records most (suc i)))) ≡ None
    by None is short later = let here : i ≡ i + 0 = omega arith in subst (λ (j : ℕ). learned_at records j ≡ None) here is
    by (Some v) is short later =
        let next : suc i + length (learned_run records most (suc i)) ≡ i + suc (length (learned_run records most (suc i))) = omega arith in
        subst (λ (j : ℕ). learned_at records j ≡ None) next (later (omega (arith, short)))

-- one that is not longer than this is the same where it may be longer
run_same : (records : List Rec) (most i : ℕ) → length (learned_run records (suc most) i) ≤ most → learned_run records (suc most) i ≡ learned_run records most i
run_same records zero i few = by (learned_at records i) few
  where
    by : (o : Option Action) → length (unless_missing o []) ≤ 0 → unless_missing o [] ≡ []
    by None few = refl
    by (Some v) few = absurd (omega (arith, few))
run_same records (suc most) i few = by (learned_at records i) few (run_same records most (suc i))
  where
    by : (o : Option Action) → length (unless_missing o (learned_run records (suc most) (suc i))) ≤ suc most
        → (length (learned_run records (suc most) (suc i)) ≤ most → learned_run records (suc most) (suc i) ≡ learned_run records most (suc i))
        → unless_missing o (learned_run records (suc most) (suc i)) ≡ unless_missing o (learned_run records most (suc i))
    by None few same = refl
    by (Some v) few same = ap (λ (run : List Action). v ∷ run) (same (omega (arith, few)))

-- ---- no more positions are learned than there are records

-- the positions that the records learn at, less 1
spots : List Rec → List ℕ
spots [] = []
spots (Started ballot ∷ rest) = spots rest
spots (Promised position ballot ∷ rest) = spots rest
spots (Voted position ballot action ∷ rest) = spots rest
spots (Learned position action ∷ rest) = (position - 1) ∷ spots rest
spots (PromisedRange range ballot ∷ rest) = spots rest

length-spots : (records : List Rec) → length (spots records) ≤ length records
unfolding spots
length-spots [] = omega arith
length-spots (Started ballot ∷ rest) = let h = length-spots rest in omega arith
length-spots (Promised position ballot ∷ rest) = let h = length-spots rest in omega arith
length-spots (Voted position ballot action ∷ rest) = let h = length-spots rest in omega arith
length-spots (Learned position action ∷ rest) = let h = length-spots rest in omega arith
length-spots (PromisedRange range ballot ∷ rest) = let h = length-spots rest in omega arith

or_true : (b : Bool) → (b || true) ≡ true
or_true true = refl
or_true false = refl

is_spot : (records : List Rec) (q : ℕ) (v : Action) → learned_at records (suc q) ≡ Some v → list_any (nat_eq q) (spots records) ≡ true
unfolding spots
is_spot [] q v found = absurd (cc)
is_spot (Started ballot ∷ rest) q v found = is_spot rest q v found
is_spot (Promised position ballot ∷ rest) q v found = is_spot rest q v found
is_spot (Voted position ballot action ∷ rest) q v found = is_spot rest q v found
is_spot (Learned position action ∷ rest) q v found =
    elim (cases_eq position (suc q)) [
      | inl same ↦
          let spot : q ≡ position - 1 = omega (arith, same) in
          ap (λ b. b || list_any (nat_eq q) (spots rest)) (eq-eqb q (position - 1) spot)
      | inr apart ↦
          let later : learned_at rest (suc q) ≡ Some v =
          subst (λ (b : Bool). or_else (cond b (Some action) None) (learned_at rest (suc q)) ≡ Some v) (ne_eqb position (suc q) apart) found in
          ap (λ b. nat_eq q (position - 1) || b) (is_spot rest q v later) ∙ or_true (nat_eq q (position - 1))
    ]
is_spot (PromisedRange range ballot ∷ rest) q v found = is_spot rest q v found

-- each position of a run is learned
run_has : (records : List Rec) (most i k : ℕ) → k < length (learned_run records most i) → (v : Action) × (learned_at records (k + i) ≡ Some v)
run_has records zero i k below = absurd (omega (arith, below))
run_has records (suc most) i k below = by (learned_at records i) refl k below (run_has records most (suc i))
  where
    by : (o : Option Action) → learned_at records i ≡ o → (k : ℕ) → k < length (unless_missing o (learned_run records most (suc i)))
        → ((k : ℕ) → k < length (learned_run records most (suc i)) → (v : Action) × (learned_at records (k + suc i) ≡ Some v)) → (v : Action) × (learned_at records (k + i) ≡ Some v)
    by None is k below later = absurd (omega (arith, below))
    by (Some v) is zero below later = let here : i ≡ 0 + i = omega arith in (v, subst (λ (j : ℕ). learned_at records j ≡ Some v) here is)
    by (Some v) is (suc k) below later =
        let rest = later k (omega (arith, below)) in
        let next : k + suc i ≡ suc k + i = omega arith in
        (rest.0, subst (λ (j : ℕ). learned_at records j ≡ Some rest.0) next rest.1)

run_few : (records : List Rec) (most : ℕ) → length (learned_run records most 1) ≤ length records
run_few records most =
    let each : (q : ℕ) → q < length (learned_run records most 1) → list_any (nat_eq q) (spots records) ≡ true = λ q below.
    let has = run_has records most 1 q below in
    let next : q + 1 ≡ suc q = omega arith in
    is_spot records q has.0 (subst (λ (j : ℕ). learned_at records j ≡ Some has.0) next has.1) in
    let few : length (learned_run records most 1) ≤ length (spots records) = le-length_from_below (spots records) (length (learned_run records most 1)) each in
    omega (arith, few, length-spots records)

longer_run : (records : List Rec) → learned_run records (suc (length records)) 1 ≡ applied_of records
longer_run records = run_same records (length records) 1 (run_few records (suc (length records)))

-- the first unlearned position is not learned
pub first_is_unlearned : (records : List Rec) → learned_at records (first_unlearned records) ≡ None
first_is_unlearned records =
    let few : length (learned_run records (suc (length records)) 1) ≤ length records = run_few records (suc (length records)) in
    let gap = run_gap records (suc (length records)) 1 (omega (arith, few)) in
    let here : 1 + length (applied_of records) ≡ suc (length (applied_of records)) = omega arith in
    subst (λ (j : ℕ). learned_at records j ≡ None) here (subst (λ (run : List Action). learned_at records (1 + length run) ≡ None) (longer_run records) gap)

-- ---- with a record that learns nothing

run_alike : (records others : List Rec) → ((i : ℕ) → learned_at records i ≡ learned_at others i) → (most i : ℕ) → learned_run records most i ≡ learned_run others most i
run_alike records others alike zero i = refl
run_alike records others alike (suc most) i =
    ap (λ (o : Option Action). unless_missing o (learned_run records most (suc i))) (alike i)
    ∙ ap (unless_missing (learned_at others i)) (run_alike records others alike most (suc i))

or_none : (o : Option Action) → or_else o None ≡ o
or_none None = refl
or_none (Some action) = refl

pub applied_same : (records : List Rec) (rec : Rec) → ((i : ℕ) → learned_in i rec ≡ None) → applied_of (records ++ rec ∷ []) ≡ applied_of records
applied_same records rec nothing =
    let alike : (i : ℕ) → learned_at (records ++ rec ∷ []) i ≡ learned_at records i =
    λ i. learned_push records rec i ∙ ap (or_else (learned_at records i)) (nothing i) ∙ or_none (learned_at records i) in
    let long : length (records ++ rec ∷ []) ≡ suc (length records) = omega (arith, length-append records (rec ∷ [])) in
    ap (λ (most : ℕ). learned_run (records ++ rec ∷ []) most 1) long
    ∙ run_alike (records ++ rec ∷ []) records alike (suc (length records)) 1
    ∙ longer_run records

-- ---- with a record that is no vote there

one_highest : (o : Option Vote) → highest (option_to_list o) ≡ o
one_highest None = refl
one_highest (Some vote) = refl

pub last_same : (records : List Rec) (rec : Rec) (i : ℕ) → vote_in i rec ≡ None → last_vote_at (records ++ rec ∷ []) i ≡ last_vote_at records i
last_same records rec i none =
    last_push records rec i
    ∙ ap (λ (o : Option Vote). highest (option_to_list (last_vote_at records i) ++ cons_option o [])) none
    ∙ ap highest (append-nil (option_to_list (last_vote_at records i)))
    ∙ one_highest (last_vote_at records i)

-- ---- with the action of the first unlearned position

stays_learned : (records : List Rec) (rec : Rec) (i : ℕ) (v : Action) → learned_at records i ≡ Some v → learned_at (records ++ rec ∷ []) i ≡ Some v
stays_learned records rec i v is = learned_push records rec i ∙ ap (λ (o : Option Action). or_else o (learned_in i rec)) is

run_on : (records : List Rec) (rec : Rec) (v : Action) (most i : ℕ) → learned_at (records ++ rec ∷ []) (i + length (learned_run records most i)) ≡ Some v
    → (further : List Action) × (learned_run (records ++ rec ∷ []) (suc most) i ≡ learned_run records most i ++ v ∷ further)
run_on records rec v zero i next =
    let here : i + 0 ≡ i = omega arith in
    ([], ap (λ (o : Option Action). unless_missing o []) (subst (λ (j : ℕ). learned_at (records ++ rec ∷ []) j ≡ Some v) here next))
run_on records rec v (suc most) i next = by (learned_at records i) refl next (run_on records rec v most (suc i))
  where
    by : (o : Option Action) → learned_at records i ≡ o → learned_at (records ++ rec ∷ []) (i + length (unless_missing o (learned_run records most (suc i)))) ≡ Some v
        → (learned_at (records ++ rec ∷ []) (suc i + length (learned_run records most (suc i))) ≡ Some v
        → (further : List Action) × (learned_run (records ++ rec ∷ []) (suc most) (suc i) ≡ learned_run records most (suc i) ++ v ∷ further))
        → (further : List Action) × (unless_missing (learned_at (records ++ rec ∷ []) i) (learned_run (records ++ rec ∷ []) (suc most) (suc i)) ≡ unless_missing o (learned_run records most (suc i)) ++ v ∷ further)
    by None is next later =
        let here : i + 0 ≡ i = omega arith in (
          learned_run (records ++ rec ∷ []) (suc most) (suc i),
          ap (λ (o : Option Action). unless_missing o (learned_run (records ++ rec ∷ []) (suc most) (suc i))) (subst (λ (j : ℕ). learned_at (records ++ rec ∷ []) j ≡ Some v) here next),
        )
    by (Some action) is next later =
        let there : i + suc (length (learned_run records most (suc i))) ≡ suc i + length (learned_run records most (suc i)) = omega arith in
        let rest = later (subst (λ (j : ℕ). learned_at (records ++ rec ∷ []) j ≡ Some v) there next) in (
          rest.0,
          ap (λ (o : Option Action). unless_missing o (learned_run (records ++ rec ∷ []) (suc most) (suc i))) (stays_learned records rec i action is)
              ∙ ap (λ (run : List Action). action ∷ run) rest.1,
        )

-- it is applied after all that was
pub learned_next : (records : List Rec) (v : Action) → (further : List Action) × (applied_of (records ++ Learned (first_unlearned records) v ∷ []) ≡ applied_of records ++ v ∷ further)
learned_next records v =
    let p = first_unlearned records in
    let learned : learned_at (records ++ Learned p v ∷ []) p ≡ Some v =
    learned_push records (Learned p v) p ∙ ap (λ (o : Option Action). or_else o (learned_in p (Learned p v))) (first_is_unlearned records) ∙ cond-true (nat_eq p p) (Some v) None (eq-eqb p p refl) in
    let here : suc (length (applied_of records)) ≡ 1 + length (applied_of records) = omega arith in
    let on = run_on records (Learned p v) v (length records) 1 (subst (λ (j : ℕ). learned_at (records ++ Learned p v ∷ []) j ≡ Some v) here learned) in
    let long : length (records ++ Learned p v ∷ []) ≡ suc (length records) = omega (arith, length-append records (Learned p v ∷ [])) in
    (on.0, ap (λ (most : ℕ). learned_run (records ++ Learned p v ∷ []) most 1) long ∙ on.1)
