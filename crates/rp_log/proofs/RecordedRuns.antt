-- What the records of a node say was learned, against what its log took.
use Rattle.std.proofs.Common.{◌≡◌, ◌≢◌, ℕ, zero, suc, ◌+◌, ◌-◌, ◌<◌, ◌≤◌, Bool, true, false, cond, ◌||◌, nat_eq, Option, Some, None, IsSome, unwrap_or, List, [], ◌∷◌, ◌++◌, length, is_some, refl, sym, ap, ap₂, subst, ◌∙◌, arith}
use Rattle.std.specs.List.{slice_get, list_any}
use Rattle.std.specs.Prelude.{option_and_then}
use Rattle.std.specs.FinMap.{get, insert, get-insert}
use Rattle.std.proofs.lemmas.Cmp.{nat_cmp_total}
use Rattle.rp_log.proofs.Places.{same, same_is, same_apart}
use Rattle.std.proofs.Math.Logic.{⊎_elim}
use Rattle.std.proofs.lemmas.Bool.{cases_eq, eq-eqb, ne_eqb}
use Rattle.std.proofs.lemmas.Map.Steps.{le-length_from_below}
use Rattle.rp_base.specs.declared.action.Action.{Action}
use Rattle.rp_base.specs.declared.record.Rec.{Rec}
use Rattle.rp_base.specs.declared.record.Rec.TheVariants.{Started, Promised, Voted, Learned, PromisedRange}
use Rattle.rp_base.specs.Records.{or_else, learned_in, learned_at, learned_run, applied_of, unless_missing}
use Rattle.rp_log.specs.Contents.{Contents, action_at, with_room, with_action, next_to_take, IsTakenInOrder}
use Rattle.rp_log.specs.Recorded.{LearnedAlike}

-- ---- a record more

or_none : (found : Option Action) → or_else found None ≡ found
or_none None = refl
or_none (Some action) = refl

or_some : (found : Option Action) (v : Action) → or_else found (Some v) ≡ Some (unwrap_or found v)
or_some None v = refl
or_some (Some action) v = refl

or_assoc : (first second third : Option Action) → or_else first (or_else second third) ≡ or_else (or_else first second) third
or_assoc None second third = refl
or_assoc (Some action) second third = refl

learned_more : (records : List Rec) (i j : ℕ) (v : Action) → learned_at (records ++ Learned i v ∷ []) j ≡ or_else (learned_at records j) (cond (nat_eq i j) (Some v) None)
learned_more [] i j v = or_none (cond (nat_eq i j) (Some v) None)
learned_more (rec ∷ rest) i j v =
    ap (or_else (learned_in j rec)) (learned_more rest i j v) ∙ or_assoc (learned_in j rec) (learned_at rest j) (cond (nat_eq i j) (Some v) None)

pub learned_alike : (records : List Rec) (old new : Contents) (i : ℕ) (v : Action) → LearnedAlike records old → action_at new i ≡ Some (unwrap_or (action_at old i) v) → ((j : ℕ) → j ≢ i → action_at new j ≡ action_at old j) → LearnedAlike (records ++ Learned i v ∷ []) new
learned_alike records old new i v alike first others = λ j. ⊎_elim
    (λ (same : i ≡ j).
    let test : nat_eq i j ≡ true = eq-eqb i j same in
    let more : learned_at (records ++ Learned i v ∷ []) j ≡ or_else (learned_at records j) (Some v) =
    learned_more records i j v ∙ ap (λ b. or_else (learned_at records j) (cond b (Some v) None)) test in
    let here : action_at new j ≡ Some (unwrap_or (action_at old j) v) =
    ap (action_at new) (sym same) ∙ first ∙ ap (λ k. Some (unwrap_or (action_at old k) v)) same in
    here ∙ ap (λ found. Some (unwrap_or found v)) (alike j) ∙ sym (or_some (learned_at records j) v) ∙ sym more)
    (λ (apart : i ≢ j).
    let test : nat_eq i j ≡ false = ne_eqb i j apart in
    let more : learned_at (records ++ Learned i v ∷ []) j ≡ or_else (learned_at records j) None =
    learned_more records i j v ∙ ap (λ b. or_else (learned_at records j) (cond b (Some v) None)) test in
    others j (λ e. apart (sym e)) ∙ alike j ∙ sym (or_none (learned_at records j)) ∙ sym more)
    (cases_eq i j)

abbrev learned_of : Option (Option Action) → Option Action
learned_of place = option_and_then (λ learned. learned) place

pub learned_with : (records : List Rec) (log : Contents) (i : ℕ) (v : Action) → LearnedAlike records log → LearnedAlike (records ++ Learned i v ∷ []) (with_action log i v)
learned_with records log i v alike =
    let place : Option Action = Some (unwrap_or (action_at log i) v) in
    let found : (j : ℕ) → action_at (with_action log i v) j ≡ learned_of (cond (same j i) (Some place) (get log.places j)) = λ j. ap learned_of (get-insert nat_cmp_total log.places i place j) in
    learned_alike records log (with_action log i v) i v alike
    (found i ∙ ap (λ b. learned_of (cond b (Some place) (get log.places i))) (same_is i i refl))
    (λ j apart. found j ∙ ap (λ b. learned_of (cond b (Some place) (get log.places j))) (same_apart j i apart))

no_place : (place : Option (Option Action)) → is_some place ≡ false → place ≡ None
no_place None e = refl
no_place (Some x) e = absurd cc

room_learned : (log : Contents) (i j : ℕ) (b : Bool) → is_some (get log.places i) ≡ b → action_at (cond b log (record log { places = insert log.places i None })) j ≡ action_at log j
room_learned log i j true there = refl
room_learned log i j false none =
    ap learned_of (get-insert nat_cmp_total log.places i None j) ∙ ⊎_elim
    (λ (e : j ≡ i).
    let gone : get log.places j ≡ None = ap (get log.places) e ∙ no_place (get log.places i) none in
    ap (λ b. learned_of (cond b (Some None) (get log.places j))) (same_is j i e) ∙ sym (ap learned_of gone))
    (λ (apart : j ≢ i). ap (λ b. learned_of (cond b (Some None) (get log.places j))) (same_apart j i apart))
    (cases_eq j i)

pub reserved_alike : (records : List Rec) (log : Contents) (i : ℕ) → LearnedAlike records log → LearnedAlike records (with_room log i)
reserved_alike records log i alike = λ j. room_learned log i j (is_some (get log.places i)) refl ∙ alike j

-- ---- the taken actions as a run

-- these are the actions learned from position i on
abbrev pub AreLearnedFrom : List Rec → ℕ → List Action → Type 0
AreLearnedFrom records i actions = (k : ℕ) → k < length actions → slice_get actions k ≡ learned_at records (i + k)

after_first : (records : List Rec) (i : ℕ) (action : Action) (actions : List Action) → AreLearnedFrom records i (action ∷ actions) → AreLearnedFrom records (suc i) actions
after_first records i action actions learned = λ k within.
    let next : i + suc k ≡ suc i + k = omega arith in
    learned (suc k) (omega arith) ∙ ap (learned_at records) next

first_of_run : (records : List Rec) (i : ℕ) (action : Action) (actions : List Action) → AreLearnedFrom records i (action ∷ actions) → Some action ≡ learned_at records i
first_of_run records i action actions learned =
    let here : i + 0 ≡ i = omega arith in
    learned 0 (omega arith) ∙ ap (learned_at records) here

pub run_so_far : (records : List Rec) (i : ℕ) (actions : List Action) → AreLearnedFrom records i actions → actions ≡ learned_run records (length actions) i
run_so_far records i [] learned = refl
run_so_far records i (action ∷ actions) learned =
    ap₂ unless_missing (first_of_run records i action actions learned) (run_so_far records (suc i) actions (after_first records i action actions learned))

run_to_end : (records : List Rec) (i most : ℕ) (actions : List Action) → AreLearnedFrom records i actions → length actions ≤ most → learned_at records (i + length actions) ≡ None → actions ≡ learned_run records most i
run_to_end records i zero [] learned within gap = refl
run_to_end records i (suc most) [] learned within gap =
    let here : i + 0 ≡ i = omega arith in
    let none : learned_at records i ≡ None = ap (learned_at records) (sym here) ∙ gap in
    ap (λ found. unless_missing found (learned_run records most (suc i))) (sym none)
run_to_end records i zero (action ∷ actions) learned within gap = absurd (omega arith)
run_to_end records i (suc most) (action ∷ actions) learned within gap =
    let next : suc i + length actions ≡ i + suc (length actions) = omega arith in
    ap₂ unless_missing (first_of_run records i action actions learned)
    (run_to_end records (suc i) most actions (after_first records i action actions learned) (omega arith) (ap (learned_at records) next ∙ gap))

-- ---- no more positions are learned than there are records

-- the positions that the records learn at, less 1
spots : List Rec → List ℕ
spots [] = []
spots (Started ballot ∷ rest) = spots rest
spots (Promised position ballot ∷ rest) = spots rest
spots (Voted position ballot action ∷ rest) = spots rest
spots (Learned position action ∷ rest) = (position - 1) ∷ spots rest
spots (PromisedRange range ballot ∷ rest) = spots rest

length-spots : (records : List Rec) → length (spots records) ≤ length records
unfolding spots
length-spots [] = omega arith
length-spots (Started ballot ∷ rest) = let h = length-spots rest in omega arith
length-spots (Promised position ballot ∷ rest) = let h = length-spots rest in omega arith
length-spots (Voted position ballot action ∷ rest) = let h = length-spots rest in omega arith
length-spots (Learned position action ∷ rest) = let h = length-spots rest in omega arith
length-spots (PromisedRange range ballot ∷ rest) = let h = length-spots rest in omega arith

or_true : (b : Bool) → (b || true) ≡ true
or_true true = refl
or_true false = refl

is_spot : (records : List Rec) (q : ℕ) → IsSome (learned_at records (suc q)) → list_any (nat_eq q) (spots records) ≡ true
unfolding spots
is_spot [] q found = cc
is_spot (Started ballot ∷ rest) q found = is_spot rest q found
is_spot (Promised position ballot ∷ rest) q found = is_spot rest q found
is_spot (Voted position ballot action ∷ rest) q found = is_spot rest q found
is_spot (Learned position action ∷ rest) q found = ⊎_elim
    (λ (same : position ≡ suc q).
    let spot : q ≡ position - 1 = omega arith in
    ap (λ b. b || list_any (nat_eq q) (spots rest)) (eq-eqb q (position - 1) spot))
    (λ (apart : position ≢ suc q).
    let later : IsSome (learned_at rest (suc q)) =
    let Found : Bool → Type 0 = λ b. IsSome (or_else (cond b (Some action) None) (learned_at rest (suc q))) in
    subst Found (ne_eqb position (suc q) apart) found in
    ap (λ b. nat_eq q (position - 1) || b) (is_spot rest q later) ∙ or_true (nat_eq q (position - 1)))
    (cases_eq position (suc q))
is_spot (PromisedRange range ballot ∷ rest) q found = is_spot rest q found

-- ---- the law

is_some_of : (found : Option Action) (actions : List Action) (k : ℕ) → k < length actions → slice_get actions k ≡ found → IsSome found
is_some_of found [] k within e = absurd (omega arith)
is_some_of found (action ∷ actions) zero within e = ap is_some (sym e)
is_some_of found (action ∷ actions) (suc k) within e = is_some_of found actions k (omega arith) e

learned_from_one : (records : List Rec) (log : Contents) → LearnedAlike records log → IsTakenInOrder log → AreLearnedFrom records 1 log.taken
learned_from_one records log alike order = λ k within.
    let next : k + 1 ≡ 1 + k = omega arith in
    order k within ∙ alike (k + 1) ∙ ap (learned_at records) next

pub taken_so_far : (records : List Rec) (log : Contents) → LearnedAlike records log → IsTakenInOrder log → log.taken ≡ learned_run records (length log.taken) 1
taken_so_far records log alike order = run_so_far records 1 log.taken (learned_from_one records log alike order)

pub all_taken : (records : List Rec) (log : Contents) → LearnedAlike records log → IsTakenInOrder log → action_at log (next_to_take log) ≡ None → log.taken ≡ applied_of records
all_taken records log alike order gap =
    let learned = learned_from_one records log alike order in
    let each : (q : ℕ) → q < length log.taken → list_any (nat_eq q) (spots records) ≡ true = λ q within.
    let next : 1 + q ≡ suc q = omega arith in
    is_spot records q (is_some_of (learned_at records (suc q)) log.taken q within (learned q within ∙ ap (learned_at records) next)) in
    let few : length log.taken ≤ length (spots records) = le-length_from_below (spots records) (length log.taken) each in
    let most : length log.taken ≤ length records = omega (arith, length-spots records) in
    let next : 1 + length log.taken ≡ length log.taken + 1 = omega arith in
    let end : learned_at records (1 + length log.taken) ≡ None = ap (learned_at records) next ∙ sym (alike (length log.taken + 1)) ∙ gap in
    run_to_end records 1 (length records) log.taken learned most end
