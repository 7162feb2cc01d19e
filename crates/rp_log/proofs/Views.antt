-- A log as it is seen, against how it is kept.
use Rattle.std.proofs.Common.{◌≡◌, ◌≢◌, ℕ, zero, suc, ◌+◌, ◌<◌, ◌≤◌, Bool, true, false, cond, Option, Some, None, List, [], ◌∷◌, ◌++◌, take, length, IsSome, refl, sym, ap, ap₂, subst, ◌∙◌, arith}
use Rattle.std.specs.Prelude.{option_and_then}
use Rattle.std.specs.List.{slice_get}
use Rattle.std.specs.Option.{option_map, option_or}
use Rattle.std.specs.FinMap.{get, insert}
use Rattle.std.proofs.lemmas.Bool.{cases_eq, cases_lt}
use Rattle.std.proofs.lemmas.Option.{slice_get_past}
use Rattle.std.proofs.Math.Logic.{⊎_elim}
use Rattle.rp_base.specs.declared.action.Action.{Action}
use Rattle.rp_log.specs.Contents.{Contents, Places, action_at, IsLearned, with_room, ready_of, next_to_take, IsTakenInOrder}
use Rattle.rp_log.specs.Holding.{Ahead, place_ahead, action_ahead, next_place, places_of, front_place, place_of, IsAhead}
use Rattle.rp_log.proofs.Places.{same_is, same_apart, shown, front_past, front_within}

-- the log of these parts
abbrev pub seen : List Action → Bool → Ahead → ℕ → Contents
seen front reserved ahead taken = record { places = places_of front reserved ahead; taken = take taken front }

abbrev pub learned_of : Option (Option Action) → Option Action
learned_of place = option_and_then (λ learned. learned) place

in_front : (found : Option Action) (rest : Option (Option Action)) → IsSome found → learned_of (option_or (option_map (λ action. Some action) found) rest) ≡ found
in_front None rest there = absurd cc
in_front (Some a) rest there = refl

pub front_room : (found : Option Action) (rest : Option (Option Action)) → IsSome found → IsSome (option_or (option_map (λ action. Some action) found) rest)
front_room None rest there = absurd cc
front_room (Some a) rest there = refl

unlearned : (place : Option (Option Action)) → place ≡ None → IsSome (learned_of place) → ⊥
unlearned place none there = absurd cc

length_taken : (n : ℕ) (front : List Action) → n ≤ length front → length (take n front) ≡ n
length_taken zero front within = refl
length_taken (suc n) [] within = absurd (omega arith)
length_taken (suc n) (a ∷ rest) within = ap suc (length_taken n rest (omega arith))

pub found_within : (front : List Action) (k : ℕ) (a : Action) → slice_get front k ≡ Some a → k < length front
found_within [] k a found = absurd cc
found_within (x ∷ rest) zero a found = omega arith
found_within (x ∷ rest) (suc k) a found = let less = found_within rest k a found in omega arith

pub map_missed : {X Y : Type 0} (f : X → Y) (found : Option X) → ((x : X) → found ≡ Some x → ⊥) → option_map f found ≡ None
map_missed f None never = refl
map_missed f (Some x) never = absurd (never x refl)

pub missed_past : (front : List Action) (k : ℕ) → slice_get front k ≡ None → length front ≤ k
missed_past [] k missed = omega arith
missed_past (x ∷ rest) zero missed = absurd cc
missed_past (x ∷ rest) (suc k) missed = let past = missed_past rest k missed in omega arith

module _ (front : List Action) (reserved : Bool) (ahead : Ahead) (taken : ℕ) where
  abbrev log : Contents
  log = seen front reserved ahead taken

  pub action_is : (i : ℕ) → action_at log i ≡ learned_of (place_of front reserved ahead i)
  action_is i = ap learned_of (shown front reserved ahead i)

  pub action_front : (k : ℕ) → k < length front → action_at log (suc k) ≡ slice_get front k
  action_front k within = action_is (suc k) ∙ in_front (slice_get front k) _ (front_within front k within)

  pub next_none : (i : ℕ) → i ≢ length front + 1 → place_ahead (next_place reserved (length front + 1)) i ≡ None
  next_none i apart =
      elim reserved as (λ b. place_ahead (next_place b (length front + 1)) i ≡ None)
      [ true ↦ ap (λ b. cond b (Some None) None) (same_apart i (length front + 1) apart) | false ↦ refl ]

  next_unlearned : (i : ℕ) → i ≡ length front + 1 → action_ahead ahead i ≡ None → learned_of (option_or (place_ahead (next_place reserved (length front + 1)) i) (place_ahead ahead i)) ≡ None
  next_unlearned i e gap =
      elim reserved as (λ b. learned_of (option_or (place_ahead (next_place b (length front + 1)) i) (place_ahead ahead i)) ≡ None)
      [ true ↦ ap (λ b. learned_of (option_or (cond b (Some None) None) (place_ahead ahead i))) (same_is i (length front + 1) e) | false ↦ gap ]

  pub action_after : (i : ℕ) → length front < i → action_ahead ahead (length front + 1) ≡ None → action_at log i ≡ action_ahead ahead i
  action_after i past gap =
      action_is i
      ∙ ap (λ p. learned_of (option_or p (option_or (place_ahead (next_place reserved (length front + 1)) i) (place_ahead ahead i)))) (front_past front i past)
      ∙ ⊎_elim
      (λ (e : i ≡ length front + 1). let here = ap (action_ahead ahead) e ∙ gap in next_unlearned i e here ∙ sym here)
      (λ (apart : i ≢ length front + 1). ap (λ p. learned_of (option_or p (place_ahead ahead i))) (next_none i apart))
      (cases_eq i (length front + 1))

  pub learned_below : (i : ℕ) → 1 ≤ i → i < length front + 1 → IsLearned log i
  learned_below zero low high = absurd (omega arith)
  learned_below (suc k) low high =
      let within : k < length front = omega arith in
      subst (λ (found : Option Action). IsSome found) (sym (action_front k within)) (front_within front k within)

  pub not_next : action_ahead ahead (length front + 1) ≡ None → IsLearned log (length front + 1) → ⊥
  not_next gap there =
      let none : action_at log (length front + 1) ≡ None = action_after (length front + 1) (omega arith) gap ∙ gap in
      absurd cc

  pub not_zero : IsAhead (length front) ahead → IsLearned log 0 → ⊥
  not_zero following there =
      let next = next_none 0 (λ e. omega arith) in
      let is = subst (λ (found : Option Action). IsSome found) (action_is 0 ∙ ap (λ p. learned_of (option_or p (place_ahead ahead 0))) next) there in
      let placed : IsSome (place_ahead ahead 0) = grind arith in
      absurd (omega (arith, (following 0 placed).0))

  -- ---- what was taken

  pub taken_length : taken ≤ length front → length (take taken front) ≡ taken
  taken_length within = length_taken taken front within

  pub next_is : taken ≤ length front → next_to_take log ≡ suc taken
  next_is within = omega (arith, taken_length within)

  pub ready_is : taken ≤ length front → ready_of log ≡ action_at log (suc taken)
  ready_is within = ap (action_at log) (next_is within)

  -- what is ready is the action of the front after those that were taken
  pub ready_front : taken ≤ length front → action_ahead ahead (length front + 1) ≡ None → slice_get front taken ≡ ready_of log
  ready_front within gap = ⊎_elim
      (λ (more : taken < length front). sym (ready_is within ∙ action_front taken more))
      (λ (end : length front ≤ taken).
      let next : suc taken ≡ length front + 1 = omega arith in
      slice_get_past front taken end ∙ sym (ready_is within ∙ ap (action_at log) next ∙ action_after (length front + 1) (omega arith) gap ∙ gap))
      (cases_lt taken (length front))

  pub all_taken : taken ≤ length front → ready_of log ≡ None → length front + 1 ≡ next_to_take log
  all_taken within none = ⊎_elim
      (λ (more : taken < length front).
      let there = front_within front taken more in
      let found : slice_get front taken ≡ None = sym (action_front taken more) ∙ sym (ready_is within) ∙ none in
      absurd cc)
      (λ (end : length front ≤ taken). omega (arith, next_is within))
      (cases_lt taken (length front))

slice_get-taken : (n : ℕ) (front : List Action) (k : ℕ) → k < n → slice_get (take n front) k ≡ slice_get front k
slice_get-taken zero front k within = absurd (omega arith)
slice_get-taken (suc n) [] k within = refl
slice_get-taken (suc n) (a ∷ rest) zero within = refl
slice_get-taken (suc n) (a ∷ rest) (suc k) within = slice_get-taken n rest k (omega arith)

pub taken_more : (n : ℕ) (front : List Action) (a : Action) → slice_get front n ≡ Some a → take (suc n) front ≡ take n front ++ a ∷ []
taken_more n [] a found = absurd cc
taken_more zero (x ∷ rest) a found = let is : x ≡ a = cc in ap (λ y. y ∷ []) is
taken_more (suc n) (x ∷ rest) a found = ap (λ ys. x ∷ ys) (taken_more n rest a found)

-- the action that is ready is taken
pub takes_ready : (front : List Action) (taken : ℕ) (ready : Option Action) → slice_get front taken ≡ ready → IsSome ready → Some (take (taken + 1) front) ≡ option_map (λ action. take taken front ++ action ∷ []) ready
takes_ready front taken None found there = absurd cc
takes_ready front taken (Some a) found there =
    let more : taken + 1 ≡ suc taken = omega arith in
    ap (λ n. Some (take n front)) more ∙ ap (λ (l : List Action). Some l) (taken_more taken front a found)

-- which is one of the front
pub ready_within : (front : List Action) (taken : ℕ) (ready : Option Action) → slice_get front taken ≡ ready → IsSome ready → taken < length front
ready_within front taken None found there = absurd cc
ready_within front taken (Some a) found there = found_within front taken a found

pub in_order : (front : List Action) (reserved : Bool) (ahead : Ahead) (taken : ℕ) → taken ≤ length front → IsTakenInOrder (seen front reserved ahead taken)
in_order front reserved ahead taken within = λ k inside.
    let few : k < taken = omega (arith, taken_length front reserved ahead taken within) in
    let next : suc k ≡ k + 1 = omega arith in
    slice_get-taken taken front k few ∙ sym (action_front front reserved ahead taken k (omega arith)) ∙ ap (action_at (seen front reserved ahead taken)) next

-- ---- reserving

room_of : (front place rest : Option (Option Action)) → IsSome place → IsSome (option_or front (option_or rest place))
room_of None place None there = there
room_of None place (Some x) there = refl
room_of (Some x) place rest there = refl

module _ (front : List Action) (reserved : Bool) (ahead : Ahead) (taken : ℕ) where
  -- a position of the front has its place
  pub room_front : (i : ℕ) → 1 ≤ i → i ≤ length front → IsSome (get (places_of front reserved ahead) i)
  room_front zero low high = absurd (omega arith)
  room_front (suc k) low high =
      let within : k < length front = omega arith in
      let there = front_within front k within in
      subst (λ (p : Option (Option Action)). IsSome p) (sym (shown front reserved ahead (suc k))) (front_room (slice_get front k) _ there)

pub room_made : (log : Contents) (i : ℕ) (places : Places) → get log.places i ≡ None → places ≡ insert log.places i None → record { places = places; taken = log.taken } ≡ with_room log i
room_made log i places none made = rw (none, made) refl
