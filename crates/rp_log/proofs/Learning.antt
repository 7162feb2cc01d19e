-- What learning an action leaves of how a log is kept.
use Rattle.std.proofs.Common.{◌≡◌, ◌≢◌, ◌⊎◌, inl, inr, ℕ, ◌+◌, ◌<◌, ◌≤◌, Bool, true, false, cond, Option, Some, None, List, ◌++◌, take, length, IsSome, refl, sym, ap, ap₂, subst, ◌∙◌, unwrap_or, arith}
use Rattle.std.specs.Prelude.{is_some, max, if◌then◌else◌}
use Rattle.std.specs.Option.{option_or}
use Rattle.std.specs.FinMap.{get, insert}
use Rattle.std.proofs.lemmas.Bool.{cases_eq, cases_lt}
use Rattle.std.proofs.lemmas.List.{take-append-le}
use Rattle.std.proofs.Math.Logic.{⊎_elim}
use Rattle.rp_base.specs.declared.action.Action.{Action}
use Rattle.rp_log.specs.Contents.{Contents, Places, action_at, with_action}
use Rattle.rp_log.specs.Holding.{Ahead, place_ahead, action_ahead, next_place, places_of, place_of, IsAhead, reserved_count, Fits}
use Rattle.rp_log.proofs.Places.{same, same_is, same_apart, shown, inserted, front_past, ahead_written}
use Rattle.rp_log.proofs.Views.{seen, learned_of, next_none, learned_below}

there_is : (place : Option (Option Action)) → IsSome (learned_of place) → place ≡ Some (learned_of place)
there_is None there = absurd cc
there_is (Some learned) there = refl

still : (found : Option Action) (v : Action) → IsSome found → Some (unwrap_or found v) ≡ found
still None v there = absurd cc
still (Some a) v there = refl

-- an action that was learned stays
pub learned_again : (log : Contents) (p : ℕ) (v : Action) → IsSome (action_at log p) → log ≡ with_action log p v
learned_again log p v there =
    let place = there_is (get log.places p) there in
    let kept : Option Action = Some (unwrap_or (action_at log p) v) in
    let stays : kept ≡ action_at log p = still (action_at log p) v there in
    let alike : log.places ≡ insert log.places p kept = inserted log.places log.places p kept (λ i. ⊎_elim
    (λ (e : i ≡ p). ap (get log.places) e ∙ place ∙ ap (λ (x : Option Action). Some x) (sym stays) ∙ sym (ap (λ b. cond b (Some kept) (get log.places i)) (same_is i p e)))
    (λ (apart : i ≢ p). sym (ap (λ b. cond b (Some kept) (get log.places i)) (same_apart i p apart)))
    (cases_eq i p)) in
    ap (λ (m : Places). record log { places = m }) alike

-- the log is the same but for one position
pub learned_one : (front after : List Action) (reserved now : Bool) (old new : Ahead) (taken : ℕ) (log : Contents) (p : ℕ) (v : Action) → seen front reserved old taken ≡ log
    → action_at log p ≡ None → take taken after ≡ take taken front
    → ((i : ℕ) → place_of after now new i ≡ cond (same i p) (Some (Some v)) (place_of front reserved old i))
    → seen after now new taken ≡ with_action log p v
learned_one front after reserved now old new taken log p v view none same_taken here =
    let made : places_of after now new ≡ insert (places_of front reserved old) p (Some v) =
    inserted (places_of front reserved old) (places_of after now new) p (Some v)
    (λ i. shown after now new i ∙ here i ∙ ap (λ x. cond (same i p) (Some (Some v)) x) (sym (shown front reserved old i))) in
    let first : v ≡ unwrap_or (action_at log p) v = sym (ap (λ x. unwrap_or x v) none) in
    ap₂ (λ (m : Places) (t : List Action). record { places = m; taken = t }) made same_taken
    ∙ ap (λ (l : Contents). record l { places = insert l.places p (Some v) }) view
    ∙ ap (λ (a : Action). record log { places = insert log.places p (Some a) }) first

-- ---- the greatest position

module _ (old new : ℕ → Option (Option Action)) (p top after : ℕ) (v : Action) (here : (i : ℕ) → new i ≡ cond (same i p) (Some (Some v)) (old i)) (top_is : after ≡ max top p) where
  learned_here : IsSome (learned_of (new p))
  learned_here = ap (λ x. is_some (learned_of x)) (here p ∙ ap (λ b. cond b (Some (Some v)) (old p)) (same_is p p refl))

  learned_there : (i : ℕ) → i ≢ p → new i ≡ old i
  learned_there i apart = here i ∙ ap (λ b. cond b (Some (Some v)) (old i)) (same_apart i p apart)

  pub greatest_learned : (0 < top → IsSome (learned_of (old top))) → 0 < after → IsSome (learned_of (new after))
  greatest_learned before positive = ⊎_elim
      (λ (e : after ≡ p). subst (λ (n : ℕ). IsSome (learned_of (new n))) (sym e) learned_here)
      (λ (apart : after ≢ p).
      let is : after ≡ top = ⊎_elim (λ (low : top < p). absurd (apart (omega (arith, low)))) (λ (high : p ≤ top). omega (arith, high)) (cases_lt top p) in
      let there : IsSome (learned_of (old top)) = before (omega (arith, is)) in
      let stays = learned_there top (λ e. apart (is ∙ e)) in
      subst (λ (n : ℕ). IsSome (learned_of (new n))) (sym is) (subst (λ (x : Option (Option Action)). IsSome (learned_of x)) (sym stays) there))
      (cases_eq after p)

  pub greatest_above : ((i : ℕ) → IsSome (learned_of (old i)) → i ≤ top) → (i : ℕ) → IsSome (learned_of (new i)) → i ≤ after
  greatest_above before i there = ⊎_elim
      (λ (e : i ≡ p). omega (arith, top_is, e))
      (λ (apart : i ≢ p).
      let low = before i (subst (λ (x : Option (Option Action)). IsSome (learned_of x)) (learned_there i apart) there) in
      omega (arith, top_is, low))
      (cases_eq i p)

-- ---- ahead of the front

pub fits_learned_ahead : (front : List Action) (reserved : Bool) (old new : Ahead) (capacity taken top after p : ℕ) (v : Action) → Fits front reserved old capacity taken top
    → length front + 1 < p → p ≤ 65535
    → ((i : ℕ) → place_ahead new i ≡ cond (same p i) (Some (Some v)) (place_ahead old i)) → length new ≡ length old
    → after ≡ max top p → Fits front reserved new capacity taken after
fits_learned_ahead front reserved old new capacity taken top after p v fits far bound written long top_is =
    let stays : place_ahead new (length front + 1) ≡ place_ahead old (length front + 1) =
    written (length front + 1) ∙ ap (λ b. cond b (Some (Some v)) (place_ahead old (length front + 1))) (same_apart p (length front + 1) (λ e. omega arith)) in
    let here = ahead_written front reserved old new p (Some v) far written in
    let few : reserved_count reserved new ≡ reserved_count reserved old = ap (λ (n : ℕ). n + (if reserved then 1 else 0)) long in
    record {
      bound = fits.bound;
      following = λ i there. ⊎_elim
          (λ (e : p ≡ i). (omega (arith, far, e), omega (arith, bound, e)))
          (λ (apart : p ≢ i).
          let same_place = written i ∙ ap (λ b. cond b (Some (Some v)) (place_ahead old i)) (same_apart p i apart) in
          fits.following i (subst (λ (x : Option (Option Action)). IsSome x) same_place there))
          (cases_eq p i);
      next_once = λ on. stays ∙ fits.next_once on;
      next_bound = fits.next_bound;
      gap = ap learned_of stays ∙ fits.gap;
      room = omega (arith, few, fits.room);
      taken_within = fits.taken_within;
      top_bound = omega (arith, top_is, fits.top_bound, bound);
      top_learned = greatest_learned (place_of front reserved old) (place_of front reserved new) p top after v here top_is fits.top_learned;
      none_above = greatest_above (place_of front reserved old) (place_of front reserved new) p top after v here top_is fits.none_above;
    }

-- ---- after the front

next_place_there : (reserved : Bool) (next : ℕ) (ahead : Ahead) (i : ℕ) → IsSome (option_or (place_ahead (next_place reserved next) i) (place_ahead ahead i)) → (reserved ≡ true) ⊎ IsSome (place_ahead ahead i)
next_place_there true next ahead i there = inl refl
next_place_there false next ahead i there = inr there

-- the front has room for one action more
pub room_to_put : (front : List Action) (reserved : Bool) (old : Ahead) (capacity taken top fewer : ℕ) → Fits front reserved old capacity taken top
    → IsSome (place_of front reserved old (length front + 1))
    → fewer + (if is_some (place_ahead old (length front + 1)) then 1 else 0) ≡ length old
    → length front + 1 + fewer ≤ capacity
room_to_put front reserved old capacity taken top fewer fits there removed =
    let past = front_past front (length front + 1) (omega arith) in
    let following = subst (λ (x : Option (Option Action)). IsSome (option_or x (option_or (place_ahead (next_place reserved (length front + 1)) (length front + 1)) (place_ahead old (length front + 1))))) past there in
    ⊎_elim
    (λ (on : reserved ≡ true).
    let none = fits.next_once on in
    let all : fewer + 0 ≡ length old = sym (ap (λ x. fewer + (if is_some x then 1 else 0)) none) ∙ removed in
    let one : reserved_count reserved old ≡ length old + 1 = ap (λ b. reserved_count b old) on in
    omega (arith, all, one, fits.room))
    (λ (ahead : IsSome (place_ahead old (length front + 1))).
    let one : fewer + 1 ≡ length old = sym (ap (λ b. fewer + (if b then 1 else 0)) ahead) ∙ removed in
    let least : length old ≤ reserved_count reserved old = omega arith in
    omega (arith, one, least, fits.room))
    (next_place_there reserved (length front + 1) old (length front + 1) following)

-- where there is room after the position after the front, a place is ahead
pub ahead_there : (front : List Action) (reserved : Bool) (old : Ahead) (taken : ℕ) (log : Contents) (p : ℕ) → seen front reserved old taken ≡ log
    → IsSome (get log.places p) → length front + 1 < p → IsSome (place_ahead old p)
ahead_there front reserved old taken log p view room far =
    let is : get log.places p ≡ place_ahead old p =
    ap (λ (l : Contents). get l.places p) (sym view) ∙ shown front reserved old p
    ∙ ap₂ option_or (front_past front p (omega arith)) (ap (λ x. option_or x (place_ahead old p)) (next_none front reserved old taken p (λ e. omega arith))) in
    subst (λ (x : Option (Option Action)). IsSome x) is room

pub place_there : (front : List Action) (reserved : Bool) (old : Ahead) (taken : ℕ) (log : Contents) (p : ℕ) → seen front reserved old taken ≡ log
    → IsSome (get log.places p) → IsSome (place_of front reserved old p)
place_there front reserved old taken log p view room =
    subst (λ (x : Option (Option Action)). IsSome x) (ap (λ (l : Contents). get l.places p) (sym view) ∙ shown front reserved old p) room

-- an unlearned position lies after the front
pub unlearned_past : (front : List Action) (reserved : Bool) (old : Ahead) (taken : ℕ) (log : Contents) (p : ℕ) → seen front reserved old taken ≡ log
    → 1 ≤ p → action_at log p ≡ None → length front < p
unlearned_past front reserved old taken log p view low none = ⊎_elim
    (λ (past : length front < p). past)
    (λ (within : p ≤ length front).
    let there = learned_below front reserved old taken p low (omega (arith, within)) in
    let gone : action_at (seen front reserved old taken) p ≡ None = ap (λ (l : Contents). action_at l p) view ∙ none in
    absurd cc)
    (cases_lt (length front) p)

-- and where none is between, it is the one after the front
pub unlearned_next : (front : List Action) (reserved : Bool) (old : Ahead) (taken : ℕ) (log : Contents) (p : ℕ) → seen front reserved old taken ≡ log
    → 1 ≤ p → action_at log p ≡ None → p ≤ length front + 1 → p ≡ length front + 1
unlearned_next front reserved old taken log p view low none near =
    let past = unlearned_past front reserved old taken log p view low none in
    omega (arith, past, near)

never : ◌≡◌ {A = Bool} false true → ⊥
never e = absurd cc

pub fits_put : (front last : List Action) (reserved : Bool) (old rest : Ahead) (capacity room taken top after p : ℕ) (v : Action)
    → Fits front reserved old capacity taken top → p ≡ length front + 1 → p ≤ 65535
    → ((i : ℕ) → place_of last false rest i ≡ cond (same i p) (Some (Some v)) (place_of front reserved old i))
    → length front ≤ length last → length last ≤ 65535 → IsAhead (length last) rest → action_ahead rest (length last + 1) ≡ None
    → length last + length rest ≤ room → after ≡ max top p → Fits last false rest room taken after
fits_put front last reserved old rest capacity room taken top after p v fits next low here longer bound following gap enough top_is = record {
  bound = bound;
  following = following;
  next_once = λ on. absurd (never on);
  next_bound = λ on. absurd (never on);
  gap = gap;
  room = omega (arith, enough);
  taken_within = omega (arith, fits.taken_within, longer);
  top_bound = omega (arith, top_is, fits.top_bound, low);
  top_learned = greatest_learned (place_of front reserved old) (place_of last false rest) p top after v here top_is fits.top_learned;
  none_above = greatest_above (place_of front reserved old) (place_of last false rest) p top after v here top_is fits.none_above;
}

pub taken_same : (taken : ℕ) (front more : List Action) → taken ≤ length front → take taken (front ++ more) ≡ take taken front
taken_same taken front more within = take-append-le taken front more within
