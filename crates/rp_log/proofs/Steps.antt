-- What a step leaves of how a log is kept.
use Rattle.std.proofs.Common.{◌≡◌, ◌≢◌, ℕ, ◌+◌, ◌<◌, ◌≤◌, Bool, true, false, cond, Option, Some, None, List, [], take, length, IsSome, refl, sym, ap, ap₂, subst, ◌∙◌, arith}
use Rattle.std.specs.Prelude.{is_some, if◌then◌else◌}
use Rattle.std.specs.Option.{option_or}
use Rattle.std.specs.FinMap.{get, insert, get-insert}
use Rattle.std.proofs.lemmas.Cmp.{nat_cmp_total}
use Rattle.std.proofs.lemmas.Bool.{cases_eq, cases_lt}
use Rattle.std.proofs.Math.Logic.{⊎_elim}
use Rattle.rp_base.specs.declared.action.Action.{Action}
use Rattle.rp_log.specs.Contents.{Contents, Places, IsReservedAt, with_room}
use Rattle.rp_log.specs.Holding.{Ahead, place_ahead, next_place, places_of, front_place, place_of, IsAhead, reserved_count, Fits}
use Rattle.rp_log.proofs.Places.{same, same_is, same_apart, shown, inserted, front_past, next_reserved, ahead_written}
use Rattle.rp_log.proofs.Views.{seen, learned_of, next_none, room_front}

-- ---- room

pub has_room : (front : List Action) (reserved : Bool) (ahead : Ahead) (taken : ℕ) (log : Contents) (i : ℕ) → seen front reserved ahead taken ≡ log
    → IsSome (get (places_of front reserved ahead) i) → true ≡ is_some (get log.places i)
has_room front reserved ahead taken log i view there = sym there ∙ ap (λ (l : Contents). is_some (get l.places i)) view

next_off : (front : List Action) (reserved : Bool) (i : ℕ) → (i ≡ length front + 1 → reserved ≡ false) → place_ahead (next_place reserved (length front + 1)) i ≡ None
next_off front reserved i off = ⊎_elim
    (λ (e : i ≡ length front + 1). ap (λ b. place_ahead (next_place b (length front + 1)) i) (off e))
    (λ (apart : i ≢ length front + 1). next_none front reserved [] 0 i apart)
    (cases_eq i (length front + 1))

pub room_after : (front : List Action) (reserved : Bool) (ahead : Ahead) (taken : ℕ) (log : Contents) (i : ℕ) → seen front reserved ahead taken ≡ log
    → length front < i → (i ≡ length front + 1 → reserved ≡ false) → is_some (place_ahead ahead i) ≡ is_some (get log.places i)
room_after front reserved ahead taken log i view past off =
    sym (ap is_some (shown front reserved ahead i ∙ ap₂ option_or (front_past front i past) (ap (λ p. option_or p (place_ahead ahead i)) (next_off front reserved i off))))
    ∙ ap (λ (l : Contents). is_some (get l.places i)) view

pub next_has_room : (front : List Action) (ahead : Ahead) → IsSome (get (places_of front true ahead) (length front + 1))
next_has_room front ahead =
    let here : get (places_of front true ahead) (length front + 1) ≡ Some None =
    shown front true ahead (length front + 1)
    ∙ next_reserved front ahead (length front + 1)
    ∙ ap (λ b. cond b (Some None) (place_of front false ahead (length front + 1))) (same_is (length front + 1) (length front + 1) refl) in
    ap is_some here

none_of : (place : Option (Option Action)) → is_some place ≡ false → place ≡ None
none_of None e = refl
none_of (Some x) e = absurd cc

some_none : ◌≡◌ {A = Option (Option Action)} (Some None) None → ⊥
some_none e = absurd cc

none_left : (x y : Option (Option Action)) → option_or x y ≡ None → x ≡ None
none_left None y e = refl
none_left (Some a) y e = absurd cc

none_right : (x y : Option (Option Action)) → option_or x y ≡ None → y ≡ None
none_right None y e = e
none_right (Some a) y e = absurd cc

next_is_off : (reserved : Bool) (next i : ℕ) → i ≡ next → place_ahead (next_place reserved next) i ≡ None → reserved ≡ false
next_is_off false next i e none = refl
next_is_off true next i e none =
    let there : Some None ≡ None = sym (ap (λ b. cond b (Some None) None) (same_is i next e)) ∙ none in
    absurd (some_none there)

-- what holds at a position that is not reserved
pub record IsFree (front : List Action) (reserved : Bool) (ahead : Ahead) (i : ℕ) : Type 0 where
  pub past : length front < i
  pub none : place_ahead ahead i ≡ None
  pub next : i ≡ length front + 1 → reserved ≡ false

pub is_free : (front : List Action) (reserved : Bool) (ahead : Ahead) (taken : ℕ) (log : Contents) (i : ℕ) → seen front reserved ahead taken ≡ log
    → 1 ≤ i → false ≡ is_some (get log.places i) → IsFree front reserved ahead i
is_free front reserved ahead taken log i view low none =
    let free : place_of front reserved ahead i ≡ None =
    none_of (place_of front reserved ahead i) (ap is_some (sym (shown front reserved ahead i)) ∙ ap (λ (l : Contents). is_some (get l.places i)) view ∙ sym none) in
    let rest = none_right (front_place front i) _ free in
    record {
      past = ⊎_elim
          (λ (past : length front < i). past)
          (λ (within : i ≤ length front).
          let there : IsSome (get (places_of front reserved ahead) i) = room_front front reserved ahead taken i low within in
          let gone = shown front reserved ahead i ∙ free in
          absurd cc)
          (cases_lt (length front) i);
      none = none_right (place_ahead (next_place reserved (length front + 1)) i) (place_ahead ahead i) rest;
      next = λ e.
          let off = none_left (place_ahead (next_place reserved (length front + 1)) i) (place_ahead ahead i) rest in
          next_is_off reserved (length front + 1) i e off;
    }

-- ---- what is learned stays

-- the position after the front is reserved
pub fits_next : (front : List Action) (ahead : Ahead) (capacity room taken top : ℕ) → Fits front false ahead capacity taken top
    → place_ahead ahead (length front + 1) ≡ None → length front < 65535 → length front + (length ahead + 2) ≤ room → Fits front true ahead room taken top
fits_next front ahead capacity room taken top fits none below enough =
    let alike : (i : ℕ) → learned_of (place_of front true ahead i) ≡ learned_of (place_of front false ahead i) = λ i. ap learned_of (next_reserved front ahead i) ∙ ⊎_elim
    (λ (e : i ≡ length front + 1).
    let there : place_of front false ahead i ≡ None = ap₂ option_or (front_past front i (omega arith)) (ap (place_ahead ahead) e ∙ none) in
    ap (λ b. learned_of (cond b (Some None) (place_of front false ahead i))) (same_is i (length front + 1) e) ∙ sym (ap learned_of there))
    (λ (apart : i ≢ length front + 1). ap (λ b. learned_of (cond b (Some None) (place_of front false ahead i))) (same_apart i (length front + 1) apart))
    (cases_eq i (length front + 1)) in
    record {
      bound = fits.bound;
      following = fits.following;
      next_once = λ _. none;
      next_bound = λ _. below;
      gap = fits.gap;
      room = omega (arith, enough);
      taken_within = fits.taken_within;
      top_bound = fits.top_bound;
      top_learned = λ positive. subst (λ (a : Option Action). IsSome a) (sym (alike top)) (fits.top_learned positive);
      none_above = λ i there. fits.none_above i (subst (λ (a : Option Action). IsSome a) (alike i) there);
    }

-- a place ahead is written
written_ahead : (front : ℕ) (old new : Ahead) (p : ℕ) (place : Option Action) → IsAhead front old → front + 1 < p → p ≤ 65535
    → ((i : ℕ) → place_ahead new i ≡ cond (same p i) (Some place) (place_ahead old i)) → IsAhead front new
written_ahead front old new p place ahead far bound written i there = ⊎_elim
    (λ (e : p ≡ i). (omega arith, omega (arith, bound)))
    (λ (apart : p ≢ i).
    let stays = written i ∙ ap (λ b. cond b (Some place) (place_ahead old i)) (same_apart p i apart) in
    ahead i (subst (λ (x : Option (Option Action)). IsSome x) stays there))
    (cases_eq p i)

stays_next : (front : ℕ) (old new : Ahead) (p : ℕ) (place : Option Action) → front + 1 < p
    → ((i : ℕ) → place_ahead new i ≡ cond (same p i) (Some place) (place_ahead old i)) → place_ahead new (front + 1) ≡ place_ahead old (front + 1)
stays_next front old new p place far written =
    written (front + 1) ∙ ap (λ b. cond b (Some place) (place_ahead old (front + 1))) (same_apart p (front + 1) (λ e. omega arith))

pub fits_ahead : (front : List Action) (reserved : Bool) (old new : Ahead) (capacity room taken top p : ℕ) → Fits front reserved old capacity taken top
    → length front + 1 < p → p ≤ 65535 → place_ahead old p ≡ None
    → ((i : ℕ) → place_ahead new i ≡ cond (same p i) (Some None) (place_ahead old i)) → length new ≡ length old + 1
    → length front + (length old + 2) ≤ room → Fits front reserved new room taken top
fits_ahead front reserved old new capacity room taken top p fits far bound none written longer enough =
    let stays = stays_next (length front) old new p None far written in
    let alike : (i : ℕ) → learned_of (place_of front reserved new i) ≡ learned_of (place_of front reserved old i) = λ i. ap learned_of (ahead_written front reserved old new p None far written i) ∙ ⊎_elim
    (λ (e : i ≡ p).
    let there : place_of front reserved old i ≡ None =
    ap₂ option_or (front_past front i (omega arith)) (ap₂ option_or (next_none front reserved old taken i (λ f. omega arith)) (ap (place_ahead old) e ∙ none)) in
    ap (λ b. learned_of (cond b (Some None) (place_of front reserved old i))) (same_is i p e) ∙ sym (ap learned_of there))
    (λ (apart : i ≢ p). ap (λ b. learned_of (cond b (Some None) (place_of front reserved old i))) (same_apart i p apart))
    (cases_eq i p) in
    let few : reserved_count reserved new ≤ length old + 2 = elim reserved as (λ b. reserved_count b new ≤ length old + 2) [ true ↦ omega (arith, longer) | false ↦ omega (arith, longer) ] in
    record {
      bound = fits.bound;
      following = written_ahead (length front) old new p None fits.following far bound written;
      next_once = λ on. stays ∙ fits.next_once on;
      next_bound = fits.next_bound;
      gap = ap learned_of stays ∙ fits.gap;
      room = omega (arith, few, enough);
      taken_within = fits.taken_within;
      top_bound = fits.top_bound;
      top_learned = λ positive. subst (λ (a : Option Action). IsSome a) (sym (alike top)) (fits.top_learned positive);
      none_above = λ i there. fits.none_above i (subst (λ (a : Option Action). IsSome a) (alike i) there);
    }

-- the log is the same but for one position
pub reserved_one : (front : List Action) (reserved after : Bool) (old new : Ahead) (taken : ℕ) (log : Contents) (p : ℕ) → seen front reserved old taken ≡ log
    → false ≡ is_some (get log.places p)
    → ((i : ℕ) → place_of front after new i ≡ cond (same i p) (Some None) (place_of front reserved old i))
    → seen front after new taken ≡ with_room log p
reserved_one front reserved after old new taken log p view none here =
    let made : places_of front after new ≡ insert (places_of front reserved old) p None =
    inserted (places_of front reserved old) (places_of front after new) p None
    (λ i. shown front after new i ∙ here i ∙ ap (λ x. cond (same i p) (Some None) x) (sym (shown front reserved old i))) in
    let room : with_room log p ≡ record log { places = insert log.places p None } = ap (λ b. if b then log else record log { places = insert log.places p None }) (sym none) in
    ap (λ (m : Places). record { places = m; taken = take taken front }) made ∙ ap (λ (l : Contents). record l { places = insert l.places p None }) view ∙ sym room

room_in : (log : Contents) (p : ℕ) (b : Bool) → is_some (get log.places p) ≡ b → IsReservedAt (cond b log (record log { places = insert log.places p None })) p
room_in log p true there = there
room_in log p false none =
    let here : get (insert log.places p None) p ≡ Some None =
    get-insert nat_cmp_total log.places p None p ∙ ap (λ b. cond b (Some None) (get log.places p)) (same_is p p refl) in
    ap is_some here

-- what is reserved has room
pub has_room_after : (log new : Contents) (p : ℕ) → new ≡ with_room log p → IsReservedAt new p
has_room_after log new p is = subst (λ (l : Contents). IsReservedAt l p) (sym is) (room_in log p (is_some (get log.places p)) refl)

-- ---- a reservation

module _ (front : List Action) (reserved : Bool) (old : Ahead) (capacity room taken top : ℕ) (log : Contents) (p : ℕ) (fits : Fits front reserved old capacity taken top)
    (view : seen front reserved old taken ≡ log) (low : 1 ≤ p) (high : p ≤ 65535) (none : false ≡ is_some (get log.places p)) (enough : length front + (length old + 2) ≤ room) where
  free : IsFree front reserved old p
  free = is_free front reserved old taken log p view low none

  -- the position after the front is reserved
  pub reserves_next : p ≡ length front + 1 → Fits front true old room taken top × (seen front true old taken ≡ with_room log p)
  reserves_next next =
      let here : (i : ℕ) → place_of front true old i ≡ cond (same i p) (Some None) (place_of front reserved old i) =
      λ i. next_reserved front old i ∙ ap (λ n. cond (same i n) (Some None) (place_of front false old i)) (sym next)
      ∙ ap (λ b. cond (same i p) (Some None) (place_of front b old i)) (sym (free.next next)) in (
        fits_next front old capacity room taken top (subst (λ b. Fits front b old capacity taken top) (free.next next) fits)
            (ap (place_ahead old) (sym next) ∙ free.none) (omega (arith, next, high)) enough,
        reserved_one front reserved true old old taken log p view none here,
      )

  -- a position ahead is reserved
  pub reserves_ahead : (new : Ahead) → p ≢ length front + 1 → ((i : ℕ) → place_ahead new i ≡ cond (same p i) (Some None) (place_ahead old i)) → length new ≡ length old + 1
      → Fits front reserved new room taken top × (seen front reserved new taken ≡ with_room log p)
  reserves_ahead new apart written longer =
      let far : length front + 1 < p = ⊎_elim
      (λ (past : length front + 1 < p). past)
      (λ (within : p ≤ length front + 1). absurd (apart (omega (arith, within, free.past))))
      (cases_lt (length front + 1) p) in (
        fits_ahead front reserved old new capacity room taken top p fits far high free.none written longer enough,
        reserved_one front reserved reserved old new taken log p view none (ahead_written front reserved old new p None far written),
      )
