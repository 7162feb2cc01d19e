-- Orders that lead to one state.
use Rattle.std.proofs.Common.{◌≡◌, ◌↔◌, ℕ, ◌<◌, ◌≤◌, Bool, true, false, ◌&&◌, List, [], ◌∷◌, ◌++◌, length, get_or, Option, Some, None, MatchOption, if◌then◌else◌, inl, inr, sym, ◌∙◌, ap, subst, refl, arith, length-append}
use Rattle.std.proofs.lemmas.List.{get_or_append_left}
use Rattle.rp_base.specs.declared.action.Action.{Action}
use Rattle.rp_base.specs.declared.reply.Answer.{Answer}
use Rattle.rp_machine.specs.Replay.{Replayed, counts, unmoved, replay_step, replay_of, answers_after}
use Rattle.rp_machine.specs.Numbered.{Applied, outcome}
use Rattle.rp_orders.specs.Guards.{is_allowed}
use Rattle.rp_machine.proofs.Replaying.{replay_from-append}
use Rattle.rp_orders.specs.Orders.{AreAlike, LeadAlike}
use Rattle.rp_orders.specs.declared.guard.Guard.{Guard}
use Rattle.rp_base.specs.declared.action.Action.TheVariants.{Noop}
use Rattle.rp_explore.specs.Listed.{order_at, further, AreDistinct}
use Rattle.rp_explore.specs.Searched.{Searched, Grows, IsAt, IsMissing, MayFollowAt, given_next}
use Rattle.rp_explore.proofs.Lists.{has_at}

pub alike_self : {S : Type 0} (guards : List Guard) (r : Replayed S) → AreAlike guards r r
alike_self guards r = record { state = refl; calls = λ task is. refl; occurrences = λ source is. refl; allowed = λ task is. refl }

pub alike_flip : {S : Type 0} (guards : List Guard) (r s : Replayed S) → AreAlike guards r s → AreAlike guards s r
alike_flip guards r s one = record {
  state = sym one.state;
  calls = λ task is. sym (one.calls task is);
  occurrences = λ source is. sym (one.occurrences source is);
  allowed = λ task is. sym (one.allowed task is);
}

pub alike_join : {S : Type 0} (guards : List Guard) (r s t : Replayed S) → AreAlike guards r s → AreAlike guards s t → AreAlike guards r t
alike_join guards r s t one other = record {
  state = one.state ∙ other.state;
  calls = λ task is. one.calls task is ∙ other.calls task is;
  occurrences = λ source is. one.occurrences source is ∙ other.occurrences source is;
  allowed = λ task is. one.allowed task is ∙ other.allowed task is;
}

-- the orders that were there stay at their places
pub place_stays : {S : Type 0} (old new : Searched S) (order : List Action) (place : ℕ) → Grows old new order → place < length old.listed.orders → order_at new.listed.orders place ≡ order_at old.listed.orders place
place_stays old new order place grows lt = elim grows.orders [
  | inl same ↦ ap (λ (os : List (List Action)). order_at os place) same
  | inr more ↦ ap (λ (os : List (List Action)). order_at os place) more.1 ∙ get_or_append_left old.listed.orders (order ∷ []) [] place lt
]

pub length_grows : {S : Type 0} (old new : Searched S) (order : List Action) → Grows old new order → length old.listed.orders ≤ length new.listed.orders
length_grows old new order grows = elim grows.orders [
  | inl same ↦ omega (arith, ap length same)
  | inr more ↦ omega (arith, ap length more.1, length-append old.listed.orders (order ∷ []))
]

module _ {S : Type 0} (next : S → Action → S) (answers : S → Action → List Answer) where
  pub pushed : (begin : S) (order : List Action) (action : Action) → replay_of next answers begin (order ++ action ∷ []) ≡ replay_step next answers (replay_of next answers begin order) action
  pushed begin order action = replay_from-append next answers (unmoved begin) order (action ∷ [])

  step_not : (r : Replayed S) (action : Action) → counts r.kept r.given action ≡ false → replay_step next answers r action ≡ r
  step_not r action e = ap (λ (b : Bool). if b then record { state = next r.state action; kept = r.kept ++ action ∷ []; given = r.given ++ answers r.state action } else r) e

  -- an action that does not count changes nothing
  pub not_counting : (begin : S) (guards : List Guard) (order : List Action) (action : Action)
      → counts (replay_of next answers begin order).kept (replay_of next answers begin order).given action ≡ false → LeadAlike next answers begin guards (order ++ action ∷ []) order
  not_counting begin guards order action e =
      subst (λ (r : Replayed S). AreAlike guards r (replay_of next answers begin order)) (sym (pushed begin order action ∙ step_not (replay_of next answers begin order) action e))
      (alike_self guards (replay_of next answers begin order))

  -- what is said of the order at a place is said of the machine after it
  abbrev pub at_place : Searched S → ℕ → Applied S
  at_place s place = record { begin = s.begin; actions = order_at s.listed.orders place }

  pub is_at_place : (s : Searched S) (applied : Applied S) (place : ℕ) → applied.begin ≡ s.begin → applied.actions ≡ order_at s.listed.orders place → applied ≡ at_place s place
  is_at_place s applied place starts acts = λ i. record { begin = starts i; actions = acts i }

  -- whether an action is taken
  abbrev pub taken : List Guard → Applied S → Action → Bool
  taken guards applied action =
      let r = outcome next answers applied in
      is_allowed guards r.kept r.given action && counts r.kept r.given action

  taken_parts : (a b : Bool) → (a && b) ≡ true → (a ≡ true) × (b ≡ true)
  taken_parts true true e = (refl, refl)
  taken_parts true false e = let met : false ≡ true = e in absurd (cc)
  taken_parts false b e = let met : false ≡ true = e in absurd (cc)

  not_parts : (a b : Bool) → (a && b) ≡ false → a ≡ true → b ≡ false
  not_parts true b e is = e
  not_parts false b e is = let met : false ≡ true = is in absurd (cc)

  -- one that is taken may follow
  pub taken_follows : (s : Searched S) (applied : Applied S) (place index : ℕ) (action : Action) → applied ≡ at_place s place → action ≡ get_or s.listed.may index Noop → taken s.guards applied action ≡ true
      → MayFollowAt next answers s place index
  taken_follows s applied place index action same is sure =
      let r = outcome next answers applied in
      let allowed = (taken_parts (is_allowed s.guards r.kept r.given action) (counts r.kept r.given action) sure).0 in
      subst (λ (a : Action). is_allowed s.guards (outcome next answers (at_place s place)).kept (outcome next answers (at_place s place)).given a ≡ true) is
      (subst (λ (p : Applied S). is_allowed s.guards (outcome next answers p).kept (outcome next answers p).given action ≡ true) same allowed)

  -- one that is not, and may follow, changes nothing
  pub not_taken : (s : Searched S) (applied : Applied S) (place index : ℕ) (action : Action) → applied ≡ at_place s place → action ≡ get_or s.listed.may index Noop → taken s.guards applied action ≡ false
      → MayFollowAt next answers s place index → LeadAlike next answers s.begin s.guards (further s.listed place index) (order_at s.listed.orders place)
  not_taken s applied place index action same is none may_be =
      let r = replay_of next answers s.begin (order_at s.listed.orders place) in
      let there : taken s.guards (at_place s place) (get_or s.listed.may index Noop) ≡ false =
      subst (λ (a : Action). taken s.guards (at_place s place) a ≡ false) is (subst (λ (p : Applied S). taken s.guards p action ≡ false) same none) in
      not_counting s.begin s.guards (order_at s.listed.orders place) (get_or s.listed.may index Noop)
      (not_parts (is_allowed s.guards r.kept r.given (get_or s.listed.may index Noop)) (counts r.kept r.given (get_or s.listed.may index Noop)) there may_be)

  -- and gives nothing
  pub none_given : (guards : List Guard) (applied : Applied S) (action : Action) → taken guards applied action ≡ false → [] ≡ given_next next answers guards (outcome next answers applied) action
  none_given guards applied action none =
      let r = outcome next answers applied in
      by (is_allowed guards r.kept r.given action) (counts r.kept r.given action) (answers r.state action) none
    where
      by : (a b : Bool) (xs : List Answer) → (a && b) ≡ false → [] ≡ (if a then (if b then xs else []) else [])
      by true true xs e = let met : true ≡ false = e in absurd (cc)
      by true false xs e = refl
      by false b xs e = refl

  -- one that is taken gives what it gives
  pub all_given : (guards : List Guard) (applied : Applied S) (action : Action) → taken guards applied action ≡ true → answers_after next answers (outcome next answers applied) action ≡ given_next next answers guards (outcome next answers applied) action
  all_given guards applied action sure =
      let r = outcome next answers applied in
      let allowed = (taken_parts (is_allowed guards r.kept r.given action) (counts r.kept r.given action) sure).0 in
      sym (ap (λ (b : Bool). if b then answers_after next answers r action else []) allowed)

  -- an order leads to the state of its own place where it leads nowhere else
  pub stays : (old new : Searched S) (order : List Action) (place : ℕ) (at : Option ℕ) → place < length old.listed.orders → Grows old new order
      → MatchOption at (IsMissing next answers new order) (IsAt next answers new order) → AreDistinct next answers new.begin new.guards new.listed.orders
      → (at ≡ Some place) ↔ LeadAlike next answers old.begin old.guards order (order_at old.listed.orders place)
  stays old new order place at lt grows there distinct = (λ e. forth (subst (λ (o : Option ℕ). MatchOption o (IsMissing next answers new order) (IsAt next answers new order)) e there), λ alike. back at there (onward alike))
    where
      here : place < length new.listed.orders
      here = omega (arith, length_grows old new order grows, lt)

      onward : LeadAlike next answers old.begin old.guards order (order_at old.listed.orders place) → LeadAlike next answers new.begin new.guards order (order_at new.listed.orders place)
      onward alike = subst (λ (b : S). LeadAlike next answers b new.guards order (order_at new.listed.orders place)) (sym grows.begin) (subst (λ (gs : List Guard). LeadAlike next answers old.begin gs order (order_at new.listed.orders place)) (sym grows.guards) (subst (λ (o : List Action). LeadAlike next answers old.begin old.guards order o) (sym (place_stays old new order place grows lt)) alike))

      forth : IsAt next answers new order place → LeadAlike next answers old.begin old.guards order (order_at old.listed.orders place)
      forth is = subst (λ (o : List Action). LeadAlike next answers old.begin old.guards order o) (place_stays old new order place grows lt) (subst (λ (gs : List Guard). LeadAlike next answers old.begin gs order (order_at new.listed.orders place)) grows.guards (subst (λ (b : S). LeadAlike next answers b new.guards order (order_at new.listed.orders place)) grows.begin is.alike))

      back : (o : Option ℕ) → MatchOption o (IsMissing next answers new order) (IsAt next answers new order) → LeadAlike next answers new.begin new.guards order (order_at new.listed.orders place) → o ≡ Some place
      back None missing alike = absurd (missing.missing (order_at new.listed.orders place, has_at new.listed.orders place [] here, alike))
      back (Some k) is alike =
          let whole : List Action → Replayed S = replay_of next answers new.begin in
          ap Some (distinct k place is.within here
          (alike_join new.guards (whole (order_at new.listed.orders k)) (whole order) (whole (order_at new.listed.orders place)) (alike_flip new.guards (whole order) (whole (order_at new.listed.orders k)) is.alike) alike))
