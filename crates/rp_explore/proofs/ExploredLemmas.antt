-- What a search has found once each order was visited.
use Rattle.std.proofs.Common.{◌≡◌, ◌↔◌, ℕ, ◌-◌, ◌<◌, ◌≤◌, ◌⊎◌, Bool, true, false, IsTrue, List, [], ◌∷◌, ◌++◌, length, get_or, Option, Some, None, MatchOption, MatchBool, inl, inr, ap, ◌∙◌, sym, subst, refl, arith}
use Rattle.std.proofs.lemmas.List.{take_all}
use Rattle.rp_base.specs.Sets.{Has}
use Rattle.rp_base.specs.Number.{IsTask}
use Rattle.rp_base.specs.declared.action.Action.{Action}
use Rattle.rp_base.specs.declared.action.Action.TheVariants.{Noop}
use Rattle.rp_base.specs.declared.reply.Answer.{Answer}
use Rattle.rp_machine.specs.Replay.{Replayed, replay_of, answers_after}
use Rattle.rp_orders.specs.Orders.{IsReached, IsGiven, IsStuck, IsFinal, LeadAlike, MayFollow, AreClosed}
use Rattle.rp_orders.specs.declared.guard.Guard.{Guard}
use Rattle.rp_explore.specs.declared.giver.Giver.{Giver}
use Rattle.rp_explore.specs.Listed.{order_at, AreOrdersOf, AreGuarded, AreDistinct}
use Rattle.rp_explore.specs.Searched.{Searched, Found, MayFollowAt, GivesAtAction, IsEarlier, AllReached, WaitsFirst, LeadsBeyond, AreFindings}
use Rattle.rp_explore.specs.Explored.{greatest_length, IsNeverStuck, IsFirstStuck, GivesAt, IsFirstGiver}
use Rattle.rp_explore.proofs.Lists.{has_at, place_in}
use Rattle.rp_explore.proofs.SearchLemmas.{alike_flip, alike_join}
use Rattle.rp_explore.proofs.GivenLemmas.{gives_parts}
use Rattle.rp_explore.proofs.FindingsLemmas.{final_quiet, quiet_final}

-- one of the orders leads to the same state and is no longer, or none of them is longer
abbrev pub NearTo : {S : Type 0} → (S → Action → S) → (S → Action → List Answer) → S → List Guard → List (List Action) → List Action → Type 0
NearTo next answers begin guards orders order =
    ((other : List Action) × Has other orders × LeadAlike next answers begin guards order other × (length other ≤ length order))
    ⊎ ((other : List Action) → Has other orders → length other ≤ length order)

-- so none is longer than an order that leads to the same state, where no two of them lead to one
pub shortest : {S : Type 0} (next : S → Action → S) (answers : S → Action → List Answer) (begin : S) (guards : List Guard) (orders : List (List Action)) (place : ℕ) (order : List Action) → place < length orders
    → AreDistinct next answers begin guards orders → LeadAlike next answers begin guards order (order_at orders place) → NearTo next answers begin guards orders order → length (order_at orders place) ≤ length order
shortest next answers begin guards orders place order lt distinct alike (inr none) = none (order_at orders place) (has_at orders place [] lt)
shortest {S} next answers begin guards orders place order lt distinct alike (inl soon) =
    let whole : List Action → Replayed S = replay_of next answers begin in
    let q = place_in orders soon.0 [] soon.1 in
    let other : LeadAlike next answers begin guards order (order_at orders q.0) = subst (λ (o : List Action). LeadAlike next answers begin guards order o) (sym q.2) soon.2 in
    let same : q.0 ≡ place = distinct q.0 place q.1 lt
    (alike_join guards (whole (order_at orders q.0)) (whole order) (whole (order_at orders place)) (alike_flip guards (whole order) (whole (order_at orders q.0)) other) alike) in
    subst (λ (k : ℕ). length (order_at orders k) ≤ length order) same (subst (λ (o : List Action). length o ≤ length order) (sym q.2) soon.3)

module _ {S : Type 0} (next : S → Action → S) (answers : S → Action → List Answer) (s : Searched S) where
  abbrev orders : List (List Action)
  orders = s.listed.orders

  abbrev may : List Action
  may = s.listed.may

  pub has_empty : 0 < length orders → order_at orders 0 ≡ [] → Has [] orders
  has_empty lt is = subst (λ (o : List Action). Has o orders) is (has_at orders 0 [] lt)

  reached_all : ((place : ℕ) → place < length orders → AllReached next answers s place (length may)) → (order : List Action) (action : Action) → Has order orders → Has action may
      → MayFollow next answers s.begin s.guards order action → IsReached next answers s.begin s.guards orders (order ++ action ∷ [])
  reached_all all order action ho ha may_be =
      let p = place_in orders order [] ho in
      let k = place_in may action Noop ha in
      let there : MayFollowAt next answers s p.0 k.0 =
      subst (λ (a : Action). MayFollow next answers s.begin s.guards (order_at orders p.0) a) (sym k.2) (subst (λ (o : List Action). MayFollow next answers s.begin s.guards o action) (sym p.2) may_be) in
      subst (λ (a : Action). IsReached next answers s.begin s.guards orders (order ++ a ∷ [])) k.2
      (subst (λ (o : List Action). IsReached next answers s.begin s.guards orders (o ++ get_or may k.0 Noop ∷ [])) p.2 (all p.0 p.1 k.0 k.1 there))

  not_closed : LeadsBeyond next answers s → ¬ AreClosed next answers s.begin s.guards may orders
  not_closed b closed =
      let m = b.missing in
      m.missing.missing (closed.goes_on (order_at orders b.place) (get_or may m.index Noop) (has_at orders b.place [] b.within) (has_at may m.index Noop m.within) m.may_follow)

  -- an order and an action that give an answer, by their places
  gives_at : (at index : ℕ) (answer : Answer) → at < length orders → index < length may → GivesAtAction next answers s at index answer → GivesAt next answers s.begin s.guards may orders at index answer
  gives_at at index answer lt below gives =
      let parts = (gives_parts next answers s at index answer).0 gives in
      record { within = lt; may_happen = below; may_follow = parts.0; gives = parts.1 }

  at_gives : (at index : ℕ) (answer : Answer) → GivesAt next answers s.begin s.guards may orders at index answer → GivesAtAction next answers s at index answer
  at_gives at index answer g = (gives_parts next answers s at index answer).1 (g.may_follow, g.gives)

  module _ (found : Found) (all_found : AreFindings next answers s (length orders) found) where
    abbrev Whole : Bool → Type 0
    Whole b = MatchBool b ((p : ℕ) → p < length orders → AllReached next answers s p (length may)) (LeadsBeyond next answers s)

    pub whole_closed : Has [] orders → AreOrdersOf s.listed → AreGuarded next answers s.begin s.guards orders → IsTrue found.is_whole ↔ AreClosed next answers s.begin s.guards may orders
    whole_closed starts among guarded = (
      λ yes. record { starts = starts; among = among; guarded = guarded; goes_on = reached_all (subst Whole yes all_found.whole) },
      λ closed. by found.is_whole refl all_found.whole closed,
    )
      where
        by : (b : Bool) → found.is_whole ≡ b → Whole b → AreClosed next answers s.begin s.guards may orders → found.is_whole ≡ true
        by true e all closed = e
        by false e beyond closed = absurd (not_closed beyond closed)

    pub full_if_not : length orders ≤ s.most → found.is_whole ≡ false → length orders ≡ s.most
    full_if_not room not = let b : LeadsBeyond next answers s = subst Whole not all_found.whole in omega (arith, room, b.missing.missing.full)

    -- what was tried before the end is an order and an action that are there
    tried_parts : (at index : ℕ) → IsEarlier s (length orders) 0 at index → (at < length orders) × (index < length may)
    tried_parts at index h = elim h [ inl before ↦ before | inr here ↦ absurd (omega (arith, here.1)) ]

    pub replies_given : (answer : Answer) → Has answer found.replies ↔ IsGiven next answers s.begin s.guards may orders answer
    replies_given answer = (
      λ h.
          let b = (all_found.given.replies answer).0 h in
          let at = tried_parts b.at b.index b.earlier in
          let g = gives_at b.at b.index answer at.0 at.1 b.gives in
          record {
            before = order_at orders b.at;
            action = get_or may b.index Noop;
            found_before = has_at orders b.at [] at.0;
            may_happen = has_at may b.index Noop at.1;
            may_follow = g.may_follow;
            gives = g.gives;
          },
      λ is.
          let p = place_in orders is.before [] is.found_before in
          let k = place_in may is.action Noop is.may_happen in
          let follows : MayFollowAt next answers s p.0 k.0 =
          subst (λ (a : Action). MayFollow next answers s.begin s.guards (order_at orders p.0) a) (sym k.2) (subst (λ (o : List Action). MayFollow next answers s.begin s.guards o is.action) (sym p.2) is.may_follow) in
          let there : Has answer (answers_after next answers (replay_of next answers s.begin (order_at orders p.0)) is.action) =
          subst (λ (o : List Action). Has answer (answers_after next answers (replay_of next answers s.begin o) is.action)) (sym p.2) is.gives in
          let gives : Has answer (answers_after next answers (replay_of next answers s.begin (order_at orders p.0)) (get_or may k.0 Noop)) =
          subst (λ (a : Action). Has answer (answers_after next answers (replay_of next answers s.begin (order_at orders p.0)) a)) (sym k.2) there in
          (all_found.given.replies answer).1 (record { at = p.0; index = k.0; earlier = inl (p.1, k.1); gives = (gives_parts next answers s p.0 k.0 answer).1 (follows, gives) }),
    )

    pub giver_found : (k : ℕ) (answer : Answer) (giver : Giver) → k < length found.replies → IsFirstGiver next answers s.begin s.guards may orders (get_or found.replies k answer) (get_or found.givers k giver)
    giver_found k answer giver lt =
        let own = get_or found.replies k answer in
        let by = get_or found.givers k giver in
        let f = all_found.given.first k answer giver lt in
        let at = tried_parts by.place by.action f.earlier in
        record {
          gives = gives_at by.place by.action own at.0 at.1 f.gives;
          first = λ p i before g. f.first (record {
            at = p;
            index = i;
            earlier = elim before [ inl less ↦ inl (less, g.may_happen) | inr same ↦ inr same ];
            gives = at_gives p i own g;
          });
        }

    pub marked_final : (place : ℕ) → place < length orders → IsTrue (get_or found.finals place false) ↔ IsFinal next answers s.begin s.guards may (order_at orders place)
    marked_final place lt =
        let is = all_found.finals.marked place lt in (
          λ yes. quiet_final next answers s place (is.0 yes),
          λ final. is.1 (final_quiet next answers s place final),
        )

    pub deepest : found.depth ≡ greatest_length orders
    deepest = all_found.depth ∙ ap greatest_length (take_all (length orders) orders (omega arith))

    -- an order that was found, and then an action, lead to the state of one that is no longer, or none is longer
    pub near_found : (order : List Action) (action : Action) → Has order orders → Has action may → MayFollow next answers s.begin s.guards order action → NearTo next answers s.begin s.guards orders (order ++ action ∷ [])
    near_found order action ho ha may_be =
        let p = place_in orders order [] ho in
        let k = place_in may action Noop ha in
        let there : MayFollowAt next answers s p.0 k.0 =
        subst (λ (a : Action). MayFollow next answers s.begin s.guards (order_at orders p.0) a) (sym k.2) (subst (λ (o : List Action). MayFollow next answers s.begin s.guards o action) (sym p.2) may_be) in
        let near : NearTo next answers s.begin s.guards orders (order_at orders p.0 ++ get_or may k.0 Noop ∷ []) = elim (all_found.near p.0 p.1 k.0 k.1 there) [
          | inl soon ↦ inl soon
          | inr beyond ↦ inr (λ other h.
              let q = place_in orders other [] h in
              subst (λ (o : List Action). length o ≤ length (order_at orders p.0 ++ get_or may k.0 Noop ∷ [])) q.2 (beyond.1 q.0 q.1))
        ] in
        subst (λ (a : Action). NearTo next answers s.begin s.guards orders (order ++ a ∷ [])) k.2
        (subst (λ (o : List Action). NearTo next answers s.begin s.guards orders (o ++ get_or may k.0 Noop ∷ [])) p.2 near)

    waits_by : (task : ℕ) (o : Option ℕ) → WaitsFirst next answers s task (length orders) o
        → MatchOption o (IsNeverStuck next answers s.begin s.guards may orders task) (IsFirstStuck next answers s.begin s.guards may orders task)
    waits_by task None never = λ order h stuck.
        let p = place_in orders order [] h in
        never p.0 p.1 (subst (λ (o : List Action). IsStuck next answers s.begin s.guards may task o) (sym p.2) stuck)
    waits_by task (Some at) first = record { within = first.within; stuck = first.stuck; first = first.first }

    pub waits_found : (task : ℕ) → IsTask task
        → MatchOption (get_or found.stuck (task - 1) None) (IsNeverStuck next answers s.begin s.guards may orders task) (IsFirstStuck next answers s.begin s.guards may orders task)
    waits_found task is = waits_by task (get_or found.stuck (task - 1) None) (all_found.stuck task is)
