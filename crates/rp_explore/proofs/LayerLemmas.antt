-- The shorter orders are found first.
use Rattle.std.proofs.Common.{◌≡◌, ℕ, ◌+◌, ◌-◌, ◌<◌, ◌≤◌, List, [], ◌∷◌, ◌++◌, length, get_or, Option, Some, None, MatchOption, inl, inr, sym, ◌∙◌, ap, subst, refl, arith, length-append}
use Rattle.std.proofs.lemmas.List.{get_or_append_left, get_or-append_right}
use Rattle.std.proofs.lemmas.Bool.{cases_lt}
use Rattle.rp_base.specs.declared.action.Action.{Action}
use Rattle.rp_base.specs.declared.action.Action.TheVariants.{Noop}
use Rattle.rp_base.specs.declared.reply.Answer.{Answer}
use Rattle.rp_machine.proofs.Calling.{has_left}
use Rattle.rp_explore.specs.Listed.{order_at, further, AreSorted}
use Rattle.rp_explore.specs.Searched.{Searched, Grows, Extends, IsAt, IsMissing, MayFollowAt, IsLayered, IsNear, AreNear}
use Rattle.rp_explore.proofs.Lists.{has_at}
use Rattle.rp_explore.proofs.VisitLemmas.{is_grown, further_stays, full_stays, back, follows}

-- the length of an order and one action more
pub one_longer : {S : Type 0} (s : Searched S) (place index : ℕ) → length (further s.listed place index) ≡ length (order_at s.listed.orders place) + 1
one_longer s place index = length-append (order_at s.listed.orders place) (get_or s.listed.may index Noop ∷ [])

-- sorted orders, each longer by one action at most than the one at the place, and one more of that length
abbrev Layers : List (List Action) → ℕ → Type 0
Layers orders place = AreSorted orders × ((other : ℕ) → other < length orders → length (order_at orders other) ≤ length (order_at orders place) + 1)

layers_push : (orders : List (List Action)) (place : ℕ) (order : List Action) → place < length orders → length order ≡ length (order_at orders place) + 1 → Layers orders place → Layers (orders ++ order ∷ []) place
layers_push orders place order lt long layers = (
  λ one other le below. elim (cases_lt other (length orders)) [
    | inl less ↦ let was = layers.0 one other le less in omega (arith, was, old one (omega (arith, le, less)), old other less)
    | inr rest ↦
        let last = new other rest (omega (arith, below, more)) in
        elim (cases_lt one (length orders)) [
          | inl less ↦ let was = layers.1 one less in omega (arith, was, old one less, last, long)
          | inr past ↦ let first = new one past (omega (arith, le, below, more)) in omega (arith, first, last)
        ]
  ],
  λ other below. elim (cases_lt other (length orders)) [
    | inl less ↦ let was = layers.1 other less in omega (arith, was, old other less, old place lt)
    | inr rest ↦ let last = new other rest (omega (arith, below, more)) in omega (arith, last, long, old place lt)
  ],
)
  where
    more : length (orders ++ order ∷ []) ≡ length orders + 1
    more = length-append orders (order ∷ [])

    old : (j : ℕ) → j < length orders → length (order_at (orders ++ order ∷ []) j) ≡ length (order_at orders j)
    old j below = ap length (get_or_append_left orders (order ∷ []) [] j below)

    new : (j : ℕ) → length orders ≤ j → j < length orders + 1 → length (order_at (orders ++ order ∷ []) j) ≡ length order
    new j high low =
        let none : j - length orders ≡ 0 = omega (arith, high, low) in
        ap length (get_or-append_right orders (order ∷ []) (length orders) j [] refl high ∙ ap (λ (k : ℕ). get_or (order ∷ []) k []) none)

module _ {S : Type 0} where
  pub layered_more : (old new : Searched S) (place index : ℕ) → place < length old.listed.orders → IsLayered old place → Grows old new (further old.listed place index) → IsLayered new place
  layered_more old new place index lt l grows =
      let all : Layers new.listed.orders place = elim grows.orders [
        | inl same ↦ subst (λ (os : List (List Action)). Layers os place) (sym same) (l.sorted, l.layer)
        | inr more ↦ subst (λ (os : List (List Action)). Layers os place) (sym more.1) (layers_push old.listed.orders place (further old.listed place index) lt (one_longer old place index) (l.sorted, l.layer))
      ] in
      record { sorted = all.0; layer = all.1 }

  -- the next order is no shorter
  pub layered_next : (s : Searched S) (place : ℕ) → place + 1 < length s.listed.orders → IsLayered s place → IsLayered s (place + 1)
  layered_next s place lt l = record {
    sorted = l.sorted;
    layer = λ other below. let was = l.layer other below in let le = l.sorted place (place + 1) (omega arith) lt in omega (arith, was, le);
  }

module _ {S : Type 0} (next : S → Action → S) (answers : S → Action → List Answer) where
  near_on : (old new : Searched S) (order : List Action) → Extends old new → IsNear next answers old order → IsNear next answers new order
  near_on old new order e (inl soon) =
      subst (λ (s : Searched S). IsNear next answers s order) (is_grown old new e) (inl (soon.0, has_left soon.0 old.listed.orders e.more soon.1, soon.2, soon.3))
  near_on old new order e (inr beyond) = subst (λ (s : Searched S). IsNear next answers s order) (full_stays old new e beyond.0) (inr beyond)

  near_now : (s : Searched S) (place : ℕ) (order : List Action) (at : Option ℕ) → length order ≡ length (order_at s.listed.orders place) + 1 → IsLayered s place
      → MatchOption at (IsMissing next answers s order) (IsAt next answers s order) → IsNear next answers s order
  near_now s place order None long l missing = inr (missing.full, λ other lt. let le = l.layer other lt in omega (arith, le, long))
  near_now s place order (Some k) long l is = inl (order_at s.listed.orders k, has_at s.listed.orders k [] is.within, is.alike, (let le = l.layer k is.within in omega (arith, le, long)))

  -- one action more
  pub near_more : (old new : Searched S) (place k : ℕ) (at : Option ℕ) → Extends old new → place < length old.listed.orders
      → (MayFollowAt next answers old place k → MatchOption at (IsMissing next answers new (further old.listed place k)) (IsAt next answers new (further old.listed place k)))
      → IsLayered new place → AreNear next answers old place k → AreNear next answers new place (k + 1)
  near_more old new place k at e lt there l before index below may_be =
      let may_then : MayFollowAt next answers old place index = back (follows next answers index) old new place e lt may_be in
      let stays = further_stays old new place index e lt in
      elim (cases_lt index k) [
        | inl less ↦ subst (λ (o : List Action). IsNear next answers new o) (sym stays) (near_on old new (further old.listed place index) e (before index less may_then))
        | inr rest ↦
            let same : index ≡ k = omega (arith, below, rest) in
            let may_now : MayFollowAt next answers old place k = subst (λ (j : ℕ). MayFollowAt next answers old place j) same may_then in
            let here = further_stays old new place k e lt in
            let long : length (further old.listed place k) ≡ length (order_at new.listed.orders place) + 1 = ap length (sym here) ∙ one_longer new place k in
            subst (λ (j : ℕ). IsNear next answers new (further new.listed place j)) (sym same)
            (subst (λ (o : List Action). IsNear next answers new o) (sym here) (near_now new place (further old.listed place k) at long l (there may_now)))
      ]

  -- one order more
  pub near_after : (old new : Searched S) (place : ℕ) → Extends old new → place < length old.listed.orders
      → ((p : ℕ) → p < place → AreNear next answers old p (length old.listed.may)) → AreNear next answers new place (length old.listed.may)
      → (p : ℕ) → p < place + 1 → AreNear next answers new p (length new.listed.may)
  near_after old new place e lt before now p below index within may_be =
      let size : length new.listed.may ≡ length old.listed.may = ap length e.may in
      elim (cases_lt p place) [
        | inl less ↦
            let there : p < length old.listed.orders = omega (arith, less, lt) in
            subst (λ (o : List Action). IsNear next answers new o) (sym (further_stays old new p index e there))
            (near_on old new (further old.listed p index) e (before p less index (omega (arith, size, within)) (back (follows next answers index) old new p e there may_be)))
        | inr rest ↦
            let same : p ≡ place = omega (arith, below, rest) in
            subst (λ (q : ℕ). IsNear next answers new (further new.listed q index)) (sym same)
            (now index (omega (arith, size, within)) (subst (λ (q : ℕ). MayFollowAt next answers new q index) same may_be))
      ]
