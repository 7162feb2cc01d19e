-- A seat gives its first actor to a new seat.
use Rattle.std.proofs.Common.{◌≡◌, ◌≢◌, ◌⊎◌, ℕ, zero, suc, ◌<◌, List, [], ◌∷◌, ◌++◌, map, length, set, inl, inr, refl, sym, ap, subst, ◌∙◌, length-set}
use mathlib.Core.Logic.{dite}
use mathlib.Core.Option.{some, some-injective, some-ne-none}
use native.Mathlib.Decide.{ℕ_discrete}
use lib.ListN.{get_elem?}
use Rattle.atomic_table.specs.Table.{Splits}
use Rattle.atomic_table.proofs.Lists.{at_set, set_here, set_else, at_longer, at_last}
use Rattle.rp_base.specs.Sets.{Has}
use Rattle.rp_base.proofs.Members.{has_mapped}
use Rattle.rp_model.specs.Effect.{Setting}
use Rattle.rp_board.specs.Parts.{first_in, others_in, Part, View}
use Rattle.rp_board.specs.Rule.{IsSeating, Ruled}
use Rattle.rp_board.proofs.Worlds.{AreKeys, with_value, value_here, value_else, at_each, at_below, reseated}

-- what is in a list with one more at its end
at_end : {A : Type 0} (l : List A) (a : A) (j : ℕ) (b : A) → get_elem? (l ++ a ∷ []) j ≡ some b → (get_elem? l j ≡ some b) ⊎ ((j ≡ length l) × (a ≡ b))
at_end [] a zero b e = inr (refl, some-injective a b e)
at_end [] a (suc j) b e = absurd (some-ne-none b (sym e))
at_end (x ∷ xs) a zero b e = inl e
at_end (x ∷ xs) a (suc j) b e = elim (at_end xs a j b e) [ inl old ↦ inl old | inr new ↦ inr (ap suc new.0, new.1) ]

module _ (views : List View) (parts : ℕ → Part) (owner : ℕ → ℕ) (seating : IsSeating views parts owner) (id k : ℕ) (p : Part) (others : View)
    (here : get_elem? views id ≡ some ((k, p) ∷ others)) where
  abbrev whole : View
  whole = (k, p) ∷ others

  abbrev one : View
  one = (k, p) ∷ []

  abbrev left : List View
  left = set views id others

  abbrev views' : List View
  views' = left ++ one ∷ []

  abbrev owner' : ℕ → ℕ
  owner' = with_value owner k (length views)

  known : (owner k ≡ id) × (parts k ≡ p) × (k < 16)
  known = seating.knows id whole here k p (inl refl)

  below : id < length views
  below = at_below views id whole here

  -- an actor that is known to another seat, or after the first one
  knows_else : (other j : ℕ) (q : Part) → j ≢ k → (owner j ≡ other) × (parts j ≡ q) × (j < 16) → (owner' j ≡ other) × (parts j ≡ q) × (j < 16)
  knows_else other j q differ old = (value_else owner k (length views) j differ ∙ old.0, old.1, old.2)

  not_first : (j : ℕ) (q : Part) → Has {A = ℕ × Part} (j, q) others → j ≢ k
  not_first j q h same = (seating.apart id whole here).0 (subst (λ (i : ℕ). Has i (map (λ (known : ℕ × Part). known.0) others)) same (has_mapped (λ (known : ℕ × Part). known.0) (j, q) others h))

  knows_left : (other : ℕ) (v : View) → get_elem? left other ≡ some v → (j : ℕ) (q : Part) → Has (j, q) v → (owner' j ≡ other) × (parts j ≡ q) × (j < 16)
  knows_left other v at = elim (at_set views id other others v at) [
    | inl here' ↦ λ j q h.
        let h' : Has {A = ℕ × Part} (j, q) others = subst (λ (w : View). Has (j, q) w) (sym here'.1) h in
        let old = seating.knows id whole here j q (inr h') in
        knows_else other j q (not_first j q h') (old.0 ∙ sym here'.0, old.1, old.2)
    | inr there ↦ λ j q h.
        let old = seating.knows other v there.1 j q h in
        knows_else other j q (λ e. there.0 (sym old.0 ∙ ap owner e ∙ known.0)) old
  ]

  knows_new : (j : ℕ) (q : Part) → Has {A = ℕ × Part} (j, q) one → (owner' j ≡ length views) × (parts j ≡ q) × (j < 16)
  knows_new j q h = elim h [
    | inl same ↦
        let number : j ≡ k = ap (λ (known : ℕ × Part). known.0) same in
        let part : q ≡ p = ap (λ (known : ℕ × Part). known.1) same in
        subst (λ (i : ℕ). (owner' i ≡ length views) × (parts i ≡ q) × (i < 16)) (sym number) (value_here owner k (length views), known.1 ∙ sym part, known.2)
    | inr never ↦ absurd never
  ]

  knows_after : (other : ℕ) (v : View) → get_elem? views' other ≡ some v → (j : ℕ) (q : Part) → Has (j, q) v → (owner' j ≡ other) × (parts j ≡ q) × (j < 16)
  knows_after other v at = elim (at_end left one other v at) [
    | inl old ↦ knows_left other v old
    | inr new ↦ λ j q h.
        let fact = knows_new j q (subst (λ (w : View). Has (j, q) w) (sym new.1) h) in
        (fact.0 ∙ (sym (length-set views id others) ∙ sym new.0), fact.1, fact.2)
  ]

  apart_after : (other : ℕ) (v : View) → get_elem? views' other ≡ some v → AreKeys v
  apart_after other v at = elim (at_end left one other v at) [
    | inl old ↦ elim (at_set views id other others v old) [
      | inl here' ↦ subst AreKeys here'.1 (seating.apart id whole here).1
      | inr there ↦ seating.apart other v there.1
    ]
    | inr new ↦ subst AreKeys new.1 ((λ never. never), tt)
  ]

  abbrev IsSeated : ℕ → ℕ → Type 0
  IsSeated j place = (v : View) × (get_elem? views' place ≡ some v) × Has (j, parts j) v

  seated_else : (j : ℕ) → j ≢ k → j < 16 → IsSeated j (owner j)
  seated_else j differ small =
      let old = seating.seated j small in
      dite (ℕ_discrete (owner j) id)
      (λ e.
      let same : old.0 ≡ whole = some-injective _ _ (sym old.1 ∙ ap (get_elem? views) e ∙ here) in
      let h : Has {A = ℕ × Part} (j, parts j) whole = subst (λ (w : View). Has (j, parts j) w) same old.2 in
      elim h [
        | inl first ↦ absurd (differ (ap (λ (known : ℕ × Part). known.0) first))
        | inr later ↦ (others, ap (get_elem? views') e ∙ at_longer left (one ∷ []) id others (set_here views id others below), later)
      ])
      (λ other. (old.0, at_longer left (one ∷ []) (owner j) old.0 (set_else views id (owner j) others other ∙ old.1), old.2))

  seated_after : (j : ℕ) → j < 16 → IsSeated j (owner' j)
  seated_after = at_each owner k (length views) (λ j place. j < 16 → IsSeated j place)
      (λ small. (one, at_last left one (length views) (length-set views id others), inl (λ i. (k, known.1 i))))
      seated_else

  pub seating_split : IsSeating views' parts owner'
  seating_split = record { knows = knows_after; apart = apart_after; seated = seated_after }

pub split_allows : {S : Type 0} (s : Setting S) (id : ℕ) (view : View) → (first : ℕ × Part) × (others : View) × (view ≡ first ∷ others) → Splits (Ruled s) id view (others_in view) (first_in view)
split_allows s id view known =
    let k = known.0.0 in
    let p = known.0.1 in
    let others = known.1 in
    subst (λ (v : View). Splits (Ruled s) id v (others_in v) (first_in v)) (sym known.2)
    (λ t r here. reseated s t r _ (with_value r.owner k (length t.views)) (seating_split t.views r.parts r.owner r.seating id k p others here))
