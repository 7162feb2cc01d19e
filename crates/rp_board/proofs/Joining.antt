-- A seat takes in another one that knows one actor.
use Rattle.std.proofs.Common.{◌≡◌, ◌≢◌, ℕ, ◌<◌, List, [], ◌∷◌, ◌++◌, map, set, inl, inr, refl, sym, ap, subst, ◌∙◌}
use Rattle.std.proofs.lemmas.List.{map-append}
use mathlib.Core.Logic.{dite}
use mathlib.Core.Option.{some, some-injective}
use native.Mathlib.Decide.{ℕ_discrete}
use lib.ListN.{get_elem?}
use Rattle.atomic_table.specs.Table.{Joins}
use Rattle.atomic_table.proofs.Lists.{at_set, set_here, set_else}
use Rattle.rp_base.specs.Sets.{Has, IsSet}
use Rattle.rp_base.proofs.Members.{has_left, has_right, has_split, mapped_has, set_more}
use Rattle.rp_model.specs.Effect.{Setting}
use Rattle.rp_board.specs.Parts.{first_in, others_in, Part, View, actor_in, part_in}
use Rattle.rp_board.specs.Plays.{Sight, alone}
use Rattle.rp_board.specs.Rule.{IsSeating, Ruled}
use Rattle.rp_board.proofs.Worlds.{AreKeys, with_value, value_here, value_else, at_below, reseated}

module _ (views : List View) (parts : ℕ → Part) (owner : ℕ → ℕ) (seating : IsSeating views parts owner) (id : ℕ) (mine : View) (other k : ℕ) (q : Part)
    (here : get_elem? views id ≡ some mine) (apart : other ≢ id) (there : get_elem? views other ≡ some ((k, q) ∷ [])) where
  abbrev both : View
  both = mine ++ (k, q) ∷ []

  abbrev joined : List View
  joined = set views id both

  abbrev views' : List View
  views' = set joined other []

  -- what the other seat knew the first one knows
  abbrev owner' : ℕ → ℕ
  owner' x = with_value (λ y. y) other id (owner x)

  moved : (x : ℕ) → owner x ≡ other → owner' x ≡ id
  moved x e = ap (with_value (λ y. y) other id) e ∙ value_here (λ y. y) other id

  stays : (x : ℕ) → owner x ≢ other → owner' x ≡ owner x
  stays x differ = value_else (λ y. y) other id (owner x) differ

  other_known : (owner k ≡ other) × (parts k ≡ q) × (k < 16)
  other_known = seating.knows other ((k, q) ∷ []) there k q (inl refl)

  abbrev IsKnown : ℕ → ℕ → Part → Type 0
  IsKnown place i r = (owner' i ≡ place) × (parts i ≡ r) × (i < 16)

  knows_both : (i : ℕ) (r : Part) → Has {A = ℕ × Part} (i, r) both → IsKnown id i r
  knows_both i r h = elim (has_split {A = ℕ × Part} (i, r) mine ((k, q) ∷ []) h) [
    | inl own ↦
        let known = seating.knows id mine here i r own in
        (stays i (λ e. apart (sym e ∙ known.0)) ∙ known.0, known.1, known.2)
    | inr rest ↦ elim rest [
      | inl second ↦
          let number : i ≡ k = ap (λ (known : ℕ × Part). known.0) second in
          let part : r ≡ q = ap (λ (known : ℕ × Part). known.1) second in
          subst (λ (x : ℕ). IsKnown id x r) (sym number) (moved k other_known.0, other_known.1 ∙ sym part, other_known.2)
      | inr never ↦ absurd never
    ]
  ]

  knows_after : (place : ℕ) (v : View) → get_elem? views' place ≡ some v → (i : ℕ) (r : Part) → Has (i, r) v → IsKnown place i r
  knows_after place v at = elim (at_set joined other place [] v at) [
    | inl spent ↦ λ i r h. absurd (subst (λ (w : View). Has (i, r) w) (sym spent.1) h)
    | inr kept ↦ elim (at_set views id place both v kept.1) [
      | inl new ↦ λ i r h. subst (λ (x : ℕ). IsKnown x i r) (sym new.0) (knows_both i r (subst (λ (w : View). Has (i, r) w) (sym new.1) h))
      | inr old ↦ λ i r h.
          let known = seating.knows place v old.1 i r h in
          (stays i (λ e. kept.0 (sym known.0 ∙ e)) ∙ known.0, known.1, known.2)
    ]
  ]

  -- the other's actor is none of its own
  absent : Has k (map (λ known. known.0) mine) → ⊥
  absent h =
      let known : (x : ℕ × Part) × Has x mine × (k ≡ x.0) = mapped_has (λ (x : ℕ × Part). x.0) k mine h in
      let own = seating.knows id mine here known.0.0 known.0.1 known.1 in
      apart (sym other_known.0 ∙ (ap owner known.2 ∙ own.0))

  both_apart : AreKeys both
  both_apart =
      subst (λ (l : List ℕ). IsSet l) (sym (map-append (λ (x : ℕ × Part). x.0) mine ((k, q) ∷ [])))
      (set_more (map (λ known. known.0) mine) k (seating.apart id mine here) absent)

  apart_after : (place : ℕ) (v : View) → get_elem? views' place ≡ some v → AreKeys v
  apart_after place v at = elim (at_set joined other place [] v at) [
    | inl spent ↦ subst AreKeys spent.1 tt
    | inr kept ↦ elim (at_set views id place both v kept.1) [ inl new ↦ subst AreKeys new.1 both_apart | inr old ↦ seating.apart place v old.1 ]
  ]

  at_id : get_elem? views' id ≡ some both
  at_id = set_else joined other id [] (λ e. apart (sym e)) ∙ set_here views id both (at_below views id mine here)

  abbrev IsSeated : ℕ → Type 0
  IsSeated x = (v : View) × (get_elem? views' (owner' x) ≡ some v) × Has (x, parts x) v

  seated_after : (x : ℕ) → x < 16 → IsSeated x
  seated_after x small =
      let old = seating.seated x small in
      dite (ℕ_discrete (owner x) other)
      (λ e.
      let same : old.0 ≡ (k, q) ∷ [] = some-injective _ _ (sym old.1 ∙ (ap (get_elem? views) e ∙ there)) in
      let h : Has {A = ℕ × Part} (x, parts x) ((k, q) ∷ []) = subst (λ (w : View). Has (x, parts x) w) same old.2 in
      (both, ap (get_elem? views') (moved x e) ∙ at_id, has_right {A = ℕ × Part} (x, parts x) mine ((k, q) ∷ []) h))
      (λ differ. dite (ℕ_discrete (owner x) id)
      (λ e.
      let same : old.0 ≡ mine = some-injective _ _ (sym old.1 ∙ (ap (get_elem? views) e ∙ here)) in
      let h : Has {A = ℕ × Part} (x, parts x) mine = subst (λ (w : View). Has (x, parts x) w) same old.2 in
      (both, ap (get_elem? views') (stays x differ ∙ e) ∙ at_id, has_left {A = ℕ × Part} (x, parts x) mine ((k, q) ∷ []) h))
      (λ elsewhere. (old.0, ap (get_elem? views') (stays x differ) ∙ (set_else joined other (owner x) [] differ ∙ (set_else views id (owner x) both elsewhere ∙ old.1)), old.2)))

  pub seating_joined : IsSeating views' parts owner'
  seating_joined = record { knows = knows_after; apart = apart_after; seated = seated_after }

join_alone : {S : Type 0} (s : Setting S) (id : ℕ) (mine : View) (other k : ℕ) (q : Part) → Joins (Ruled s) id mine other ((k, q) ∷ []) (mine ++ (k, q) ∷ []) []
join_alone s id mine other k q = λ t r here apart there.
    let before : get_elem? t.views other ≡ some ((k, q) ∷ []) = sym (set_else t.views id other (mine ++ (k, q) ∷ []) apart) ∙ there in
    reseated s t r _ (λ x. with_value (λ y. y) other id (r.owner x)) (seating_joined t.views r.parts r.owner r.seating id mine other k q here apart before)

pub join_allows : {S : Type 0} (s : Setting S) (id : ℕ) (mine : View) (other : ℕ) (me : Sight) → me ≡ alone (actor_in me.0) (part_in me.0) → Joins (Ruled s) id mine other me.0 (mine ++ me.0) []
join_allows s id mine other me is =
    subst (λ (sight : Sight). Joins (Ruled s) id mine other sight.0 (mine ++ sight.0) []) (sym is) (join_alone s id mine other (actor_in me.0) (part_in me.0))

-- ---- two places that are joined and split again

module _ (one other me : Sight) (is_one : one ≡ alone (actor_in one.0) (part_in one.0)) (is_other : other ≡ alone (actor_in other.0) (part_in other.0))
    (joined : me ≡ (one.0 ++ other.0, one.1)) where
  pair : me ≡ ((actor_in one.0, part_in one.0) ∷ (actor_in other.0, part_in other.0) ∷ [], [])
  pair = joined ∙ (λ i. ((is_one i).0 ++ (is_other i).0, (is_one i).1))

  pub some_first : (first : ℕ × Part) × (others : View) × (me.0 ≡ first ∷ others)
  some_first = ((actor_in one.0, part_in one.0), (actor_in other.0, part_in other.0) ∷ [], ap (λ (sight : Sight). sight.0) pair)

  pub one_back : (after : Sight) → after ≡ (first_in me.0, []) → after ≡ one
  one_back after is = is ∙ (ap (λ (sight : Sight). (first_in sight.0, [])) pair ∙ sym is_one)

  pub other_back : (after : Sight) → after ≡ (others_in me.0, me.1) → after ≡ other
  other_back after is = is ∙ (ap (λ (sight : Sight). (others_in sight.0, sight.1)) pair ∙ sym is_other)
