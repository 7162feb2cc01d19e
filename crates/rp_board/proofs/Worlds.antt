-- The parts of actors, where one of them changes.
use Rattle.std.proofs.Common.{◌≡◌, ◌≢◌, ℕ, zero, suc, ◌<◌, List, [], ◌∷◌, ◌++◌, map, length, set, inl, inr, refl, sym, ap, subst, ◌∙◌, arith}
use mathlib.Core.Logic.{dite}
use mathlib.Core.Option.{some, some-injective, some-ne-none}
use native.Mathlib.Decide.{ℕ_discrete}
use lib.ListN.{get_elem?}
use Rattle.atomic_table.specs.Table.{State}
use Rattle.atomic_table.proofs.Lists.{at_set, set_here, set_else}
use Rattle.rp_base.specs.Sets.{Has, IsSet}
use Rattle.rp_base.proofs.Members.{has_split, has_left, has_right}
use Rattle.rp_codec.specs.Message.{Message}
use Rattle.rp_model.specs.Effect.{Setting}
use Rattle.rp_board.specs.Parts.{Part, View}
use Rattle.rp_board.specs.Rule.{Slot, IsSeating, Ruled, all_sent}

-- ---- a function with one value changed

abbrev pick : {A P : Type 0} → Dec P → A → A → A
pick (yes _) a b = a
pick (no _) a b = b

pub with_value : {A : Type 0} → (ℕ → A) → ℕ → A → ℕ → A
with_value f k a j = pick (ℕ_discrete j k) a (f j)

pub value_here : {A : Type 0} (f : ℕ → A) (k : ℕ) (a : A) → with_value f k a k ≡ a
unfolding with_value
value_here f k a = go (ℕ_discrete k k)
  where
    go : (d : Dec (k ≡ k)) → pick d a (f k) ≡ a
    go (yes _) = refl
    go (no other) = absurd (other refl)

pub value_else : {A : Type 0} (f : ℕ → A) (k : ℕ) (a : A) (j : ℕ) → j ≢ k → with_value f k a j ≡ f j
unfolding with_value
value_else f k a j other = go (ℕ_discrete j k)
  where
    go : (d : Dec (j ≡ k)) → pick d a (f j) ≡ f j
    go (yes e) = absurd (other e)
    go (no _) = refl

-- what holds of the new value, and of the others as they were
pub at_each : {A : Type 0} (f : ℕ → A) (k : ℕ) (a : A) (P : ℕ → A → Type 0) → P k a → ((j : ℕ) → j ≢ k → P j (f j)) → (j : ℕ) → P j (with_value f k a j)
at_each {A} f k a P here others j = dite (ℕ_discrete j k)
    (λ e. subst (λ (i : ℕ). P i (with_value f k a i)) (sym e) (subst (P k) (sym (value_here f k a)) here))
    (λ other. subst (P j) (sym (value_else f k a j other)) (others j other))

-- what holds of each value and the one after it
pub from_each : {A : Type 0} (f : ℕ → A) (k : ℕ) (a b : A) (P : A → A → Type 0) → f k ≡ a → P a b → ((c : A) → P c c) → (j : ℕ) → P (f j) (with_value f k b j)
from_each {A} f k a b P is here same = at_each f k b (λ j c. P (f j) c) (subst (λ (x : A). P x b) (sym is) here) (λ j other. same (f j))

-- ---- the seats, where one that knows one actor knows it anew

pub at_below : {A : Type 0} (l : List A) (i : ℕ) (a : A) → get_elem? l i ≡ some a → i < length l
at_below [] i a e = absurd (some-ne-none a (sym e))
at_below (x ∷ xs) zero a e = omega arith
at_below (x ∷ xs) (suc i) a e = let rest = at_below xs i a e in omega (arith, rest)

the_one : (k j : ℕ) (p q : Part) → Has {A = ℕ × Part} (j, q) ((k, p) ∷ []) → (j ≡ k) × (q ≡ p)
the_one k j p q h = elim h [
  | inl same ↦ (ap (λ (known : ℕ × Part). known.0) same, ap (λ (known : ℕ × Part). known.1) same)
  | inr none ↦ absurd none
]

-- the actors of a view differ
abbrev pub AreKeys : View → Type 0
AreKeys v = IsSet (map (λ known. known.0) v)

module _ (views : List View) (parts : ℕ → Part) (owner : ℕ → ℕ) (seating : IsSeating views parts owner)
    (id k : ℕ) (p p' : Part) (here : get_elem? views id ≡ some ((k, p) ∷ [])) where
  known : (owner k ≡ id) × (parts k ≡ p) × (k < 16)
  known = seating.knows id ((k, p) ∷ []) here k p (inl refl)

  pub was_part : parts k ≡ p
  was_part = known.1

  pub is_actor : k < 16
  is_actor = known.2

  abbrev one : View
  one = (k, p') ∷ []

  -- another seat knows other actors
  others_know : (other : ℕ) (v : View) → other ≢ id → get_elem? views other ≡ some v → (j : ℕ) (q : Part) → Has (j, q) v
      → (owner j ≡ other) × (with_value parts k p' j ≡ q) × (j < 16)
  others_know other v apart at j q h =
      let old = seating.knows other v at j q h in
      let differ : j ≢ k = λ e. apart (sym old.0 ∙ ap owner e ∙ known.0) in
      (old.0, value_else parts k p' j differ ∙ old.1, old.2)

  knows_new : (j : ℕ) (q : Part) → Has {A = ℕ × Part} (j, q) one → (owner j ≡ id) × (with_value parts k p' j ≡ q) × (j < 16)
  knows_new j q h =
      let same = the_one k j p' q h in
      subst (λ (i : ℕ). (owner i ≡ id) × (with_value parts k p' i ≡ q) × (i < 16)) (sym same.0) (known.0, value_here parts k p' ∙ sym same.1, known.2)

  knows_after : (other : ℕ) (v : View) → get_elem? (set views id one) other ≡ some v → (j : ℕ) (q : Part) → Has (j, q) v
      → (owner j ≡ other) × (with_value parts k p' j ≡ q) × (j < 16)
  knows_after other v at = elim (at_set views id other one v at) [
    | inl new ↦ λ j q h.
        let fact = knows_new j q (subst (λ (w : View). Has (j, q) w) (sym new.1) h) in
        (fact.0 ∙ sym new.0, fact.1, fact.2)
    | inr old ↦ others_know other v old.0 old.1
  ]

  apart_after : (other : ℕ) (v : View) → get_elem? (set views id one) other ≡ some v → AreKeys v
  apart_after other v at = elim (at_set views id other one v at) [
    | inl new ↦ subst AreKeys new.1 ((λ none. none), tt)
    | inr old ↦ seating.apart other v old.1
  ]

  seated_else : (j : ℕ) → j ≢ k → j < 16 → (v : View) × (get_elem? (set views id one) (owner j) ≡ some v) × Has (j, parts j) v
  seated_else j differ small =
      let old = seating.seated j small in
      let apart : owner j ≢ id = λ e.
      let same : old.0 ≡ (k, p) ∷ [] = some-injective _ _ (sym old.1 ∙ ap (get_elem? views) e ∙ here) in
      differ (the_one k j p (parts j) (subst (λ (w : View). Has (j, parts j) w) same old.2)).0 in
      (old.0, set_else views id (owner j) one apart ∙ old.1, old.2)

  seated_after : (j : ℕ) → j < 16 → (v : View) × (get_elem? (set views id one) (owner j) ≡ some v) × Has (j, with_value parts k p' j) v
  seated_after = at_each parts k p' (λ j q. j < 16 → (v : View) × (get_elem? (set views id one) (owner j) ≡ some v) × Has (j, q) v)
      (λ small. (one, ap (get_elem? (set views id one)) known.0 ∙ set_here views id one (at_below views id ((k, p) ∷ []) here), inl refl))
      seated_else

  pub seating_after : IsSeating (set views id one) (with_value parts k p') owner
  seating_after = record { knows = knows_after; apart = apart_after; seated = seated_after }

-- ---- the rule, where the seats alone change

pub reseated : {S : Type 0} (s : Setting S) (t : State Slot View) (r : Ruled s t) (views : List View) (owner : ℕ → ℕ) → IsSeating views r.parts owner
    → Ruled s record { words = t.words; homes = t.homes; views = views }
reseated s t r views owner seating = record {
  parts = r.parts;
  owner = owner;
  world = r.world;
  long = r.long;
  seating = seating;
  counted = r.counted;
  boxes = r.boxes;
}

-- ---- lists of packets

-- what holds of each packet holds with one more
pub each_more : (Q : Message → Type 0) (m : Message) (packets : List Message) → ((n : Message) → Has n packets → Q n) → Q m → (n : Message) → Has n (packets ++ m ∷ []) → Q n
each_more Q m packets each here n h = elim (has_split n packets (m ∷ []) h) [
  | inl old ↦ each n old
  | inr new ↦ elim new [ inl same ↦ subst Q (sym same) here | inr never ↦ absurd never ]
]

pub sent_by : (parts : ℕ → Part) (most k : ℕ) (m : Message) → k < most → Has m (parts k).sent → Has m (all_sent parts most)
sent_by parts zero k m small h = absurd (omega arith)
sent_by parts (suc most) k m small h = dite (ℕ_discrete k most)
    (λ e. has_right m (all_sent parts most) (parts most).sent (subst (λ (j : ℕ). Has m (parts j).sent) e h))
    (λ other. has_left m (all_sent parts most) (parts most).sent (sent_by parts most k m (omega arith) h))

pub is_sent : (parts : ℕ → Part) (most : ℕ) (m : Message) → Has m (all_sent parts most) → (k : ℕ) × (k < most) × Has m (parts k).sent
is_sent parts zero m h = absurd h
is_sent parts (suc most) m h = elim (has_split m (all_sent parts most) (parts most).sent h) [
  | inl before ↦ let old = is_sent parts most m before in (old.0, (let small : old.0 < most = old.1 in omega (arith, small)), old.2)
  | inr here ↦ (most, omega arith, here)
]

-- where the parts sent the same, all sent the same
pub same_sent : (parts parts' : ℕ → Part) (most : ℕ) → ((k : ℕ) → (parts k).sent ≡ (parts' k).sent) → all_sent parts most ≡ all_sent parts' most
same_sent parts parts' zero same = refl
same_sent parts parts' (suc most) same = λ i. same_sent parts parts' most same i ++ same most i
