-- How the arrays of the components represent the maps by name.
use Rattle.std.proofs.Common.{◌≡◌, ℕ, ◌+◌, ◌<◌, ◌≤◌, ℤ, pos, Bool, true, false, cond, Option, Some, None, List, length, take, set, get_or, unwrap_or, refl, sym, ◌∙◌, ap, ap₂, IsTrue, arith, length-set}
use Rattle.std.specs.Prelude.{option_map}
use Rattle.std.specs.FinMap.{get, insert, len, contains_key, len-insert}
use Rattle.std.proofs.lemmas.Cmp.{nat_cmp_total}
use Rattle.rp_body.specs.declared.components.Ranged.{Ranged}
use Rattle.rp_body.specs.declared.components.Limits.{Limits}
use Rattle.rp_body.specs.Store.{Store, by_place, limits_of, int_value, bool_value, is_within, with_found, with_int, with_bool}
use Rattle.rp_body.proofs.Places.{counted, at_place, past_place, written, pushed}

-- the components that the first m numbers and the first n Booleans denote
abbrev pub shown : ℕ → List Ranged → ℕ → List Bool → Store
shown m is n bs = record { ints = by_place (take m is); bools = by_place (take n bs) }

-- these arrays hold these components
pub record Holds (m : ℕ) (is : List Ranged) (n : ℕ) (bs : List Bool) (store : Store) : Type 0 where
  pub shows : shown m is n bs ≡ store
  pub few_ints : m ≤ 8
  pub few_bools : n ≤ 8
  pub ints_room : length is ≡ 8
  pub bools_room : length bs ≡ 8

-- the code has found the component of this name in the array, and the value that it passes is the value
pub record Finds (m : ℕ) (is : List Ranged) (place name : ℕ) (d : Ranged) (passed v : ℤ) : Type 0 where
  pub here : place ≡ name
  pub there : name < m
  pub value_is : passed ≡ v

is_false : (b : Bool) → ¬ IsTrue b → b ≡ false
is_false true never = absurd (never refl)
is_false false never = refl

module _ {m : ℕ} {is : List Ranged} {n : ℕ} {bs : List Bool} {store : Store} (h : Holds m is n bs store) where
  pub ints_counted : len store.ints ≡ m
  ints_counted = ap (λ (s : Store). len s.ints) (sym h.shows) ∙ counted m is h.few_ints h.ints_room

  pub bools_counted : len store.bools ≡ n
  bools_counted = ap (λ (s : Store). len s.bools) (sym h.shows) ∙ counted n bs h.few_bools h.bools_room

  pub limits_are : (l : Limits) → l.ints ≡ m → l.bools ≡ n → l ≡ limits_of store
  limits_are l p q =
      let ints = p ∙ sym ints_counted in
      let bools = q ∙ sym bools_counted in
      λ i. record { ints = ints i; bools = bools i }

  pub int_there : (k : ℕ) (d : Ranged) → k < m → get store.ints k ≡ Some (get_or is k d)
  int_there k d l = ap (λ (s : Store). get s.ints k) (sym h.shows) ∙ at_place m is k d h.few_ints h.ints_room l

  pub int_missing : (k : ℕ) → m ≤ k → get store.ints k ≡ None
  int_missing k l = ap (λ (s : Store). get s.ints k) (sym h.shows) ∙ past_place m is k h.few_ints h.ints_room l

  pub bool_there : (k : ℕ) (d : Bool) → k < n → get store.bools k ≡ Some (get_or bs k d)
  bool_there k d l = ap (λ (s : Store). get s.bools k) (sym h.shows) ∙ at_place n bs k d h.few_bools h.bools_room l

  pub bool_missing : (k : ℕ) → n ≤ k → get store.bools k ≡ None
  bool_missing k l = ap (λ (s : Store). get s.bools k) (sym h.shows) ∙ past_place n bs k h.few_bools h.bools_room l

  pub int_read : (k : ℕ) (d : Ranged) → k < m → (get_or is k d).value ≡ int_value store k
  int_read k d l = sym (ap (λ (o : Option Ranged). unwrap_or (option_map (λ (r : Ranged). r.value) o) (pos 0)) (int_there k d l))

  pub bool_read : (k : ℕ) (d : Bool) → k < n → get_or bs k d ≡ bool_value store k
  bool_read k d l = sym (ap (λ (o : Option Bool). unwrap_or o false) (bool_there k d l))

  pub int_written : (k : ℕ) (x : Ranged) → k < m → shown m (set is k x) n bs ≡ record { ints = insert store.ints k x; bools = store.bools }
  int_written k x l =
      ap (λ a. record { ints = a; bools = by_place (take n bs) }) (written m is k x h.few_ints h.ints_room l)
      ∙ ap (λ (s : Store). record { ints = insert s.ints k x; bools = s.bools }) h.shows

  pub bool_written : (k : ℕ) (x : Bool) → k < n → shown m is n (set bs k x) ≡ with_bool store k x
  bool_written k x l =
      ap (λ a. record { ints = by_place (take m is); bools = a }) (written n bs k x h.few_bools h.bools_room l)
      ∙ ap (λ (s : Store). with_bool s k x) h.shows

  pub int_added : (k : ℕ) (x : Ranged) → k ≡ m → m < 8 → shown (m + 1) (set is k x) n bs ≡ record { ints = insert store.ints (len store.ints) x; bools = store.bools }
  int_added k x e l =
      ap (λ a. shown (m + 1) (set is a x) n bs) e
      ∙ ap (λ a. record { ints = a; bools = by_place (take n bs) }) (pushed m is x l h.ints_room)
      ∙ ap (λ (s : Store). record { ints = insert s.ints (len s.ints) x; bools = s.bools }) h.shows

  pub bool_added : (k : ℕ) (x : Bool) → k ≡ n → n < 8 → shown m is (n + 1) (set bs k x) ≡ record { ints = store.ints; bools = insert store.bools (len store.bools) x }
  bool_added k x e l =
      ap (λ a. shown m is (n + 1) (set bs a x)) e
      ∙ ap (λ a. record { ints = by_place (take m is); bools = a }) (pushed n bs x l h.bools_room)
      ∙ ap (λ (s : Store). record { ints = s.ints; bools = insert s.bools (len s.bools) x }) h.shows

  -- what `with_int` gives at a component that is there, by whether the value lies in its range
  assigned : (k : ℕ) (d : Ranged) (v : ℤ) → k < m → with_int store k v ≡ cond (is_within (get_or is k d).low (get_or is k d).high v) (record { ints = insert store.ints k (record { low = (get_or is k d).low; high = (get_or is k d).high; value = v }); bools = store.bools }, true) (store, false)
  assigned k d v l = ap (λ (o : Option Ranged). with_found o store k v) (int_there k d l)

  tested : {place k : ℕ} {d : Ranged} {passed v : ℤ} → Finds m is place k d passed v → is_within (get_or is place d).low (get_or is place d).high passed ≡ is_within (get_or is k d).low (get_or is k d).high v
  tested {place} {k} {d} f = ap₂ (λ p z. is_within (get_or is p d).low (get_or is p d).high z) f.here f.value_is

  -- a value outside the range changes nothing
  pub int_refused : {place k : ℕ} {d : Ranged} {passed v : ℤ} → Finds m is place k d passed v → ¬ IsTrue (is_within (get_or is place d).low (get_or is place d).high passed) → ◌≡◌ {A = Store × Bool} (store, false) (with_int store k v)
  int_refused {place} {k} {d} {passed} {v} f out =
      let component : Ranged = record { low = (get_or is k d).low; high = (get_or is k d).high; value = v } in
      let fails : is_within (get_or is k d).low (get_or is k d).high v ≡ false = is_false (is_within (get_or is k d).low (get_or is k d).high v) (λ t. out (tested f ∙ t)) in
      sym (assigned k d v f.there ∙ ap (λ b. cond b (record { ints = insert store.ints k component; bools = store.bools }, true) (store, false)) fails)

  -- a value inside it is written
  pub int_taken : {place k : ℕ} {d : Ranged} {passed v : ℤ} {x : Ranged} → Finds m is place k d passed v → IsTrue (is_within (get_or is place d).low (get_or is place d).high passed) × (x ≡ record { low = (get_or is place d).low; high = (get_or is place d).high; value = passed }) → ◌≡◌ {A = Store × Bool} (shown m (set is place x) n bs, true) (with_int store k v)
  int_taken {place} {k} {d} {passed} {v} {x} f taken =
      let component : Ranged = record { low = (get_or is k d).low; high = (get_or is k d).high; value = v } in
      let holds : is_within (get_or is k d).low (get_or is k d).high v ≡ true = sym (tested f) ∙ taken.0 in
      let same : x ≡ component = taken.1 ∙ ap₂ (λ p z. record { low = (get_or is p d).low; high = (get_or is p d).high; value = z }) f.here f.value_is in
      ap₂ (λ p y. (shown m (set is p y) n bs, true)) f.here same
      ∙ ap (λ (s : Store). (s, true)) (int_written k component f.there)
      ∙ sym (assigned k d v f.there ∙ ap (λ b. cond b (record { ints = insert store.ints k component; bools = store.bools }, true) (store, false)) holds)

-- to write a component leaves the numbers of components
pub counts_after_int : {m : ℕ} {is : List Ranged} {n : ℕ} {bs : List Bool} {store : Store} → Holds m is n bs store → (k : ℕ) (x : Ranged) → limits_of (shown m (set is k x) n bs) ≡ limits_of store
counts_after_int {m} {is} {n} {bs} {store} h k x =
    let after : Holds m (set is k x) n bs (shown m (set is k x) n bs) = record { shows = refl; few_ints = h.few_ints; few_bools = h.few_bools; ints_room = length-set is k x ∙ h.ints_room; bools_room = h.bools_room } in
    let counts : Limits = record { ints = m; bools = n } in
    sym (limits_are after counts refl refl) ∙ limits_are h counts refl refl

pub counts_after_bool : {m : ℕ} {is : List Ranged} {n : ℕ} {bs : List Bool} {store : Store} → Holds m is n bs store → (k : ℕ) (x : Bool) → limits_of (shown m is n (set bs k x)) ≡ limits_of store
counts_after_bool {m} {is} {n} {bs} {store} h k x =
    let after : Holds m is n (set bs k x) (shown m is n (set bs k x)) = record { shows = refl; few_ints = h.few_ints; few_bools = h.few_bools; ints_room = h.ints_room; bools_room = length-set bs k x ∙ h.bools_room } in
    let counts : Limits = record { ints = m; bools = n } in
    sym (limits_are after counts refl refl) ∙ limits_are h counts refl refl

at_most : (b : Bool) (a n : ℕ) → a ≡ cond b n (n + 1) → a ≤ n + 1
at_most true a n e = omega arith
at_most false a n e = omega arith
