-- Names in a list: where one is, and what it is among.
use Rattle.std.proofs.Common.{◌≡◌, ℕ, suc, ◌+◌, ◌-◌, ◌<◌, ◌||◌, ◌&&◌, not, List, [], ◌∷◌, ◌++◌, Bool, true, false, cond, length, Some, None, nat_lt, arith, inl, inr, ap, refl, sym, subst, ◌∙◌}
use Rattle.std.specs.Prelude.{slice_get, slice_index_or}
use Rattle.std.specs.List.{list_all, prefix_len}
use Rattle.std.specs.Str.{bytes_eq}
use Rattle.std.proofs.lemmas.Bool.{cases_Bool, cond-true, cond-false, lt-ltb}
use Rattle.std.proofs.lemmas.List.Folds.{list_all-append, list_any-append}
use Rattle.std.proofs.lemmas.Option.{get_or_from_slice_get}
use Rattle.std.proofs.lemmas.Slice.Eq.{bytes_eq-Decides}
use Rattle.rp_words.specs.Words.{is_name}
use Rattle.rp_words.specs.Tables.{is_declared, place_of}
use Rattle.rp_words.proofs.WordsLemmas.{both}
use Rattle.rp_deck_laws.specs.ScriptText.{is_distinct, are_names, name_numbered}
use Rattle.rp_deck_laws.proofs.ScriptTextLemmas.{same_text, or_right, another}
use Rattle.rp_deck_laws.specs.Names.{is_among, IsAmong, place_in, number_in}

pub same_name : (a b : List ℕ) → bytes_eq a b ≡ true → a ≡ b
same_name a b h = (bytes_eq-Decides a b).0 h

-- ---- among names

pub or_later : (a b : Bool) → a ≡ false → (a || b) ≡ b
or_later true b h = absurd cc
or_later false b h = refl

pub or_first : (a b : Bool) → a ≡ true → (a || b) ≡ true
or_first true b h = refl
or_first false b h = absurd cc

pub among_here : (name x : List ℕ) (xs : List (List ℕ)) → bytes_eq name x ≡ true → is_among name (x ∷ xs) ≡ true
among_here name x xs hit = or_first (bytes_eq name x) (is_among name xs) hit

pub among_later : (name x : List ℕ) (xs : List (List ℕ)) → bytes_eq name x ≡ false → is_among name (x ∷ xs) ≡ is_among name xs
among_later name x xs miss = or_later (bytes_eq name x) (is_among name xs) miss

pub among_rest : (name x : List ℕ) (xs : List (List ℕ)) → bytes_eq name x ≡ false → IsAmong name (x ∷ xs) → IsAmong name xs
among_rest name x xs miss among = sym (among_later name x xs miss) ∙ among

pub among_more : (name : List ℕ) (xs ys : List (List ℕ)) → IsAmong name xs → IsAmong name (xs ++ ys)
among_more name xs ys among = list_any-append (bytes_eq name) xs ys ∙ or_first (is_among name xs) (is_among name ys) among

pub among_after : (name : List ℕ) (xs ys : List (List ℕ)) → IsAmong name ys → IsAmong name (xs ++ ys)
among_after name xs ys among = list_any-append (bytes_eq name) xs ys ∙ or_right (is_among name xs) (is_among name ys) among

-- ---- the place of a name

pub place_here : (name x : List ℕ) (xs : List (List ℕ)) → bytes_eq name x ≡ true → place_in name (x ∷ xs) ≡ 0
place_here name x xs hit = cond-true (bytes_eq name x) 0 (place_in name xs + 1) hit

pub place_later : (name x : List ℕ) (xs : List (List ℕ)) → bytes_eq name x ≡ false → place_in name (x ∷ xs) ≡ place_in name xs + 1
place_later name x xs miss = cond-false (bytes_eq name x) 0 (place_in name xs + 1) miss

pub place_below : (name : List ℕ) (names : List (List ℕ)) → IsAmong name names → place_in name names < length names
place_below name [] among = absurd cc
place_below name (x ∷ xs) among = elim (cases_Bool (bytes_eq name x)) [
  | inl hit ↦ omega (arith, place_here name x xs hit)
  | inr miss ↦ omega (arith, place_later name x xs miss, place_below name xs (among_rest name x xs miss among))
]

-- and there it is
pub at_place : (name : List ℕ) (names : List (List ℕ)) → IsAmong name names → slice_get names (place_in name names) ≡ Some name
at_place name [] among = absurd cc
at_place name (x ∷ xs) among = elim (cases_Bool (bytes_eq name x)) [
  | inl hit ↦ ap (slice_get (x ∷ xs)) (place_here name x xs hit) ∙ ap Some (sym (same_name name x hit))
  | inr miss ↦
      let one : place_in name (x ∷ xs) ≡ suc (place_in name xs) = omega (arith, place_later name x xs miss) in
      ap (slice_get (x ∷ xs)) one ∙ at_place name xs (among_rest name x xs miss among)
]

turned : (t : Bool) (m n : ℕ) → m ≡ n → cond (not t) (1 + m) 0 ≡ cond t 0 (n + 1)
turned true m n e = refl
turned false m n e = omega (arith, e)

prefix_is : (name : List ℕ) (names : List (List ℕ)) → prefix_len (λ key. not (bytes_eq name key)) names ≡ place_in name names
prefix_is name [] = refl
prefix_is name (x ∷ xs) = turned (bytes_eq name x) _ _ (prefix_is name xs)

-- the reader finds it there
pub place_of_is : (name : List ℕ) (names : List (List ℕ)) → IsAmong name names → place_of name names ≡ Some (place_in name names)
place_of_is name names among =
    ap (λ (m : ℕ). cond (nat_lt m (length names)) (Some m) None) (prefix_is name names)
    ∙ ap (λ (t : Bool). cond t (Some (place_in name names)) None) (lt-ltb (place_in name names) (length names) (place_below name names among))

one_less : (n : ℕ) → n + 1 - 1 ≡ n
one_less n = omega arith

-- its number names it
pub numbered_is : (name : List ℕ) (names : List (List ℕ)) → IsAmong name names → name_numbered names (number_in name names) ≡ name
numbered_is name names among =
    ap (λ (k : ℕ). slice_index_or names k []) (one_less (place_in name names)) ∙ get_or_from_slice_get names (place_in name names) name [] (at_place name names among)

-- names that follow change nothing
pub place_more : (name : List ℕ) (xs ys : List (List ℕ)) → IsAmong name xs → place_in name (xs ++ ys) ≡ place_in name xs
place_more name [] ys among = absurd cc
place_more name (x ∷ xs) ys among = elim (cases_Bool (bytes_eq name x)) [
  | inl hit ↦ place_here name x (xs ++ ys) hit ∙ sym (place_here name x xs hit)
  | inr miss ↦ place_later name x (xs ++ ys) miss ∙ ap (λ (n : ℕ). n + 1) (place_more name xs ys (among_rest name x xs miss among)) ∙ sym (place_later name x xs miss)
]

-- ---- names that differ

pub and_both : (a b : Bool) → a ≡ true → b ≡ true → (a && b) ≡ true
and_both true b p q = q
and_both false b p q = absurd cc

not_either : (a b : Bool) → not (a || b) ≡ true → not a ≡ true
not_either true b h = h
not_either false b h = refl

distinct_front : (xs ys : List (List ℕ)) → is_distinct (xs ++ ys) ≡ true → is_distinct xs ≡ true
distinct_front [] ys h = refl
distinct_front (x ∷ xs) ys h =
    let t = both (not (is_declared x (xs ++ ys))) (is_distinct (xs ++ ys)) h in
    and_both (not (is_declared x xs)) (is_distinct xs) (not_either (is_declared x xs) (is_declared x ys) (ap not (sym (list_any-append (bytes_eq x) xs ys)) ∙ t.0)) (distinct_front xs ys t.1)

pub not_among : (x : List ℕ) (xs : List (List ℕ)) → is_distinct (x ∷ xs) ≡ true → is_among x xs ≡ false
not_among x xs h = by (is_among x xs) (both (not (is_declared x xs)) (is_distinct xs) h).0
  where
    by : (t : Bool) → not t ≡ true → t ≡ false
    by true h = absurd cc
    by false h = refl

or_none : (a b : Bool) → a ≡ false → b ≡ false → (a || b) ≡ false
or_none a b p q = or_later a b p ∙ q

distinct_new : (xs ys : List (List ℕ)) (y : List ℕ) → is_distinct (xs ++ y ∷ ys) ≡ true → is_declared y xs ≡ false
distinct_new [] ys y h = refl
distinct_new (x ∷ xs) ys y h =
    let t = both (not (is_declared x (xs ++ y ∷ ys))) (is_distinct (xs ++ y ∷ ys)) h in
    or_none (bytes_eq y x) (is_declared y xs) (another x y (xs ++ y ∷ ys) h (among_after y xs (y ∷ ys) (among_here y y ys (same_text y)))) (distinct_new xs ys y t.1)

pub all_front : (test : List ℕ → Bool) (xs ys : List (List ℕ)) → list_all test (xs ++ ys) ≡ true → list_all test xs ≡ true
all_front test xs ys h = (both (list_all test xs) (list_all test ys) (sym (list_all-append test xs ys) ∙ h)).0

pub all_at : (test : List ℕ → Bool) (xs ys : List (List ℕ)) (y : List ℕ) → list_all test (xs ++ y ∷ ys) ≡ true → test y ≡ true
all_at test xs ys y h = (both (test y) (list_all test ys) (both (list_all test xs) (list_all test (y ∷ ys)) (sym (list_all-append test xs (y ∷ ys)) ∙ h)).1).0

pub all_among : (test : List ℕ → Bool) (names : List (List ℕ)) (name : List ℕ) → list_all test names ≡ true → IsAmong name names → test name ≡ true
all_among test [] name all among = absurd cc
all_among test (x ∷ xs) name all among =
    let t = both (test x) (list_all test xs) all in
    elim (cases_Bool (bytes_eq name x)) [
      | inl hit ↦ subst (λ (n : List ℕ). test n ≡ true) (sym (same_name name x hit)) t.0
      | inr miss ↦ all_among test xs name t.1 (among_rest name x xs miss among)
    ]

pub names_front : (xs ys : List (List ℕ)) → are_names (xs ++ ys) ≡ true → are_names xs ≡ true
names_front xs ys h =
    let t = both (list_all is_name (xs ++ ys)) (is_distinct (xs ++ ys)) h in
    and_both (list_all is_name xs) (is_distinct xs) (all_front is_name xs ys t.0) (distinct_front xs ys t.1)

-- a name that follows others is new
pub names_new : (xs ys : List (List ℕ)) (y : List ℕ) → are_names (xs ++ y ∷ ys) ≡ true → (is_name y ≡ true) × (is_declared y xs ≡ false)
names_new xs ys y h =
    let t = both (list_all is_name (xs ++ y ∷ ys)) (is_distinct (xs ++ y ∷ ys)) h in
    (all_at is_name xs ys y t.0, distinct_new xs ys y t.1)

pub name_among : (names : List (List ℕ)) (name : List ℕ) → are_names names ≡ true → IsAmong name names → is_name name ≡ true
name_among names name h among = all_among is_name names name (both (list_all is_name names) (is_distinct names) h).0 among
