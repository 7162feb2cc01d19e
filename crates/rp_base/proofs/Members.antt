-- The members of lists, and of sets with one more member.
use Rattle.std.proofs.Common.{◌≡◌, ◌≢◌, ℕ, suc, ◌≤◌, length, arith, Bool, true, false, ◌⊎◌, List, [], ◌∷◌, ◌++◌, map, refl, sym, ap, subst, ◌∙◌, inl, inr}
use Rattle.std.specs.Prelude.{filter}
use Rattle.std.specs.List.{list_any}
use Rattle.std.specs.Bool.{Decides}
use Rattle.std.proofs.lemmas.Bool.{cases_Bool, or_cases, or_left, or_right, both_ways, cond-true, cond-false}
use Rattle.rp_base.specs.Sets.{Has, IsSet, SameMembers, with_member, with_members}

-- a member of two lists joined is one of either
pub has_split : {A : Type 0} (x : A) (xs ys : List A) → Has x (xs ++ ys) → Has x xs ⊎ Has x ys
has_split x [] ys h = inr h
has_split x (y ∷ xs) ys h =
    elim h [
      | inl same ↦ inl (inl same)
      | inr later ↦ elim (has_split x xs ys later) [ inl left ↦ inl (inr left) | inr right ↦ inr right ]
    ]

pub has_left : {A : Type 0} (x : A) (xs ys : List A) → Has x xs → Has x (xs ++ ys)
has_left x [] ys h = absurd h
has_left x (y ∷ xs) ys h = elim h [ inl same ↦ inl same | inr later ↦ inr (has_left x xs ys later) ]

pub has_right : {A : Type 0} (x : A) (xs ys : List A) → Has x ys → Has x (xs ++ ys)
has_right x [] ys h = h
has_right x (y ∷ xs) ys h = inr (has_right x xs ys h)

-- a member of what passes the test
pub has_passing : {A : Type 0} (test : A → Bool) (x : A) (xs : List A) → Has x (filter test xs) → Has x xs × (test x ≡ true)
has_passing {A} test x [] h = absurd h
has_passing {A} test x (y ∷ xs) h =
    elim (cases_Bool (test y)) [
      | inl hit ↦ elim (subst (λ (list : List A). Has x list) (cond-true (test y) (y ∷ filter test xs) (filter test xs) hit) h) [
        | inl same ↦ (inl same, ap test same ∙ hit)
        | inr later ↦ let rest = has_passing test x xs later in (inr rest.0, rest.1)
      ]
      | inr miss ↦
          let rest = has_passing test x xs (subst (λ (list : List A). Has x list) (cond-false (test y) (y ∷ filter test xs) (filter test xs) miss) h) in
          (inr rest.0, rest.1)
    ]

pub passes : {A : Type 0} (test : A → Bool) (x : A) (xs : List A) → Has x xs → test x ≡ true → Has x (filter test xs)
passes {A} test x [] h e = h
passes {A} test x (y ∷ xs) h e =
    elim (cases_Bool (test y)) [
      | inl hit ↦ subst (λ (list : List A). Has x list) (sym (cond-true (test y) (y ∷ filter test xs) (filter test xs) hit))
          (elim h as (λ _. Has x (y ∷ filter test xs)) [ inl same ↦ inl same | inr later ↦ inr (passes test x xs later e) ])
      | inr miss ↦ subst (λ (list : List A). Has x list) (sym (cond-false (test y) (y ∷ filter test xs) (filter test xs) miss))
          (elim h as (λ _. Has x (filter test xs)) [ inl same ↦ absurd (both_ways (test y) miss (sym (ap test same) ∙ e)) | inr later ↦ passes test x xs later e ])
    ]

-- a test for sameness finds the members
pub found : {A : Type 0} (same : A → A → Bool) → ((x y : A) → Decides (same x y) (x ≡ y)) → (x : A) (xs : List A) → list_any (same x) xs ≡ true → Has x xs
found same decides x [] h = absurd (both_ways false refl h)
found same decides x (y ∷ xs) h =
    elim (or_cases (same x y) (list_any (same x) xs) h) [
      | inl hit ↦ inl ((decides x y).0 hit)
      | inr later ↦ inr (found same decides x xs later)
    ]

pub finds : {A : Type 0} (same : A → A → Bool) → ((x y : A) → Decides (same x y) (x ≡ y)) → (x : A) (xs : List A) → Has x xs → list_any (same x) xs ≡ true
finds same decides x [] h = absurd h
finds same decides x (y ∷ xs) h =
    elim h [
      | inl e ↦ or_left (same x y) (list_any (same x) xs) ((decides x y).1 e)
      | inr later ↦ or_right (same x y) (list_any (same x) xs) (finds same decides x xs later)
    ]

-- the members of a set with one more
pub has_with : {A : Type 0} (same : A → A → Bool) → ((x y : A) → Decides (same x y) (x ≡ y)) → (x y : A) (xs : List A) → Has x (with_member same xs y) → Has x xs ⊎ (x ≡ y)
has_with {A} same decides x y xs h =
    elim (cases_Bool (list_any (same y) xs)) [
      | inl hit ↦ inl (subst (λ (list : List A). Has x list) (cond-true (list_any (same y) xs) xs (xs ++ y ∷ []) hit) h)
      | inr miss ↦ elim (has_split x xs (y ∷ []) (subst (λ (list : List A). Has x list) (cond-false (list_any (same y) xs) xs (xs ++ y ∷ []) miss) h)) [
        | inl before ↦ inl before
        | inr last ↦ elim last [ inl e ↦ inr e | inr none ↦ absurd none ]
      ]
    ]

pub with_has : {A : Type 0} (same : A → A → Bool) → ((x y : A) → Decides (same x y) (x ≡ y)) → (x y : A) (xs : List A) → Has x xs ⊎ (x ≡ y) → Has x (with_member same xs y)
with_has {A} same decides x y xs h =
    elim (cases_Bool (list_any (same y) xs)) [
      | inl hit ↦ subst (λ (list : List A). Has x list) (sym (cond-true (list_any (same y) xs) xs (xs ++ y ∷ []) hit))
          (elim h as (λ _. Has x xs) [ inl before ↦ before | inr e ↦ subst (λ (z : A). Has z xs) (sym e) (found same decides y xs hit) ])
      | inr miss ↦ subst (λ (list : List A). Has x list) (sym (cond-false (list_any (same y) xs) xs (xs ++ y ∷ []) miss))
          (elim h as (λ _. Has x (xs ++ y ∷ [])) [ inl before ↦ has_left x xs (y ∷ []) before | inr e ↦ has_right x xs (y ∷ []) (inl e) ])
    ]

-- what was seen stays, and each member is there
pub seen_stays : {A : Type 0} (same : A → A → Bool) → ((x y : A) → Decides (same x y) (x ≡ y)) → (x : A) (seen xs : List A) → Has x seen → Has x (with_members same seen xs)
seen_stays same decides x seen [] h = h
seen_stays same decides x seen (y ∷ xs) h = seen_stays same decides x (with_member same seen y) xs (with_has same decides x y seen (inl h))

pub member_stays : {A : Type 0} (same : A → A → Bool) → ((x y : A) → Decides (same x y) (x ≡ y)) → (x : A) (seen xs : List A) → Has x xs → Has x (with_members same seen xs)
member_stays same decides x seen [] h = absurd h
member_stays same decides x seen (y ∷ xs) h =
    elim h [
      | inl e ↦ seen_stays same decides x (with_member same seen y) xs (with_has same decides x y seen (inr e))
      | inr later ↦ member_stays same decides x (with_member same seen y) xs later
    ]

-- one member more, after the others
pub with_members-append : {A : Type 0} (same : A → A → Bool) (x : A) (seen xs : List A) → with_members same seen (xs ++ x ∷ []) ≡ with_member same (with_members same seen xs) x
with_members-append same x seen [] = refl
with_members-append same x seen (y ∷ xs) = with_members-append same x (with_member same seen y) xs

pub has_mapped : {A B : Type 0} (f : A → B) (x : A) (xs : List A) → Has x xs → Has (f x) (map f xs)
has_mapped f x [] h = absurd h
has_mapped f x (y ∷ xs) h = elim h [ inl e ↦ inl (ap f e) | inr later ↦ inr (has_mapped f x xs later) ]

-- a member of a list with more members is one that was seen, or one of these
pub has_members : {A : Type 0} (same : A → A → Bool) → ((x y : A) → Decides (same x y) (x ≡ y)) → (x : A) (seen xs : List A) → Has x (with_members same seen xs) → Has x seen ⊎ Has x xs
has_members same decides x seen [] h = inl h
has_members same decides x seen (y ∷ xs) h =
    elim (has_members same decides x (with_member same seen y) xs h) [
      | inl before ↦ elim (has_with same decides x y seen before) [ inl old ↦ inl old | inr e ↦ inr (inl e) ]
      | inr later ↦ inr (inr later)
    ]

-- one member more, after the others, leaves a set
pub set_more : {A : Type 0} (xs : List A) (x : A) → IsSet xs → ¬ Has x xs → IsSet (xs ++ x ∷ [])
set_more [] x set none = (λ h. h, tt)
set_more (y ∷ xs) x set none = (
  λ h. elim (has_split y xs (x ∷ []) h) [
    | inl before ↦ set.0 before
    | inr last ↦ elim last [ inl e ↦ none (inl (sym e)) | inr never ↦ absurd never ]
  ],
  set_more xs x set.1 (λ h. none (inr h)),
)

pub set_with : {A : Type 0} (same : A → A → Bool) → ((x y : A) → Decides (same x y) (x ≡ y)) → (xs : List A) (x : A) → IsSet xs → IsSet (with_member same xs x)
set_with {A} same decides xs x set =
    elim (cases_Bool (list_any (same x) xs)) [
      | inl hit ↦ subst (λ (list : List A). IsSet list) (sym (cond-true (list_any (same x) xs) xs (xs ++ x ∷ []) hit)) set
      | inr miss ↦ subst (λ (list : List A). IsSet list) (sym (cond-false (list_any (same x) xs) xs (xs ++ x ∷ []) miss))
          (set_more xs x set (λ h. both_ways (list_any (same x) xs) miss (finds same decides x xs h)))
    ]

pub set_members : {A : Type 0} (same : A → A → Bool) → ((x y : A) → Decides (same x y) (x ≡ y)) → (seen xs : List A) → IsSet seen → IsSet (with_members same seen xs)
set_members same decides seen [] set = set
set_members same decides seen (x ∷ xs) set = set_members same decides (with_member same seen x) xs (set_with same decides seen x set)

-- what passes a test is a set, where all are
pub set_passing : {A : Type 0} (test : A → Bool) (xs : List A) → IsSet xs → IsSet (filter test xs)
set_passing test [] set = tt
set_passing {A} test (x ∷ xs) set =
    elim (cases_Bool (test x)) [
      | inl hit ↦ subst (λ (list : List A). IsSet list) (sym (cond-true (test x) (x ∷ filter test xs) (filter test xs) hit))
          (λ h. set.0 (has_passing test x xs h).0, set_passing test xs set.1)
      | inr miss ↦ subst (λ (list : List A). IsSet list) (sym (cond-false (test x) (x ∷ filter test xs) (filter test xs) miss)) (set_passing test xs set.1)
    ]

-- ---- how many members sets have

-- a list without one of its members
drop_one : (x : ℕ) (ys : List ℕ) → Has x ys → (zs : List ℕ) × (length ys ≡ suc (length zs)) × ((y : ℕ) → Has y ys → y ≢ x → Has y zs)
drop_one x [] h = absurd h
drop_one x (y ∷ ys) h =
    elim h [
      | inl e ↦ (ys, refl, λ z m n. elim m [ inl same ↦ absurd (n (same ∙ sym e)) | inr later ↦ later ])
      | inr later ↦
          let rest = drop_one x ys later in
          (y ∷ rest.0, ap suc rest.1, λ z m n. elim m [ inl same ↦ inl same | inr more ↦ inr (rest.2 z more n) ])
    ]

-- a set whose members all are in a list is not longer
pub set_fits : (xs ys : List ℕ) → IsSet xs → ((x : ℕ) → Has x xs → Has x ys) → length xs ≤ length ys
set_fits [] ys set inside = omega arith
set_fits (x ∷ xs) ys set inside =
    let less = drop_one x ys (inside x (inl refl)) in
    let rest : length xs ≤ length less.0 = set_fits xs less.0 set.1 (λ z m. less.2 z (inside z (inr m)) (λ e. set.0 (subst (λ (w : ℕ). Has w xs) e m))) in
    omega (arith, rest, less.1)

-- sets of the same members are equally long
pub same_size : (xs ys : List ℕ) → IsSet xs → IsSet ys → SameMembers xs ys → length xs ≡ length ys
same_size xs ys s t same =
    let one : length xs ≤ length ys = set_fits xs ys s (λ x h. (same x).0 h) in
    let other : length ys ≤ length xs = set_fits ys xs t (λ x h. (same x).1 h) in
    omega arith

-- ---- lists of the same members

pub mapped_has : {A B : Type 0} (f : A → B) (y : B) (xs : List A) → Has y (map f xs) → (x : A) × Has x xs × (y ≡ f x)
mapped_has f y [] h = absurd h
mapped_has f y (x ∷ xs) h =
    elim h [ inl e ↦ (x, inl refl, e) | inr later ↦ let rest = mapped_has f y xs later in (rest.0, inr rest.1, rest.2) ]

-- a test for sameness finds the same in both
pub same_test : {A : Type 0} (same : A → A → Bool) → ((x y : A) → Decides (same x y) (x ≡ y)) → (x : A) (xs ys : List A) → SameMembers xs ys → list_any (same x) xs ≡ list_any (same x) ys
same_test same decides x xs ys alike =
    elim (cases_Bool (list_any (same x) xs)) [
      | inl hit ↦ hit ∙ sym (finds same decides x ys ((alike x).0 (found same decides x xs hit)))
      | inr miss ↦ elim (cases_Bool (list_any (same x) ys)) [
        | inl hit ↦ absurd (both_ways (list_any (same x) xs) miss (finds same decides x xs ((alike x).1 (found same decides x ys hit))))
        | inr none ↦ miss ∙ sym none
      ]
    ]

-- with one member more they still have the same
pub same_with : {A : Type 0} (same : A → A → Bool) → ((x y : A) → Decides (same x y) (x ≡ y)) → (y : A) (xs ys : List A) → SameMembers xs ys → SameMembers (with_member same xs y) (with_member same ys y)
same_with same decides y xs ys alike x = (
  λ h. with_has same decides x y ys (elim (has_with same decides x y xs h) [ inl old ↦ inl ((alike x).0 old) | inr e ↦ inr e ]),
  λ h. with_has same decides x y xs (elim (has_with same decides x y ys h) [ inl old ↦ inl ((alike x).1 old) | inr e ↦ inr e ]),
)

-- so do those that pass a test
pub same_passing : {A : Type 0} (test : A → Bool) (xs ys : List A) → SameMembers xs ys → SameMembers (filter test xs) (filter test ys)
same_passing test xs ys alike x = (
  λ h. let both = has_passing test x xs h in passes test x ys ((alike x).0 both.0) both.1,
  λ h. let both = has_passing test x ys h in passes test x xs ((alike x).1 both.0) both.1,
)

-- and what a function makes of them, each once
pub same_mapped : {A B : Type 0} (f : A → B) (xs ys : List A) → SameMembers xs ys → SameMembers (map f xs) (map f ys)
same_mapped {A} {B} f xs ys alike y = (
  λ h. let hit = mapped_has f y xs h in subst (λ (z : B). Has z (map f ys)) (sym hit.2) (has_mapped f hit.0 ys ((alike hit.0).0 hit.1)),
  λ h. let hit = mapped_has f y ys h in subst (λ (z : B). Has z (map f xs)) (sym hit.2) (has_mapped f hit.0 xs ((alike hit.0).1 hit.1)),
)

pub same_members : {A : Type 0} (same : A → A → Bool) → ((x y : A) → Decides (same x y) (x ≡ y)) → (xs ys : List A) → SameMembers xs ys → SameMembers (with_members same [] xs) (with_members same [] ys)
same_members same decides xs ys alike x = (
  λ h. elim (has_members same decides x [] xs h) [ inl none ↦ absurd none | inr there ↦ member_stays same decides x [] ys ((alike x).0 there) ],
  λ h. elim (has_members same decides x [] ys h) [ inl none ↦ absurd none | inr there ↦ member_stays same decides x [] xs ((alike x).1 there) ],
)
