-- The members of lists that are searched, mapped in part, and of the highest of some votes.
use Rattle.rp_machine.specs.Replay.{one_to}
use Rattle.rp_machine.proofs.Numbering.{length-one_to}
use Rattle.rp_base.proofs.Members.{has_left, has_right}
use Rattle.std.proofs.Common.{◌≡◌, ◌≤◌, Bool, true, ◌⊎◌, inl, inr, Option, Some, None, List, [], ◌∷◌, ◌++◌, length, map, refl, sym, ap, subst, ◌∙◌, arith, ℕ, zero, suc}
use Rattle.std.specs.Prelude.{nat_lt, filter_map, find, unwrap_or, slice_get}
use Rattle.std.specs.List.{cons_option}
use Rattle.std.proofs.lemmas.Bool.{cases_Bool, cond-true, cond-false, cases_eq}
use Rattle.rp_base.specs.declared.record.Vote.{Vote}
use Rattle.rp_base.specs.Sets.{Has}
use Rattle.rp_base.specs.Records.{higher_vote, highest}

pub some_same : {A : Type 0} {x y : A} → Some x ≡ Some y → x ≡ y
some_same {A} {x} {y} e = ap (λ (o : Option A). unwrap_or o x) e

-- a member of what a function picks results from one that it picks it from
has_cons_option : {B : Type 0} (y : B) (o : Option B) (ys : List B) → Has y (cons_option o ys) → (o ≡ Some y) ⊎ Has y ys
has_cons_option y None ys h = inr h
has_cons_option y (Some z) ys h = elim h [ inl e ↦ inl (ap Some (sym e)) | inr later ↦ inr later ]

cons_option_has : {B : Type 0} (y : B) (o : Option B) (ys : List B) → (o ≡ Some y) ⊎ Has y ys → Has y (cons_option o ys)
cons_option_has y None ys h = elim h [ inl e ↦ absurd (cc) | inr later ↦ later ]
cons_option_has y (Some z) ys h = elim h [ inl e ↦ inl (sym (some_same e)) | inr later ↦ inr later ]

pub has_picked : {A B : Type 0} (f : A → Option B) (y : B) (xs : List A) → Has y (filter_map f xs) → (x : A) × Has x xs × (f x ≡ Some y)
has_picked f y [] h = absurd h
has_picked f y (x ∷ xs) h =
    elim (has_cons_option y (f x) (filter_map f xs) h) [
      | inl here ↦ (x, inl refl, here)
      | inr later ↦ let rest = has_picked f y xs later in (rest.0, inr rest.1, rest.2)
    ]

pub picked_has : {A B : Type 0} (f : A → Option B) (x : A) (y : B) (xs : List A) → Has x xs → f x ≡ Some y → Has y (filter_map f xs)
picked_has f x y [] h e = absurd h
picked_has f x y (z ∷ xs) h e =
    cons_option_has y (f z) (filter_map f xs)
    (elim h [ inl same ↦ inl (ap f (sym same) ∙ e) | inr later ↦ inr (picked_has f x y xs later e) ])

-- what a search finds is a member, and passes the test
pub found_has : {A : Type 0} (test : A → Bool) (x : A) (xs : List A) → find test xs ≡ Some x → Has x xs × (test x ≡ true)
found_has test x [] e = absurd (cc)
found_has {A} test x (y ∷ xs) e =
    elim (cases_Bool (test y)) [
      | inl hit ↦
          let same : y ≡ x = some_same (sym (cond-true (test y) (Some y) (find test xs) hit) ∙ e) in
          (inl (sym same), subst (λ (z : A). test z ≡ true) same hit)
      | inr miss ↦
          let rest = found_has test x xs (sym (cond-false (test y) (Some y) (find test xs) miss) ∙ e) in
          (inr rest.0, rest.1)
    ]

-- ---- the highest of some votes

one_of_two : (v : Vote) (o : Option Vote) → (higher_vote v o ≡ v) ⊎ (o ≡ Some (higher_vote v o))
one_of_two v None = inl refl
one_of_two v (Some w) =
    elim (cases_Bool (nat_lt v.ballot w.ballot)) [
      | inl lower ↦ inr (ap Some (sym (cond-true (nat_lt v.ballot w.ballot) w v lower)))
      | inr not_lower ↦ inl (cond-false (nat_lt v.ballot w.ballot) w v not_lower)
    ]

-- it is one of them
pub highest_has : (v : Vote) (votes : List Vote) → highest votes ≡ Some v → Has v votes
highest_has v [] e = absurd (cc)
highest_has v (first ∷ rest) e =
    let is : higher_vote first (highest rest) ≡ v = some_same e in
    elim (one_of_two first (highest rest)) [
      | inl same ↦ inl (sym is ∙ same)
      | inr other ↦ inr (highest_has v rest (other ∙ ap Some is))
    ]

higher_covers : (v : Vote) (o : Option Vote) → (v.ballot ≤ (higher_vote v o).ballot) × ((w : Vote) → o ≡ Some w → w.ballot ≤ (higher_vote v o).ballot)
higher_covers v None = (omega arith, λ w e. absurd (cc))
higher_covers v (Some u) = (grind arith, λ w e. subst (λ (z : Vote). z.ballot ≤ (higher_vote v (Some u)).ballot) (some_same e) (grind arith))

-- each of them is in its ballot or a lower one
pub highest_covers : (w : Vote) (votes : List Vote) → Has w votes → (v : Vote) × (highest votes ≡ Some v) × (w.ballot ≤ v.ballot)
highest_covers w [] h = absurd h
highest_covers w (first ∷ rest) h =
    let covers = higher_covers first (highest rest) in
    elim h [
      | inl e ↦ (higher_vote first (highest rest), refl, subst (λ (z : Vote). z.ballot ≤ (higher_vote first (highest rest)).ballot) (sym e) covers.0)
      | inr later ↦
          let below = highest_covers w rest later in
          let less : below.0.ballot ≤ (higher_vote first (highest rest)).ballot = covers.1 below.0 below.1 in
          (higher_vote first (highest rest), refl, omega (arith, below.2, less))
    ]

-- ---- members by their places, and numbers from 1 on

pub has_get : {A : Type 0} (xs : List A) (x : A) → Has x xs → (k : ℕ) × (slice_get xs k ≡ Some x)
has_get [] x h = absurd h
has_get (y ∷ ys) x h =
    elim h [
      | inl same ↦ (0, ap Some (sym same))
      | inr later ↦ let rest = has_get ys x later in (suc rest.0, rest.1)
    ]

pub one_to_has : (n k : ℕ) → 1 ≤ k → k ≤ n → Has k (one_to n)
one_to_has zero k low high = absurd (omega (arith, low, high))
one_to_has (suc n) k low high =
    elim (cases_eq k (suc n)) [
      | inl same ↦ has_right k (one_to n) (suc n ∷ []) (inl same)
      | inr other ↦ has_left k (one_to n) (suc n ∷ []) (one_to_has n k low (omega (arith, high, other)))
    ]

pub get_mapped : {A B : Type 0} (f : A → B) (xs : List A) (k : ℕ) (a : A) → slice_get xs k ≡ Some a → slice_get (map f xs) k ≡ Some (f a)
get_mapped f [] k a e = absurd (cc)
get_mapped {A} f (x ∷ xs) zero a e = ap (λ (o : Option A). Some (f (unwrap_or o x))) e
get_mapped f (x ∷ xs) (suc k) a e = get_mapped f xs k a e

get_after : {A : Type 0} (xs : List A) (y : A) (k : ℕ) (a : A) → slice_get (xs ++ y ∷ []) k ≡ Some a → (slice_get xs k ≡ Some a) ⊎ ((k ≡ length xs) × (a ≡ y))
get_after [] y zero a e = inr (refl, sym (ap (λ (o : Option _). unwrap_or o y) e))
get_after [] y (suc k) a e = absurd (cc)
get_after (x ∷ xs) y zero a e = inl e
get_after (x ∷ xs) y (suc k) a e =
    elim (get_after xs y k a e) [
      | inl before ↦ inl before
      | inr last ↦ inr (ap suc last.0, last.1)
    ]

-- the kth of the numbers from 1 on
pub get_one_to : (n k m : ℕ) → slice_get (one_to n) k ≡ Some m → m ≡ suc k
get_one_to zero k m e = absurd (cc)
get_one_to (suc n) k m e =
    elim (get_after (one_to n) (suc n) k m e) [
      | inl before ↦ get_one_to n k m before
      | inr last ↦ last.1 ∙ ap suc (sym (last.0 ∙ length-one_to n))
    ]

pub get_unmapped : {A B : Type 0} (f : A → B) (xs : List A) (k : ℕ) (b : B) → slice_get (map f xs) k ≡ Some b → (a : A) × (slice_get xs k ≡ Some a) × (b ≡ f a)
get_unmapped f [] k b e = absurd (cc)
get_unmapped f (x ∷ xs) zero b e = (x, refl, sym (ap (λ (o : Option _). unwrap_or o (f x)) e))
get_unmapped f (x ∷ xs) (suc k) b e = get_unmapped f xs k b e
