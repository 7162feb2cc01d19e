-- Lists in another order.
use Rattle.std.proofs.Common.{◌≡◌, ◌⊎◌, inl, inr, suc, List, [], ◌∷◌, ◌++◌, length, map, refl, sym, ◌∙◌, ap, subst}
use Rattle.rp_base.specs.Sets.{Has, IsSet}

-- the one list is the other in another order
pub data Perm {A : Type 0} : List A → List A → Type 0 where
  same : {xs : List A} → Perm xs xs
  following : {x : A} {xs ys : List A} → Perm xs ys → Perm (x ∷ xs) (x ∷ ys)
  swap : {x y : A} {xs : List A} → Perm (x ∷ y ∷ xs) (y ∷ x ∷ xs)
  chain : {xs ys zs : List A} → Perm xs ys → Perm ys zs → Perm xs zs

pub permuted : {A : Type 0} {xs ys : List A} → xs ≡ ys → Perm xs ys
permuted {A} {xs} e = subst (Perm xs) e same

pub length_permuted : {A : Type 0} {xs ys : List A} → Perm xs ys → length xs ≡ length ys
length_permuted same = refl
length_permuted (following p) = ap suc (length_permuted p)
length_permuted swap = refl
length_permuted (chain p q) = length_permuted p ∙ length_permuted q

-- what is made of each, in another order
pub mapped_permuted : {A B : Type 0} (f : A → B) {xs ys : List A} → Perm xs ys → Perm (map f xs) (map f ys)
mapped_permuted f same = same
mapped_permuted f (following p) = following (mapped_permuted f p)
mapped_permuted f swap = swap
mapped_permuted f (chain p q) = chain (mapped_permuted f p) (mapped_permuted f q)

pub has_permuted : {A : Type 0} (x : A) {xs ys : List A} → Perm xs ys → Has x xs → Has x ys
has_permuted x same h = h
has_permuted x (following p) (inl e) = inl e
has_permuted x (following p) (inr h) = inr (has_permuted x p h)
has_permuted x swap (inl e) = inr (inl e)
has_permuted x swap (inr (inl e)) = inl e
has_permuted x swap (inr (inr h)) = inr (inr h)
has_permuted x (chain p q) h = has_permuted x q (has_permuted x p h)

pub back : {A : Type 0} {xs ys : List A} → Perm xs ys → Perm ys xs
back same = same
back (following p) = following (back p)
back swap = swap
back (chain p q) = chain (back q) (back p)

pub set_permuted : {A : Type 0} {xs ys : List A} → Perm xs ys → IsSet xs → IsSet ys
set_permuted same s = s
set_permuted (following {x = x} p) s = ((λ h. s.0 (has_permuted x (back p) h)), set_permuted p s.1)
set_permuted (swap {x = x} {y = y} {xs = xs}) s = (apart s, ((λ h. s.0 (inr h)), s.1.1)) where
  apart : IsSet (x ∷ y ∷ xs) → ¬ Has y (x ∷ xs)
  apart s (inl e) = s.0 (inl (sym e))
  apart s (inr h) = s.1.0 h
set_permuted (chain p q) s = set_permuted q (set_permuted p s)

-- the same list in front
pub in_front : {A : Type 0} (xs : List A) {ys zs : List A} → Perm ys zs → Perm (xs ++ ys) (xs ++ zs)
in_front [] p = p
in_front (x ∷ xs) p = following (in_front xs p)

-- the same list at the end
pub at_end : {A : Type 0} {xs ys : List A} (zs : List A) → Perm xs ys → Perm (xs ++ zs) (ys ++ zs)
at_end zs same = same
at_end zs (following p) = following (at_end zs p)
at_end zs swap = swap
at_end zs (chain p q) = chain (at_end zs p) (at_end zs q)

-- one moves to the front
pub one_first : {A : Type 0} (xs : List A) (y : A) (ys : List A) → Perm (xs ++ y ∷ ys) (y ∷ (xs ++ ys))
one_first [] y ys = same
one_first (x ∷ xs) y ys = chain (following (one_first xs y ys)) swap

-- some move to the front
pub some_first : {A : Type 0} (xs ys zs : List A) → Perm (xs ++ (ys ++ zs)) (ys ++ (xs ++ zs))
some_first xs [] zs = same
some_first xs (y ∷ ys) zs = chain (one_first xs y (ys ++ zs)) (following (some_first xs ys zs))

-- members of either
pub has_left : {A : Type 0} (x : A) (xs ys : List A) → Has x xs → Has x (xs ++ ys)
has_left x [] ys h = absurd h
has_left x (z ∷ xs) ys (inl e) = inl e
has_left x (z ∷ xs) ys (inr h) = inr (has_left x xs ys h)

pub has_right : {A : Type 0} (x : A) (xs ys : List A) → Has x ys → Has x (xs ++ ys)
has_right x [] ys h = h
has_right x (z ∷ xs) ys h = inr (has_right x xs ys h)

pub has_either : {A : Type 0} (x : A) (xs ys : List A) → Has x (xs ++ ys) → Has x xs ⊎ Has x ys
has_either x [] ys h = inr h
has_either x (z ∷ xs) ys (inl e) = inl (inl e)
has_either x (z ∷ xs) ys (inr h) = either (has_either x xs ys h) where
  either : Has x xs ⊎ Has x ys → Has x (z ∷ xs) ⊎ Has x ys
  either (inl l) = inl (inr l)
  either (inr r) = inr r

-- a set in two parts
pub set_left : {A : Type 0} (xs ys : List A) → IsSet (xs ++ ys) → IsSet xs
set_left [] ys s = tt
set_left (x ∷ xs) ys s = ((λ h. s.0 (has_left x xs ys h)), set_left xs ys s.1)

pub apart : {A : Type 0} (x : A) (xs ys : List A) → IsSet (xs ++ ys) → Has x xs → ¬ Has x ys
apart x [] ys s h r = h
apart x (z ∷ xs) ys s (inl e) r = s.0 (subst (λ y. Has y (xs ++ ys)) e (has_right x xs ys r))
apart x (z ∷ xs) ys s (inr h) r = apart x xs ys s.1 h r
