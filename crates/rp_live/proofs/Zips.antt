-- What is so of two lists, place by place.
use Rattle.std.proofs.Common.{◌≡◌, ℕ, zero, suc, slice_get, List, [], ◌∷◌, ◌++◌, map, sym, ap, subst, ◌∙◌, arith}
use Rattle.std.proofs.lemmas.List.{append_assoc}
use Rattle.std.specs.List.{AllZip}
use Rattle.std.specs.Prelude.{All, IfSome, flat_map}
use Rattle.rp_threads.proofs.Places.{one_more}

-- all but the first
all_rest : {A : Type 0} (Q : A → Type 0) (x : A) (xs : List A) → All Q (x ∷ xs) → All Q xs
all_rest Q x xs all k d within = all (suc k) d (omega (arith, within))

all_one : {A : Type 0} (Q : A → Type 0) (x : A) (xs : List A) → Q x → All Q xs → All Q (x ∷ xs)
all_one Q x xs is all zero d within = is
all_one Q x xs is all (suc k) d within = all k d (omega (arith, within))

pub all_none : {A : Type 0} (Q : A → Type 0) → All Q []
all_none Q k d within = absurd (omega (arith, within))

-- what is so of the first list is carried to the second
pub zip_all : {A B : Type 0} (Q : A → Type 0) (R : A → B → Type 0) (T : B → Type 0) → ((x : A) (y : B) → Q x → R x y → T y)
    → (xs : List A) (ys : List B) → All Q xs → AllZip R xs ys → All T ys
zip_all Q R T so [] [] all zip = all_none T
zip_all Q R T so [] (y ∷ ys) all zip = absurd zip
zip_all Q R T so (x ∷ xs) [] all zip = absurd zip
zip_all Q R T so (x ∷ xs) (y ∷ ys) all zip =
    all_one T y ys (so x y (all 0 x (omega arith)) zip.0) (zip_all Q R T so xs ys (all_rest Q x xs all) zip.1)

-- what is so of both is so of them by what follows
pub zip_so : {A B : Type 0} (R T : A → B → Type 0) → ((x : A) (y : B) → R x y → T x y) → (xs : List A) (ys : List B) → AllZip R xs ys → AllZip T xs ys
zip_so R T so [] [] zip = tt
zip_so R T so [] (y ∷ ys) zip = absurd zip
zip_so R T so (x ∷ xs) [] zip = absurd zip
zip_so R T so (x ∷ xs) (y ∷ ys) zip = (so x y zip.0, zip_so R T so xs ys zip.1)

-- what is so of the first list, place by place, is carried to the second
pub zip_places : {A B : Type 0} (Q : ℕ → A → Type 0) (R : A → B → Type 0) (T : ℕ → B → Type 0) → ((k : ℕ) (x : A) (y : B) → Q k x → R x y → T k y)
    → (xs : List A) (ys : List B) → ((k : ℕ) → IfSome (slice_get xs k) (Q k)) → AllZip R xs ys → (k : ℕ) → IfSome (slice_get ys k) (T k)
zip_places Q R T so [] [] all zip zero = tt
zip_places Q R T so [] [] all zip (suc k) = tt
zip_places Q R T so [] (y ∷ ys) all zip k = absurd zip
zip_places Q R T so (x ∷ xs) [] all zip k = absurd zip
zip_places Q R T so (x ∷ xs) (y ∷ ys) all zip zero = so 0 x y (all zero) zip.0
zip_places Q R T so (x ∷ xs) (y ∷ ys) all zip (suc k) = zip_places (λ j. Q (suc j)) R (λ j. T (suc j)) (λ j. so (suc j)) xs ys (λ j. all (suc j)) zip.1 k

-- each of the first list is of one kind, and what is so of both is so by that kind
pub zip_kinds : {A B L C : Type 0} (f : A → B) (g : A → L) (h : B → L) (R : B → L → C → Type 0) (xs : List A) (ys : List C)
    → All (λ x. g x ≡ h (f x)) xs → AllZip (λ x y. R (f x) (g x) y) xs ys → AllZip (λ z y. R z (h z) y) (map f xs) ys
zip_kinds f g h R [] [] all zip = tt
zip_kinds f g h R [] (y ∷ ys) all zip = absurd zip
zip_kinds f g h R (x ∷ xs) [] all zip = absurd zip
zip_kinds f g h R (x ∷ xs) (y ∷ ys) all zip =
    (subst (λ l. R (f x) l y) (all 0 x (omega arith)) zip.0, zip_kinds f g h R xs ys (all_rest (λ a. g a ≡ h (f a)) x xs all) zip.1)

-- what is so of a mapped list
pub all_unmapped : {A B : Type 0} (Q : B → Type 0) (f : A → B) (xs : List A) → All (λ x. Q (f x)) xs → All Q (map f xs)
all_unmapped Q f [] all = all_none Q
all_unmapped Q f (x ∷ xs) all = all_one Q (f x) (map f xs) (all 0 x (omega arith)) (all_unmapped Q f xs (all_rest (λ a. Q (f a)) x xs all))

pub all_both : {A : Type 0} (Q R T : A → Type 0) → ((x : A) → Q x → R x → T x) → (xs : List A) → All Q xs → All R xs → All T xs
all_both Q R T so [] q r = all_none T
all_both Q R T so (x ∷ xs) q r = all_one T x xs (so x (q 0 x (omega arith)) (r 0 x (omega arith))) (all_both Q R T so xs (all_rest Q x xs q) (all_rest R x xs r))

-- one more of the list was gone through
pub one_ended : {A : Type 0} (Q : A → Type 0) (rest : List A) (x : A) (left : List A) → rest ≡ x ∷ left → Q x → All Q left → All Q rest
one_ended Q rest x left steps is all = subst (All Q) (sym steps) (all_one Q x left is all)

-- it is in the list of what was taken
pub one_mapped : {A B : Type 0} (f : A → B) (rest left : List A) (x : A) (taken grown all : List B) (y : B) → grown ≡ taken ++ y ∷ [] → y ≡ f x → rest ≡ x ∷ left → taken ++ map f rest ≡ all
    → grown ++ map f left ≡ all
one_mapped f rest left x taken grown all y is same steps so_far =
    ap (λ l. l ++ map f left) is ∙ append_assoc taken (y ∷ []) (map f left) ∙ ap (λ z. taken ++ z ∷ map f left) same ∙ ap (λ l. taken ++ map f l) (sym steps) ∙ so_far

pub one_flat : {A B : Type 0} (f : A → List B) (rest left : List A) (x : A) (taken grown all ys : List B) → grown ≡ taken ++ ys → ys ≡ f x → rest ≡ x ∷ left → taken ++ flat_map f rest ≡ all
    → grown ++ flat_map f left ≡ all
one_flat f rest left x taken grown all ys is same steps so_far =
    ap (λ l. l ++ flat_map f left) is ∙ append_assoc taken ys (flat_map f left) ∙ ap (λ l. taken ++ (l ++ flat_map f left)) same ∙ ap (λ l. taken ++ flat_map f l) (sym steps) ∙ so_far

-- ---- two lists that grow together

pub none_zip : {A B : Type 0} (R : A → B → Type 0) (xs : List A) (ys : List B) → xs ≡ [] → ys ≡ [] → AllZip R xs ys
none_zip R xs ys none_x none_y = subst (λ l. AllZip R l ys) (sym none_x) (subst (AllZip R []) (sym none_y) tt)

pub grown_zip : {A B : Type 0} (R : A → B → Type 0) (xs xs' : List A) (ys ys' : List B) (x : A) (y : B) → xs' ≡ xs ++ x ∷ [] → ys' ≡ ys ++ y ∷ [] → AllZip R xs ys → R x y
    → AllZip R xs' ys'
grown_zip R xs xs' ys ys' x y more_x more_y all fits =
    subst (λ l. AllZip R l ys') (sym more_x) (subst (AllZip R (xs ++ x ∷ [])) (sym more_y) (one_more R xs ys x y all fits))
