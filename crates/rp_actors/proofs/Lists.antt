-- Lists in which one element was changed.
use Rattle.std.proofs.Common.{◌≡◌, ℕ, zero, suc, ◌<◌, Some, List, [], ◌∷◌, length, map, slice_get, slice_set, option_map, refl, sym, ap, ◌∙◌, arith}
use Rattle.std.specs.Prelude.{IfSome, insert, remove, get_or}
use Rattle.std.proofs.lemmas.Option.{slice_get-get_or}
use Rattle.rp_model.specs.World.{with_part}

pub get_map : {A B : Type 0} (f : A → B) (xs : List A) (i : ℕ) → slice_get (map f xs) i ≡ option_map f (slice_get xs i)
get_map {A = A} {B = B} f [] i = refl
get_map {A = A} {B = B} f (x ∷ xs) zero = refl
get_map {A = A} {B = B} f (x ∷ xs) (suc i) = get_map f xs i

pub set_map : {A B : Type 0} (f : A → B) (xs : List A) (i : ℕ) (x : A) → map f (slice_set xs i x) ≡ slice_set (map f xs) i (f x)
set_map {A = A} {B = B} f [] i x = refl
set_map {A = A} {B = B} f (y ∷ xs) zero x = refl
set_map {A = A} {B = B} f (y ∷ xs) (suc i) x = ap (λ (l : List B). f y ∷ l) (set_map f xs i x)

pub length_set : {A : Type 0} (xs : List A) (i : ℕ) (x : A) → length (slice_set xs i x) ≡ length xs
length_set {A = A} [] i x = refl
length_set {A = A} (y ∷ xs) zero x = refl
length_set {A = A} (y ∷ xs) (suc i) x = ap suc (length_set xs i x)

pub set_keeps : {A : Type 0} (P : ℕ → A → Type 0) (xs : List A) (i : ℕ) (x : A) → ((k : ℕ) → IfSome (slice_get xs k) (P k)) → P i x → (k : ℕ) → IfSome (slice_get (slice_set xs i x) k) (P k)
set_keeps {A = A} P [] i x all is k = all k
set_keeps {A = A} P (y ∷ xs) zero x all is zero = is
set_keeps {A = A} P (y ∷ xs) zero x all is (suc k) = all (suc k)
set_keeps {A = A} P (y ∷ xs) (suc i) x all is zero = all zero
set_keeps {A = A} P (y ∷ xs) (suc i) x all is (suc k) = set_keeps (λ j. P (suc j)) xs i x (λ j. all (suc j)) is k

pub set_same : {A : Type 0} (xs : List A) (i : ℕ) (x : A) → slice_get xs i ≡ Some x → slice_set xs i x ≡ xs
set_same {A = A} [] i x here = refl
set_same {A = A} (y ∷ xs) zero x here = let same : y ≡ x = cc in ap (λ (z : A). z ∷ xs) (sym same)
set_same {A = A} (y ∷ xs) (suc i) x here = ap (λ (rest : List A). y ∷ rest) (set_same xs i x here)

pub part_same : {A : Type 0} (xs : List A) (i : ℕ) (x : A) → slice_get xs i ≡ Some x → with_part xs (suc i) x ≡ xs
part_same xs i x here = set_same xs i x here

-- one that was taken from its place and put back there changed
pub put_back : {A : Type 0} (xs : List A) (i : ℕ) (x : A) → i < length xs → insert (remove xs i) i x ≡ slice_set xs i x
put_back {A = A} [] i x within = absurd (omega arith)
put_back {A = A} (y ∷ xs) zero x within = refl
put_back {A = A} (y ∷ xs) (suc i) x within = ap (λ (l : List A). y ∷ l) (put_back xs i x (omega (arith, within)))

-- what is at a place
pub here_of : {A : Type 0} (xs : List A) (i : ℕ) (x : A) → i < length xs → x ≡ get_or xs i x → slice_get xs i ≡ Some x
here_of xs i x within is = slice_get-get_or xs i x within ∙ ap (λ y. Some y) (sym is)
