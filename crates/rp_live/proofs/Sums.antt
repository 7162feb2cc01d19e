-- A sum over the ends of loops, as a fold over them.
use Rattle.std.proofs.Common.{◌≡◌, ℕ, ◌+◌, ◌≤◌, min, max, map, List, [], ◌∷◌, refl, arith}
use Rattle.std.specs.List.{fold}
use Rattle.rp_live.specs.Figures.{sum_from, greatest_from}

pub sum_folded : {A : Type 0} (f : A → ℕ) (sum : ℕ) (xs : List A) → fold (λ a x. min (a + f x) 18446744073709551615) sum xs ≡ sum_from sum (map f xs)
sum_folded f sum [] = refl
sum_folded f sum (x ∷ xs) = sum_folded f (min (sum + f x) 18446744073709551615) xs

pub greatest_folded : {A : Type 0} (f : A → ℕ) (n : ℕ) (xs : List A) → fold (λ a x. max a (f x)) n xs ≡ greatest_from n (map f xs)
greatest_folded f n [] = refl
greatest_folded f n (x ∷ xs) = greatest_folded f (max n (f x)) xs

-- what is added first, and what is added after it
pub sum_apart : (a : ℕ) (xs : List ℕ) → a ≤ 18446744073709551615 → sum_from a xs ≡ min (a + sum_from 0 xs) 18446744073709551615
sum_apart a [] few = omega (arith, few)
sum_apart a (n ∷ xs) few =
    let first = sum_apart (min (a + n) 18446744073709551615) xs (omega arith) in
    let rest = sum_apart (min (0 + n) 18446744073709551615) xs (omega arith) in
    omega (arith, first, rest)
