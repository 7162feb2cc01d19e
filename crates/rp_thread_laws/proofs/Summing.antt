-- Sums that stay within 64 bits, and the greatest of some numbers.
use Rattle.std.proofs.Common.{◌≡◌, ℕ, zero, suc, ◌+◌, ◌<◌, ◌≤◌, min, max, map, List, [], ◌∷◌, length, slice_index_or, inl, inr, refl, sym, ap, ◌∙◌, arith, length-append}
use Rattle.std.specs.Prelude.{flat_map}
use Rattle.std.specs.List.{sum_by}
use Rattle.std.proofs.lemmas.Bool.{cases_lt}
use Rattle.std.proofs.lemmas.List.Sums.{sum_by-cons}
use Rattle.rp_threads.specs.rp_base.specs.Sets.{Has}
use Rattle.rp_live.specs.Figures.{sum_from, greatest_from}

module _ {A : Type 0} (f : A → ℕ) where
  pub summed : (sum : ℕ) (xs : List A) → sum ≤ 18446744073709551615 → sum_from sum (map f xs) ≡ min (sum + sum_by f xs) 18446744073709551615
  summed sum [] few = omega (arith, few)
  summed sum (x ∷ xs) few = let rest = summed (min (sum + f x) 18446744073709551615) xs (omega arith) in omega (arith, rest, sum_by-cons f x xs)

  pub from_none : (xs : List A) → sum_from 0 (map f xs) ≡ min (sum_by f xs) 18446744073709551615
  from_none xs = let all = summed 0 xs (omega arith) in omega (arith, all)

  pub at_least : (n : ℕ) (xs : List A) → n ≤ greatest_from n (map f xs)
  at_least n [] = omega arith
  at_least n (x ∷ xs) = let rest = at_least (max n (f x)) xs in omega (arith, rest)

  pub no_greater : (n : ℕ) (xs : List A) → (k : ℕ) (d : A) → k < length xs → f (slice_index_or xs k d) ≤ greatest_from n (map f xs)
  no_greater n [] k d within = absurd (omega (arith, within))
  no_greater n (x ∷ xs) zero d within = let rest = at_least (max n (f x)) xs in omega (arith, rest)
  no_greater n (x ∷ xs) (suc k) d within = no_greater (max n (f x)) xs k d (omega (arith, within))

  -- An element has the greatest number.
  pub record Greatest (n : ℕ) (xs : List A) : Type 0 where
    pub item : A
    pub among : Has item xs
    pub is : f item ≡ n

  pub greatest_is : (n : ℕ) (xs : List A) → n < greatest_from n (map f xs) → Greatest (greatest_from n (map f xs)) xs
  greatest_is n [] more = absurd (omega (arith, more))
  greatest_is n (x ∷ xs) more =
      elim (cases_lt (max n (f x)) (greatest_from (max n (f x)) (map f xs))) [
        | inl later ↦ let rest = greatest_is (max n (f x)) xs later in record { item = rest.item; among = inr rest.among; is = rest.is }
        | inr first ↦ let low = at_least (max n (f x)) xs in record { item = x; among = inl refl; is = omega (arith, first, low, more) }
      ]

-- how many replies there are
pub flat_length : {A B : Type 0} (f : A → List B) (xs : List A) → length (flat_map f xs) ≡ sum_by (λ x. length (f x)) xs
flat_length f [] = refl
flat_length f (x ∷ xs) = length-append (f x) (flat_map f xs) ∙ ap (λ n. length (f x) + n) (flat_length f xs) ∙ sym (sum_by-cons (λ y. length (f y)) x xs)

pub both_summed : {A B : Type 0} (f : A → ℕ) (g : B → ℕ) (xs : List A) (ys : List B)
    → sum_from (sum_from 0 (map f xs)) (map g ys) ≡ min (sum_by f xs + sum_by g ys) 18446744073709551615
both_summed f g xs ys =
    ap (λ sum. sum_from sum (map g ys)) (from_none f xs)
    ∙ summed g (min (sum_by f xs) 18446744073709551615) ys (omega arith)
    ∙ omega arith
