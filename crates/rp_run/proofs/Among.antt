-- Which numbers lie from one to another.
use Rattle.std.proofs.Common.{◌≡◌, ℕ, zero, suc, ◌≤◌, Bool, true, false, cond, ◌&&◌, ◌||◌, List, [], ◌∷◌, ◌++◌, arith, refl, ap, ◌∙◌}
use Rattle.std.specs.Prelude.{filter, nat_eq, nat_le}
use Rattle.std.proofs.lemmas.List.Folds.{list_any-append}
use Rattle.std.proofs.lemmas.Bool.Decides.{nat_tests}
use Rattle.rp_model.specs.rp_machine.specs.Replay.{one_to}
use Rattle.rp_run.specs.Output.{is_among, from_to}

pub filter-following : (test : ℕ → Bool) (xs : List ℕ) (x : ℕ) → filter test (xs ++ x ∷ []) ≡ filter test xs ++ cond (test x) (x ∷ []) []
filter-following test [] x = at (test x)
  where
    at : (b : Bool) → cond b (x ∷ []) [] ≡ cond b (x ∷ []) []
    at b = refl
filter-following test (y ∷ ys) x = at (test y) (filter-following test ys x)
  where
    at : (b : Bool) → filter test (ys ++ x ∷ []) ≡ filter test ys ++ cond (test x) (x ∷ []) []
        → cond b (y ∷ filter test (ys ++ x ∷ [])) (filter test (ys ++ x ∷ [])) ≡ cond b (y ∷ filter test ys) (filter test ys) ++ cond (test x) (x ∷ []) []
    at true e = ap (λ l. y ∷ l) e
    at false e = e

one_among : (first n m : ℕ) (b : Bool) → nat_le first (suc n) ≡ b → is_among (cond b (suc n ∷ []) []) m ≡ (b && nat_eq m (suc n))
one_among first n m true e = grind (arith, nat_tests)
one_among first n m false e = refl

-- the numbers from the first to the last are those that are neither less nor more
pub among_from_to : (first last m : ℕ) → 1 ≤ first → is_among (from_to first last) m ≡ (nat_le first m && nat_le m last)
among_from_to first zero m one = grind (arith, nat_tests)
among_from_to first (suc n) m one =
    let before = among_from_to first n m one in
    let here = one_among first n m (nat_le first (suc n)) refl in
    let parts : is_among (from_to first (suc n)) m ≡ (is_among (from_to first n) m || is_among (cond (nat_le first (suc n)) (suc n ∷ []) []) m) =
    ap (λ l. is_among l m) (filter-following (nat_le first) (one_to n) (suc n)) ∙ list_any-append (nat_eq m) (filter (nat_le first) (one_to n)) (cond (nat_le first (suc n)) (suc n ∷ []) []) in
    grind (arith, nat_tests, before, here, parts)
