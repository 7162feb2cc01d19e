-- A component more.
use Rattle.std.proofs.Common.{◌≡◌, ◌⊎◌, inl, inr, ℕ, ◌+◌, ◌<◌, ◌==◌, Bool, true, false, cond, Option, Some, None, IfSome, sym, ◌∙◌, ap, subst, arith, eq-eqb}
use Rattle.std.specs.Prelude.{◌↔◌, is_some}
use Rattle.std.specs.Ordering.{nat_cmp, eq_by_cmp}
use Rattle.std.specs.Cmp.{unsigned_tied}
use Rattle.std.specs.FinMap.{FinMap, get, insert, len, contains_key, get-insert, len-insert}
use Rattle.std.proofs.lemmas.Cmp.{nat_cmp_total}
use Rattle.std.proofs.lemmas.Bool.{cases_Bool}
use Rattle.std.proofs.lemmas.Bool.Decides.{nat_tests}

apart_test : (q n : ℕ) → (q ≡ n → ⊥) → (q == n) ≡ false
apart_test q n other = elim (cases_Bool (q == n)) [ inl same ↦ absurd (other (grind (arith, nat_tests))) | inr not ↦ not ]

same_or_not : (q n : ℕ) → (q ≡ n) ⊎ (q ≡ n → ⊥)
same_or_not q n = elim (cases_Bool (q == n)) [ inl same ↦ inl (grind (arith, nat_tests)) | inr not ↦ inr (λ e. absurd (grind (arith, nat_tests))) ]

module _ {X : Type 0} where
  -- numbered from 0
  abbrev pub AreNumbered : FinMap nat_cmp X → Type 0
  AreNumbered m = (name : ℕ) → is_some (get m name) ≡ true ↔ (name < len m)

  chosen : (b : Bool) (v : X) (o : Option X) (q : ℕ) (m : FinMap nat_cmp X) → eq_by_cmp nat_cmp q (len m) ≡ b → get (insert m (len m) v) q ≡ cond b (Some v) (get m q)
  chosen b v o q m is = get-insert nat_cmp_total m (len m) v q ∙ ap (λ t. cond t (Some v) (get m q)) is

  here : (m : FinMap nat_cmp X) (v : X) (q : ℕ) → q ≡ len m → get (insert m (len m) v) q ≡ Some v
  here m v q is = chosen true v None q m (unsigned_tied q (len m) ∙ eq-eqb q (len m) is)

  apart : (m : FinMap nat_cmp X) (v : X) (q : ℕ) → (q ≡ len m → ⊥) → get (insert m (len m) v) q ≡ get m q
  apart m v q other = chosen false v None q m (unsigned_tied q (len m) ∙ apart_test q (len m) other)

  new_key : (m : FinMap nat_cmp X) → AreNumbered m → contains_key m (len m) ≡ false
  new_key m numbered = elim (cases_Bool (contains_key m (len m))) [ inl has ↦ absurd (let below = (numbered (len m)).0 has in omega (arith, below)) | inr not ↦ not ]

  pub one_more_counted : (m : FinMap nat_cmp X) (v : X) → AreNumbered m → len (insert m (len m) v) ≡ len m + 1
  one_more_counted m v numbered = len-insert nat_cmp_total m (len m) v ∙ ap (λ t. cond t (len m) (len m + 1)) (new_key m numbered)

  pub more_numbered : (m : FinMap nat_cmp X) (v : X) → AreNumbered m → AreNumbered (insert m (len m) v)
  more_numbered m v numbered q =
      let count = one_more_counted m v numbered in
      elim (same_or_not q (len m)) [
        | inl same ↦ ((λ some. omega (arith, same, count)), λ below. ap (λ o. is_some o) (here m v q same))
        | inr other ↦ (
          (λ some. let below = (numbered q).0 (ap (λ o. is_some o) (sym (apart m v q other)) ∙ some) in omega (arith, below, count)),
          (λ below. ap (λ o. is_some o) (apart m v q other) ∙ (numbered q).1 (below_other q (len m) (len (insert m (len m) v)) other count below)),
        )
      ]
    where
      below_other : (q n k : ℕ) → (q ≡ n → ⊥) → k ≡ n + 1 → q < k → q < n
      below_other q n k other is below = elim (cases_Bool (q == n)) [ inl same ↦ absurd (other (grind (arith, nat_tests))) | inr not ↦ grind (arith, nat_tests) ]

  pub more_hold : (P : X → Type 0) (m : FinMap nat_cmp X) (v : X) → ((q : ℕ) → IfSome (get m q) P) → P v → (q : ℕ) → IfSome (get (insert m (len m) v) q) P
  more_hold P m v all new q =
      elim (same_or_not q (len m)) [
        | inl same ↦ subst (λ (o : Option X). IfSome o P) (sym (here m v q same)) new
        | inr other ↦ subst (λ (o : Option X). IfSome o P) (sym (apart m v q other)) (all q)
      ]
