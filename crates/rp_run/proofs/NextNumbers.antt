-- A stored number that is moved on, past numbers that are passed.
use Rattle.std.proofs.Common.{◌≡◌, ℕ, ◌<◌, ◌≤◌, Bool, true, false, List, length, arith, refl, ◌∙◌, slice_set}
use Rattle.std.specs.Prelude.{nat_eq}
use Rattle.std.proofs.lemmas.Bool.Decides.{nat_tests}
use Rattle.std.proofs.lemmas.Grind.{common_steps}
use Rattle.std.proofs.lemmas.List.{get_or-set_same}
use Rattle.rp_run.specs.NextNumbers.{next_of, is_passed, LeadsOn}

module _ (xs : List ℕ) (i v : ℕ) (low : i < length xs) (later : i < next_of xs i) (further : next_of xs i ≤ v) (bound : v ≤ length xs)
    (between : (k : ℕ) → i ≤ k → k < v → is_passed xs k ≡ true) where
  here : next_of (slice_set xs i v) i ≡ v
  here = get_or-set_same xs i v i low

  -- no number is passed that was not, and none is not that was
  pub moved_same : (m : ℕ) → is_passed (slice_set xs i v) m ≡ is_passed xs m
  moved_same m = at (nat_eq m i) refl
    where
      at : (b : Bool) → nat_eq m i ≡ b → is_passed (slice_set xs i v) m ≡ is_passed xs m
      at true e = grind (arith, nat_tests, common_steps, here, e)
      at false e = grind (arith, nat_tests, common_steps, e)

  pub moved_leads : (least : ℕ) → LeadsOn least xs → LeadsOn least (slice_set xs i v)
  moved_leads least leads = record {
    within = λ m from after. at_within m from (nat_eq m i) refl after;
    passed = λ m k from above below. moved_same k ∙ at_passed m k from above (nat_eq m i) refl below;
  }
    where
      at_within : (m : ℕ) → least ≤ m → (b : Bool) → nat_eq m i ≡ b → m < next_of (slice_set xs i v) m → next_of (slice_set xs i v) m ≤ length (slice_set xs i v)
      at_within m from true e after = grind (arith, nat_tests, common_steps, here, e)
      at_within m from false e after = grind (arith, nat_tests, common_steps, e, leads.within m from)

      at_passed : (m k : ℕ) → least ≤ m → m ≤ k → (b : Bool) → nat_eq m i ≡ b → k < next_of (slice_set xs i v) m → is_passed xs k ≡ true
      at_passed m k from above true e below = between k (grind (arith, nat_tests, e)) (grind (arith, nat_tests, common_steps, here, e))
      at_passed m k from above false e below = leads.passed m k from above (grind (arith, nat_tests, common_steps, e))
