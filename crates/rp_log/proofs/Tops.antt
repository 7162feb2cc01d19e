-- The greatest position learned.
use Rattle.std.proofs.Common.{◌≡◌, ◌<◌, ◌≤◌, ℕ, Bool, Option, Some, None, List, IsSome, refl, subst, sym, arith}
use Rattle.std.proofs.Math.Logic.{⊎_elim}
use Rattle.std.proofs.lemmas.Bool.{cases_lt}
use Rattle.std.specs.Prelude.{IfSome, IfNone, ◌↔◌}
use Rattle.rp_base.specs.declared.action.Action.{Action}
use Rattle.rp_base.specs.Number.{IsPosition}
use Rattle.rp_log.specs.Contents.{Contents, IsLearned}
use Rattle.rp_log.specs.Holding.{Ahead, Fits}
use Rattle.rp_log.proofs.Views.{seen, action_is, not_zero}

module _ {front : List Action} {reserved : Bool} {ahead : Ahead} {capacity taken top : ℕ}
    (fits : Fits front reserved ahead capacity taken top) (log : Contents) (view : seen front reserved ahead taken ≡ log) where
  -- what is learned is at most the greatest
  pub top_bound : (i : ℕ) → IsLearned log i → i ≤ top
  top_bound i there =
      let inside : IsLearned (seen front reserved ahead taken) i = subst (λ (l : Contents). IsLearned l i) (sym view) there in
      fits.none_above i (subst (λ (found : Option Action). IsSome found) (action_is front reserved ahead taken i) inside)

  -- which is learned
  pub top_there : 0 < top → IsLearned log top
  top_there positive =
      let inside = fits.top_learned positive in
      let seen_there : IsLearned (seen front reserved ahead taken) top = subst (λ (found : Option Action). IsSome found) (sym (action_is front reserved ahead taken top)) inside in
      subst (λ (l : Contents). IsLearned l top) view seen_there

  -- or nothing is
  pub top_zero : top ≡ 0 → (i : ℕ) → IsLearned log i → ⊥
  top_zero none i there =
      let zero_is : i ≡ 0 = omega (arith, top_bound i there) in
      let inside : IsLearned (seen front reserved ahead taken) 0 = subst (λ (n : ℕ). IsLearned (seen front reserved ahead taken) n) zero_is (subst (λ (l : Contents). IsLearned l i) (sym view) there) in
      not_zero front reserved ahead taken fits.following inside

-- it is a position, or 0
pub fits_bound : {front : List Action} {reserved : Bool} {ahead : Ahead} {capacity taken top : ℕ} → Fits front reserved ahead capacity taken top → top ≤ 65535
fits_bound fits = fits.top_bound

pub top_some : (result : Option ℕ) (top : ℕ) (P : ℕ → Type 0) → (IsSome result ↔ IsPosition top) → IfSome result (λ p. p ≡ top) → (0 < top → P top) → IfSome result P
top_some None top P valid value holds = tt
top_some (Some p) top P valid value holds =
    let position = valid.0 refl in
    subst P (sym value) (holds (omega (arith, position)))

pub top_none : (result : Option ℕ) (top : ℕ) (P : Type 0) → (IsSome result ↔ IsPosition top) → (top ≡ 0 → P) → top ≤ 65535 → IfNone result P
top_none (Some p) top P valid holds bound = tt
top_none None top P valid holds bound = ⊎_elim
    (λ (positive : 0 < top). let some = valid.1 (omega arith, omega (arith, bound)) in absurd cc)
    (λ (none : top ≤ 0). holds (omega arith))
    (cases_lt 0 top)
