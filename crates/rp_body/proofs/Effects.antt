-- What an `if` does, where the code has run one of its arms.
use Rattle.std.proofs.Common.{◌≡◌, ℤ, Bool, true, false, cond, List, Vec, Global, sym, ◌∙◌, ap, ap₂, FitsSigned, w64}
use Rattle.std.proofs.lemmas.Int.{to_z-of_z}
use Rattle.rp_body.specs.declared.expression.Cond.{Cond}
use Rattle.rp_body.specs.declared.statement.Stmt.{Stmt}
use Rattle.rp_body.specs.declared.statement.Stmt.TheOpen.{Stmt-F}
use Rattle.rp_body.specs.declared.statement.Stmt.TheVariants.{If, rolls-If}
use Rattle.rp_body.specs.declared.statement.Stmt.TheFolds.{fold-roll-Stmt}
use Rattle.rp_body.specs.declared.statement.Outcome.{Outcome}
use Rattle.rp_body.specs.Store.{Store}
use Rattle.rp_body.specs.Expressions.{truth_of}
use Rattle.rp_body.specs.Meaning.{Effect, effect_of_step, effect_of, effects_of}
use Rattle.rp_body.proofs.Passing.{passed}

effect-If : (arg : ℤ) (test : Cond) (first second : Vec Stmt Global) (store : Store) (out : ℤ) → effect_of arg (If test first second) store out ≡ cond (truth_of test store arg out) (effects_of arg first.items store out) (effects_of arg second.items store out)
effect-If arg test first second store out =
    ap (λ (s : Stmt). effect_of arg s store out) (sym (rolls-If test first second))
    ∙ ap (λ (e : Effect). e store out) (fold-roll-Stmt Effect (effect_of_step arg) (Stmt-F.If test first second))

-- the code has run these statements for an `if`, whose condition had this truth
pub record Ran (arg out : ℤ) (statement : Stmt) (store : Store) (test : Cond) (first second : Vec Stmt Global) (truth : Bool) (arm : List Stmt) (ended : Store × Outcome) : Type 0 where
  pub arg_fits : FitsSigned w64 arg
  pub out_fits : FitsSigned w64 out
  pub is_if : statement ≡ If test first second
  pub tested : truth ≡ truth_of test store (passed arg) (passed out)
  pub run : ended ≡ effects_of (passed arg) arm store (passed out)

module _ {arg out : ℤ} {statement : Stmt} {store : Store} {test : Cond} {first second : Vec Stmt Global} {truth : Bool} {arm : List Stmt} {ended : Store × Outcome} (r : Ran arg out statement store test first second truth arm ended) where
  ran_arm : ended ≡ effects_of arg arm store out
  ran_arm = r.run ∙ ap₂ (λ a o. effects_of a arm store o) (to_z-of_z w64 arg r.arg_fits) (to_z-of_z w64 out r.out_fits)

  was : truth ≡ truth_of test store arg out
  was = r.tested ∙ ap₂ (λ a o. truth_of test store a o) (to_z-of_z w64 arg r.arg_fits) (to_z-of_z w64 out r.out_fits)

  meant : effect_of arg statement store out ≡ cond truth (effects_of arg first.items store out) (effects_of arg second.items store out)
  meant =
      ap (λ (s : Stmt). effect_of arg s store out) r.is_if ∙ effect-If arg test first second store out
      ∙ ap (λ b. cond b (effects_of arg first.items store out) (effects_of arg second.items store out)) (sym was)

  pub ran_first : truth ≡ true → arm ≡ first.items → ended ≡ effect_of arg statement store out
  ran_first holds same =
      ran_arm ∙ ap (λ b. effects_of arg b store out) same
      ∙ sym (meant ∙ ap (λ b. cond b (effects_of arg first.items store out) (effects_of arg second.items store out)) holds)

  pub ran_second : truth ≡ false → arm ≡ second.items → ended ≡ effect_of arg statement store out
  ran_second fails same =
      ran_arm ∙ ap (λ b. effects_of arg b store out) same
      ∙ sym (meant ∙ ap (λ b. cond b (effects_of arg first.items store out) (effects_of arg second.items store out)) fails)
