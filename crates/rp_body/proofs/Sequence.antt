-- The loop that runs statements in order: what is left to do gives what the whole body does.
use Rattle.std.proofs.Common.{◌≡◌, ◌≤◌, ◌<◌, ◌+◌, ℕ, ℤ, ◌&&◌, true, List, ◌∷◌, map, length, get_or, drop, refl, sym, ◌∙◌, ap, ap₂, IsTrue, FitsSigned, w64}
use Rattle.std.proofs.lemmas.Bool.{and_parts}
use Rattle.std.proofs.lemmas.Int.{to_z-of_z}
use Rattle.std.proofs.lemmas.List.{drop_more, drop_all}
use Rattle.rp_body.specs.declared.components.Limits.{Limits}
use Rattle.rp_body.specs.declared.statement.Stmt.{Stmt}
use Rattle.rp_body.specs.declared.statement.Outcome.{Outcome}
use Rattle.rp_body.specs.declared.statement.Outcome.TheVariants.{Out, Raised}
use Rattle.rp_body.specs.Store.{Store, limits_of}
use Rattle.rp_body.specs.Check.{all_hold, stmt_fits, body_fits}
use Rattle.rp_body.specs.Meaning.{then_do, effect_of, effects_of}
use Rattle.rp_body.proofs.Passing.{passed}

-- the code has come to the statement at k, with these components and this out value
pub record Reached (arg start : ℤ) (body : List Stmt) (store : Store) (k : ℕ) (here : Store) (out : ℤ) : Type 0 where
  pub arg_fits : FitsSigned w64 arg
  pub start_fits : FitsSigned w64 start
  pub so_far : effects_of (passed arg) body store (passed start) ≡ effects_of (passed arg) (drop k body) here out

module _ {arg start : ℤ} {body : List Stmt} {store : Store} {k : ℕ} {here : Store} {out : ℤ} (r : Reached arg start body store k here out) where
  whole : effects_of arg body store start ≡ effects_of (passed arg) (drop k body) here out
  whole = ap₂ (λ a s. effects_of a body store s) (sym (to_z-of_z w64 arg r.arg_fits)) (sym (to_z-of_z w64 start r.start_fits)) ∙ r.so_far

  pub ended : length body ≤ k → (here, Out out) ≡ effects_of arg body store start
  ended past = sym (whole ∙ ap (λ rest. effects_of (passed arg) rest here out) (drop_all k body past))

  module _ (statement : Stmt) (next : Store) (outcome : Outcome) (within : k < length body) (is : statement ≡ get_or body k statement) (ran : (next, outcome) ≡ effect_of (passed arg) statement here out) where
    stepped : effects_of (passed arg) (drop k body) here out ≡ then_do (next, outcome) (effects_of (passed arg) (drop (k + 1) body))
    stepped =
        ap (λ rest. effects_of (passed arg) rest here out) (drop_more body k statement within)
        ∙ ap (λ s. then_do (effect_of (passed arg) s here out) (effects_of (passed arg) (drop (k + 1) body))) (sym is)
        ∙ ap (λ e. then_do e (effects_of (passed arg) (drop (k + 1) body))) (sym ran)

    pub raised : outcome ≡ Raised → (next, Raised) ≡ effects_of arg body store start
    raised e = sym (whole ∙ stepped ∙ ap (λ o. then_do (next, o) (effects_of (passed arg) (drop (k + 1) body))) e)

    pub goes_on : (more : ℤ) → FitsSigned w64 more → outcome ≡ Out more → effects_of (passed arg) body store (passed start) ≡ effects_of (passed arg) (drop (k + 1) body) next (passed more)
    goes_on more fits e =
        r.so_far ∙ stepped ∙ ap (λ o. then_do (next, o) (effects_of (passed arg) (drop (k + 1) body))) e
        ∙ ap (effects_of (passed arg) (drop (k + 1) body) next) (sym (to_z-of_z w64 more fits))

-- the statements after one of those that fit
pub rest_fits : (limits : Limits) (body : List Stmt) (k : ℕ) (statement : Stmt) → k < length body → IsTrue (body_fits limits (drop k body)) → IsTrue (body_fits limits (drop (k + 1) body))
rest_fits limits body k statement within fits =
    (and_parts (stmt_fits limits (get_or body k statement)) (body_fits limits (drop (k + 1) body)) (sym (ap (body_fits limits) (drop_more body k statement within)) ∙ fits)).1
