-- What a body does to the components of its object. A body is a sequence of statements (Ada
-- Reference Manual, section
-- 5.1) with assignments (5.2) and choices (5.3); `out` is ours.
use Rattle.std.specs.Prelude.{ℤ, pos, true, false, Bool, List, [], ◌∷◌, map, if◌then◌else◌}
use Rattle.rp_body.specs.declared.statement.Stmt.{Stmt}
use Rattle.rp_body.specs.declared.statement.Stmt.TheOpen.{Stmt-F}
use Rattle.rp_body.specs.declared.statement.Stmt.TheFolds.{fold-Stmt}
use Rattle.rp_body.specs.declared.statement.Outcome.{Outcome}
use Rattle.rp_body.specs.declared.statement.Outcome.TheVariants.{Out, Raised}
use Rattle.rp_body.specs.Store.{Store, with_int, with_bool}
use Rattle.rp_body.specs.Expressions.{value_of, truth_of, fits_64}

-- what a part of a body does: from the components and the out value to the components, and the out
-- value or Constraint_Error
abbrev pub Effect : Type 0
Effect = Store → ℤ → Store × Outcome

-- goes on from where a part ended; where it raised, the rest is abandoned and its assignments stay
-- (section 11.4)
abbrev pub then_do : Store × Outcome → Effect → Store × Outcome
then_do (store, Out out) next = next store out
then_do (store, Raised) next = (store, Raised)

-- one part after another
abbrev pub in_order : List Effect → Effect
in_order [] store out = (store, Out out)
in_order (effect ∷ rest) store out = then_do (effect store out) (in_order rest)

-- how an assignment ends: Constraint_Error where the value lies outside the component's range
-- (section 5.2)
abbrev pub assigned : ℤ → Store × Bool → Store × Outcome
assigned out (store, true) = (store, Out out)
assigned out (store, false) = (store, Raised)

-- what one statement does, where each statement inside an `if` is given as what it does itself
abbrev pub effect_of_step : ℤ → Stmt-F Effect → Effect
effect_of_step arg (Stmt-F.Set name expr) store out =
    assigned out (with_int store name (value_of expr store arg out))
effect_of_step arg (Stmt-F.Put name cond) store out =
    (with_bool store name (truth_of cond store arg out), Out out)
effect_of_step arg (Stmt-F.Out expr) store out =
    let value = value_of expr store arg out in
    (store, if fits_64 value then Out value else Raised)
effect_of_step arg (Stmt-F.If cond first second) store out =
    if truth_of cond store arg out then in_order first.items store out
    else in_order second.items store out

-- what a statement does, given the argument
abbrev pub effect_of : ℤ → Stmt → Effect
effect_of arg = fold-Stmt Effect (effect_of_step arg)

-- what statements do one after another, given the argument
abbrev pub effects_of : ℤ → List Stmt → Effect
effects_of arg body = in_order (map (effect_of arg) body)

-- what a body does, given the argument: its statements in order, the out value being 0 at first
abbrev pub body_effect : List Stmt → ℤ → Store → Store × Outcome
body_effect body arg store = effects_of arg body store (pos 0)
