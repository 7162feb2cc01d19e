-- What expressions, conditions and bodies do, by what their texts mean.
use Rattle.std.proofs.Common.{◌≡◌, ℤ, pos, Bool, cond, List, [], ◌∷◌, map, refl, sym, ap, subst, ◌∙◌}
use Rattle.std.specs.Prelude.{◌+ℤ◌, ◌-ℤ◌, int_lt, int_le, ◌&&◌, ◌||◌, not, if◌then◌else◌}
use Rattle.std.specs.Ordering.{int_eq}
use Rattle.rp_object.specs.rp_body.specs.declared.expression.Expr.{Expr}
use Rattle.rp_object.specs.rp_body.specs.declared.expression.Expr.TheVariants as exprs
use Rattle.rp_object.specs.rp_body.specs.declared.expression.Cond.{Cond}
use Rattle.rp_object.specs.rp_body.specs.declared.expression.Cond.TheVariants as conds
use Rattle.rp_object.specs.rp_body.specs.declared.statement.Stmt.{Stmt}
use Rattle.rp_object.specs.rp_body.specs.declared.statement.Stmt.TheOpen.{Stmt-F}
use Rattle.rp_object.specs.rp_body.specs.declared.statement.Stmt.TheFolds.{fold-roll-Stmt, ind-Stmt, map-Stmt}
use Rattle.rp_object.specs.rp_body.specs.declared.statement.Outcome.{Outcome}
use Rattle.rp_object.specs.rp_body.specs.declared.statement.Outcome.TheVariants.{Out, Raised}
use Rattle.rp_object.specs.rp_body.specs.Store.{Store, int_value, bool_value, with_int, with_bool}
use Rattle.rp_object.specs.rp_body.specs.Expressions.{value_of, truth_of, fits_64}
use Rattle.rp_object.specs.rp_body.specs.Meaning.{Effect, then_do, assigned, effect_of_step, effect_of, effects_of, body_effect}
use Rattle.rp_object.specs.rp_body.specs.Meaning as meaning
use Rattle.rp_deck_bodies.specs.Bodies.{BodyText}
use Rattle.rp_deck_bodies.specs.Bodies as bodies
use Rattle.rp_deck_bodies.specs.BodyViews.{with_statements, and_then, added_by, body_text}
use Rattle.rp_deck_bodies.specs.Expressions.{ExprText, CondText}
use Rattle.rp_deck_bodies.specs.Expressions as texts
use Rattle.rp_deck_bodies.specs.ExpressionViews.{expr_text, cond_text}

-- ---- expressions and conditions

abbrev pub value_as : ExprText → Store → ℤ → ℤ → ℤ
value_as (texts.ExprText.Number n) store arg out = n
value_as texts.ExprText.Arg store arg out = arg
value_as texts.ExprText.Out store arg out = out
value_as (texts.ExprText.Int place) store arg out = int_value store place
value_as (texts.ExprText.Add a b) store arg out = value_as a store arg out +ℤ value_as b store arg out
value_as (texts.ExprText.Sub a b) store arg out = value_as a store arg out -ℤ value_as b store arg out

pub value_is : (e : Expr) (store : Store) (arg out : ℤ) → value_of e store arg out ≡ value_as (expr_text e) store arg out
value_is (exprs.Number n) store arg out = refl
value_is exprs.Arg store arg out = refl
value_is exprs.Out store arg out = refl
value_is (exprs.Int place) store arg out = refl
value_is (exprs.Add' p a q b) store arg out = λ i. value_is a store arg out i +ℤ value_is b store arg out i
value_is (exprs.Sub' p a q b) store arg out = λ i. value_is a store arg out i -ℤ value_is b store arg out i

abbrev pub truth_as : CondText → Store → ℤ → ℤ → Bool
truth_as (texts.CondText.Constant b) store arg out = b
truth_as (texts.CondText.Named place) store arg out = bool_value store place
truth_as (texts.CondText.Less a b) store arg out = int_lt (value_as a store arg out) (value_as b store arg out)
truth_as (texts.CondText.LessOrEqual a b) store arg out = int_le (value_as a store arg out) (value_as b store arg out)
truth_as (texts.CondText.Equal a b) store arg out = int_eq (value_as a store arg out) (value_as b store arg out)
truth_as (texts.CondText.Not c) store arg out = not (truth_as c store arg out)
truth_as (texts.CondText.And c d) store arg out = truth_as c store arg out && truth_as d store arg out
truth_as (texts.CondText.Or c d) store arg out = truth_as c store arg out || truth_as d store arg out

pub truth_is : (c : Cond) (store : Store) (arg out : ℤ) → truth_of c store arg out ≡ truth_as (cond_text c) store arg out
truth_is (conds.Constant b) store arg out = refl
truth_is (conds.Bool place) store arg out = refl
truth_is (conds.Less a b) store arg out = λ i. int_lt (value_is a store arg out i) (value_is b store arg out i)
truth_is (conds.LessOrEqual a b) store arg out = λ i. int_le (value_is a store arg out i) (value_is b store arg out i)
truth_is (conds.Equal a b) store arg out = λ i. int_eq (value_is a store arg out i) (value_is b store arg out i)
truth_is (conds.Not' p c) store arg out = λ i. not (truth_is c store arg out i)
truth_is (conds.And' p c q d) store arg out = λ i. truth_is c store arg out i && truth_is d store arg out i
truth_is (conds.Or' p c q d) store arg out = λ i. truth_is c store arg out i || truth_is d store arg out i

-- ---- bodies

abbrev pub effect_as : ℤ → BodyText → Effect
effect_as arg bodies.BodyText.Empty store out = (store, Out out)
effect_as arg (bodies.BodyText.Set before place value) store out = then_do (effect_as arg before store out) (λ s o. assigned o (with_int s place (value_as value s arg o)))
effect_as arg (bodies.BodyText.Put before place value) store out = then_do (effect_as arg before store out) (λ s o. (with_bool s place (truth_as value s arg o), Out o))
effect_as arg (bodies.BodyText.Out before value) store out = then_do (effect_as arg before store out) (λ s o. (s, if fits_64 (value_as value s arg o) then Out (value_as value s arg o) else Raised))
effect_as arg (bodies.BodyText.If before test first second) store out =
    then_do (effect_as arg before store out) (λ s o. if truth_as test s arg o then effect_as arg first s o else effect_as arg second s o)

-- nothing follows
nothing_more : (ran : Store × Outcome) → ran ≡ then_do ran (λ s o. (s, Out o))
nothing_more (s, Out o) = refl
nothing_more (s, Raised) = refl

-- what follows is the same
same_next : (ran : Store × Outcome) (one other : Effect) → ((s : Store) (o : ℤ) → one s o ≡ other s o) → then_do ran one ≡ then_do ran other
same_next (s, Out o) one other same = same s o
same_next (s, Raised) one other same = refl

-- one after another
one_by_one : (ran : Store × Outcome) (one rest : Effect) → then_do (then_do ran one) rest ≡ then_do ran (λ s o. then_do (one s o) rest)
one_by_one (s, Out o) one rest = refl
one_by_one (s, Raised) one rest = refl

-- a statement adds what it does
abbrev Adds : ℤ → Stmt → Type 0
Adds arg statement = (before : BodyText) (store : Store) (out : ℤ) → effect_as arg (and_then statement before) store out ≡ then_do (effect_as arg before store out) (effect_of arg statement)

each_adds : (arg : ℤ) (body : List ((s : Stmt) × Adds arg s)) (before : BodyText) (store : Store) (out : ℤ)
    → effect_as arg (with_statements (map and_then (map (λ e. e.0) body)) before) store out ≡ then_do (effect_as arg before store out) (meaning.in_order (map (effect_of arg) (map (λ e. e.0) body)))
each_adds arg [] before store out = nothing_more (effect_as arg before store out)
each_adds arg (e ∷ rest) before store out =
    let others = meaning.in_order (map (effect_of arg) (map (λ e. e.0) rest)) in
    each_adds arg rest (and_then e.0 before) store out ∙ ap (λ (r : Store × Outcome). then_do r others) (e.1 before store out) ∙ one_by_one (effect_as arg before store out) (effect_of arg e.0) others

step_adds : (arg : ℤ) (y : Stmt-F ((s : Stmt) × Adds arg s)) (before : BodyText) (store : Store) (out : ℤ)
    → effect_as arg (added_by (map-Stmt Stmt (BodyText → BodyText) and_then (map-Stmt ((s : Stmt) × Adds arg s) Stmt (λ e. e.0) y)) before) store out
    ≡ then_do (effect_as arg before store out) (effect_of_step arg (map-Stmt Stmt Effect (effect_of arg) (map-Stmt ((s : Stmt) × Adds arg s) Stmt (λ e. e.0) y)))
step_adds arg (Stmt-F.Set name expr) before store out = same_next (effect_as arg before store out) _ _ (λ s o. ap (λ (v : ℤ). assigned o (with_int s name v)) (sym (value_is expr s arg o)))
step_adds arg (Stmt-F.Put name test) before store out = same_next (effect_as arg before store out) _ _ (λ s o. ap (λ (v : Bool). (with_bool s name v, Out o)) (sym (truth_is test s arg o)))
step_adds arg (Stmt-F.Out expr) before store out =
    same_next (effect_as arg before store out) _ _ (λ s o. ap (λ (v : ℤ). (let ended : Outcome = if fits_64 v then Out v else Raised in (s, ended))) (sym (value_is expr s arg o)))
step_adds arg (Stmt-F.If test first second) before store out =
    same_next (effect_as arg before store out) _ _ (λ s o. λ i. cond {A = Store × Outcome} (sym (truth_is test s arg o) i) (each_adds arg first.items bodies.BodyText.Empty s o i) (each_adds arg second.items bodies.BodyText.Empty s o i))

statement_adds : (arg : ℤ) (statement : Stmt) → Adds arg statement
statement_adds arg = ind-Stmt (Adds arg) (λ x y is before store out.
    ap (λ (f : BodyText → BodyText). effect_as arg (f before) store out) (fold-roll-Stmt (BodyText → BodyText) added_by x)
    ∙ subst (λ z. effect_as arg (added_by (map-Stmt Stmt (BodyText → BodyText) and_then z) before) store out ≡ then_do (effect_as arg before store out) (effect_of_step arg (map-Stmt Stmt Effect (effect_of arg) z))) is (step_adds arg y before store out)
    ∙ ap (λ (e : Effect). then_do (effect_as arg before store out) e) (sym (fold-roll-Stmt Effect (effect_of_step arg) x)))

adds : (arg : ℤ) (body : List Stmt) (before : BodyText) (store : Store) (out : ℤ)
    → effect_as arg (with_statements (map and_then body) before) store out ≡ then_do (effect_as arg before store out) (effects_of arg body)
adds arg [] before store out = nothing_more (effect_as arg before store out)
adds arg (s ∷ rest) before store out =
    adds arg rest (and_then s before) store out ∙ ap (λ (r : Store × Outcome). then_do r (effects_of arg rest)) (statement_adds arg s before store out) ∙ one_by_one (effect_as arg before store out) (effect_of arg s) (effects_of arg rest)

-- a body does what its text means
pub body_is : (body : List Stmt) (arg : ℤ) (store : Store) → body_effect body arg store ≡ effect_as arg (body_text body) store (pos 0)
body_is body arg store = sym (adds arg body bodies.BodyText.Empty store (pos 0))
