-- What the words of an expression and of a condition say, as relations of their own (Ada Reference
-- Manual, sections 4.5.1 to 4.5.3). No test and no operator of the meaning of bodies is used here.
use Rattle.std.specs.Prelude.{◌≡◌, ◌⊎◌, ℤ, pos, ◌+ℤ◌, ◌-ℤ◌, ◌<ℤ◌, ◌≤ℤ◌, true, Some, MatchOption}
use Rattle.std.specs.FinMap.{get}
use Rattle.rp_object.specs.rp_body.specs.declared.expression.Expr.{Expr}
use Rattle.rp_object.specs.rp_body.specs.declared.expression.Expr.TheVariants.{Number, Arg, Out}
use Rattle.rp_object.specs.rp_body.specs.declared.expression.Expr.TheVariants.{Int, Add', Sub'}
use Rattle.rp_object.specs.rp_body.specs.declared.expression.Cond.{Cond}
use Rattle.rp_object.specs.rp_body.specs.declared.expression.Cond.TheVariants.{Constant}
use Rattle.rp_object.specs.rp_body.specs.declared.expression.Cond.TheVariants.{Bool as Named, Less}
use Rattle.rp_object.specs.rp_body.specs.declared.expression.Cond.TheVariants.{LessOrEqual, Equal}
use Rattle.rp_object.specs.rp_body.specs.declared.expression.Cond.TheVariants.{Not', And', Or'}
use Rattle.rp_object.specs.rp_body.specs.Store.{Store}

-- the expression has this value at these components, this argument and this out value; a component
-- that is not there counts as 0
abbrev pub HasValue : Expr → Store → ℤ → ℤ → ℤ → Type 0
HasValue (Number n) store arg out value = value ≡ n
HasValue Arg store arg out value = value ≡ arg
HasValue Out store arg out value = value ≡ out
HasValue (Int name) store arg out value =
    MatchOption (get store.ints name) (value ≡ pos 0) (λ component. value ≡ component.value)
HasValue (Add' p a q b) store arg out value =
    (x y : ℤ) × (HasValue a store arg out x × HasValue b store arg out y × (value ≡ x +ℤ y))
HasValue (Sub' p a q b) store arg out value =
    (x y : ℤ) × (HasValue a store arg out x × HasValue b store arg out y × (value ≡ x -ℤ y))

-- this is so of the values of both expressions
abbrev pub OfBoth : (ℤ → ℤ → Type 0) → Expr → Expr → Store → ℤ → ℤ → Type 0
OfBoth IsSo a b store arg out =
    (x y : ℤ) × (HasValue a store arg out x × HasValue b store arg out y × IsSo x y)

-- the condition holds at these components, this argument and this out value
abbrev pub IsMet : Cond → Store → ℤ → ℤ → Type 0
IsMet (Constant b) store arg out = b ≡ true
IsMet (Named name) store arg out = get store.bools name ≡ Some true
IsMet (Less a b) store arg out = OfBoth (λ x y. x <ℤ y) a b store arg out
IsMet (LessOrEqual a b) store arg out = OfBoth (λ x y. x ≤ℤ y) a b store arg out
IsMet (Equal a b) store arg out = OfBoth (λ x y. x ≡ y) a b store arg out
IsMet (Not' p c) store arg out = ¬ IsMet c store arg out
IsMet (And' p c q d) store arg out = IsMet c store arg out × IsMet d store arg out
IsMet (Or' p c q d) store arg out = IsMet c store arg out ⊎ IsMet d store arg out
