-- What expressions and conditions mean: exact whole numbers and truth values. The operators are
-- those of the Ada Reference Manual, sections 4.5.1 to 4.5.3 and 4.5.6, on numbers without bounds.
use Rattle.std.specs.Prelude.{◌-◌, ◌^◌, ℤ, pos, negsuc, ◌+ℤ◌, ◌-ℤ◌, int_lt, int_le, Bool, ◌&&◌}
use Rattle.std.specs.Prelude.{◌||◌, not}
use Rattle.std.specs.Ordering.{int_eq}
use Rattle.rp_body.specs.declared.expression.Expr.{Expr}
use Rattle.rp_body.specs.declared.expression.Expr.TheVariants.{Number, Arg, Out, Int, Add', Sub'}
use Rattle.rp_body.specs.declared.expression.Cond.{Cond}
use Rattle.rp_body.specs.declared.expression.Cond.TheVariants.{Constant, Bool as Named, Less}
use Rattle.rp_body.specs.declared.expression.Cond.TheVariants.{LessOrEqual, Equal, Not', And', Or'}
use Rattle.rp_body.specs.Store.{Store, int_value, bool_value, is_within}

-- the value of an expression, given the components, the argument and the out value
abbrev pub value_of : Expr → Store → ℤ → ℤ → ℤ
value_of (Number n) store arg out = n
value_of Arg store arg out = arg
value_of Out store arg out = out
value_of (Int name) store arg out = int_value store name
value_of (Add' p a q b) store arg out = value_of a store arg out +ℤ value_of b store arg out
value_of (Sub' p a q b) store arg out = value_of a store arg out -ℤ value_of b store arg out

-- whether a condition holds, given the same
abbrev pub truth_of : Cond → Store → ℤ → ℤ → Bool
truth_of (Constant b) store arg out = b
truth_of (Named name) store arg out = bool_value store name
truth_of (Less a b) store arg out = int_lt (value_of a store arg out) (value_of b store arg out)
truth_of (LessOrEqual a b) store arg out =
    int_le (value_of a store arg out) (value_of b store arg out)
truth_of (Equal a b) store arg out = int_eq (value_of a store arg out) (value_of b store arg out)
truth_of (Not' p c) store arg out = not (truth_of c store arg out)
truth_of (And' p c q d) store arg out = truth_of c store arg out && truth_of d store arg out
truth_of (Or' p c q d) store arg out = truth_of c store arg out || truth_of d store arg out

-- the number lies from -2^63 to 2^63 - 1
abbrev pub fits_64 : ℤ → Bool
fits_64 = is_within (negsuc (2 ^ 63 - 1)) (pos (2 ^ 63 - 1))
