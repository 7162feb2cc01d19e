-- The text of expressions and conditions, with a line for each operand.
use Rattle.std.specs.Prelude.{ℕ, ℤ, pos, int_lt, Bool, true, false, List, [], ◌++◌, codes, String}
use Rattle.std.specs.Prelude.{string_bytes, Option, Some, None, slice_get, if◌then◌else◌}
use Rattle.std.specs.Fmt.{signed_decimal}
use Rattle.rp_deck_declarations.specs.rp_body.specs.declared.expression.Expr.{Expr}
use Rattle.rp_deck_declarations.specs.rp_body.specs.declared.expression.Expr.TheVariants as exprs
use Rattle.rp_deck_declarations.specs.rp_body.specs.declared.expression.Cond.{Cond}
use Rattle.rp_deck_declarations.specs.rp_body.specs.declared.expression.Cond.TheVariants as conds
use Rattle.rp_deck_declarations.specs.rp_object.specs.declared.program.ObjectDeclaration.{ObjectDeclaration}
use Rattle.rp_bind_local.specs.declared.expressions.Scope.{Scope}

-- where an expression is: whose components it names, whether it is a function's, whose out value is 0,
-- and whether it is one of a statement that another contains
pub record Within : Type 0 where
  pub object : ObjectDeclaration
  pub in_function : Bool
  pub is_inner : Bool

abbrev pub within : Scope → Within
within scope = record {
  object = scope.object.now;
  in_function = scope.in_function;
  is_inner = scope.is_inner;
}

abbrev pub number_text : ℤ → List ℕ
number_text n =
    if int_lt n (pos 0) then codes "(" ++ (signed_decimal n ++ codes ")") else signed_decimal n

abbrev pub constant_text : Bool → List ℕ
constant_text true = codes "Component_Is_True"
constant_text false = codes "Component_Is_False"

module _ {Z : Type 0} where
  abbrev pub name_or_none : Option (String Z) → List ℕ
  name_or_none None = []
  name_or_none (Some name) = string_bytes name

  -- the name of this number from 0
  abbrev pub name_at : List (String Z) → ℕ → List ℕ
  name_at names number = name_or_none (slice_get names number)

-- what begins a line of an expression
abbrev pub margin_of : Within → List ℕ
margin_of scope = if scope.is_inner then codes "\n              " else codes "\n           "

abbrev pub out_of : Within → List ℕ
out_of scope = if scope.in_function then codes "0" else codes "Exact_Whole_Number (Result)"

-- a component by its number
abbrev pub int_text : Within → ℕ → List ℕ
int_text scope number = codes "Whole_Component_" ++ name_at scope.object.ints.items number

abbrev pub bool_text : Within → ℕ → List ℕ
bool_text scope number = codes "Truth_Component_" ++ name_at scope.object.bools.items number

-- two operands in brackets, of which the second has a line of its own after the operator
abbrev pub in_brackets : List ℕ → List ℕ → List ℕ → List ℕ → List ℕ
in_brackets margin a operator b = codes "(" ++ (a ++ (margin ++ (operator ++ (b ++ codes ")"))))

abbrev pub expr_text : Within → Expr → List ℕ
expr_text scope (exprs.Number n) = number_text n
expr_text scope exprs.Arg = codes "Exact_Whole_Number (Argument)"
expr_text scope exprs.Out = out_of scope
expr_text scope (exprs.Int number) = int_text scope number
expr_text scope (exprs.Add' p a q b) =
    in_brackets (margin_of scope) (expr_text scope a) (codes "+ ") (expr_text scope b)
expr_text scope (exprs.Sub' p a q b) =
    in_brackets (margin_of scope) (expr_text scope a) (codes "- ") (expr_text scope b)

abbrev pub comparison : Within → List ℕ → Expr → Expr → List ℕ
comparison scope operator a b =
    in_brackets (margin_of scope) (expr_text scope a) operator (expr_text scope b)

abbrev pub cond_text : Within → Cond → List ℕ
cond_text scope (conds.Constant value) = constant_text value
cond_text scope (conds.Bool number) = bool_text scope number
cond_text scope (conds.Less a b) = comparison scope (codes "< ") a b
cond_text scope (conds.LessOrEqual a b) = comparison scope (codes "<= ") a b
cond_text scope (conds.Equal a b) = comparison scope (codes "= ") a b
cond_text scope (conds.Not' p c) = in_brackets (margin_of scope) (codes "not") [] (cond_text scope c)
cond_text scope (conds.And' p c q d) =
    in_brackets (margin_of scope) (cond_text scope c) (codes "and ") (cond_text scope d)
cond_text scope (conds.Or' p c q d) =
    in_brackets (margin_of scope) (cond_text scope c) (codes "or ") (cond_text scope d)
