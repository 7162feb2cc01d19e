-- The text of an expression and of a condition: one way to write each, which reading gives back.
use Rattle.std.specs.Prelude.{ℕ, ◌≡◌, ◌+◌, FitsSigned, Bool, true, false, not, nat_eq, IsTrue, List}
use Rattle.std.specs.Prelude.{[], ◌∷◌, ◌++◌, codes, length, ◌⊎◌, if◌then◌else◌}
use Rattle.std.specs.Fmt.{signed_decimal}
use Rattle.std.specs.Int.{w64}
use Rattle.std.specs.List.{list_all}
use Rattle.rp_deck_declarations.specs.rp_deck_bodies.specs.declared.names.Component.{Component}
use Rattle.rp_deck_declarations.specs.rp_deck_bodies.specs.declared.names.Component.TheVariants as components
use Rattle.rp_deck_declarations.specs.rp_deck_bodies.specs.Expressions.{ExprText, Number, Arg, Out}
use Rattle.rp_deck_declarations.specs.rp_deck_bodies.specs.Expressions.{Int, Add, Sub, CondText}
use Rattle.rp_deck_declarations.specs.rp_deck_bodies.specs.Expressions.{Constant, Named, Less}
use Rattle.rp_deck_declarations.specs.rp_deck_bodies.specs.Expressions.{LessOrEqual, Equal, Not}
use Rattle.rp_deck_declarations.specs.rp_deck_bodies.specs.Expressions.{And}
use Rattle.rp_deck_declarations.specs.rp_deck_bodies.specs.Expressions.{Or, expression_words}
use Rattle.rp_deck_laws.specs.ScriptText.{are_names}
use Rattle.rp_words.specs.Tables.{is_declared}

-- the component of a kind at this place
abbrev pub is_int : ℕ → Component → Bool
is_int place (components.Int p) = nat_eq p place
is_int place (components.Bool p) = false

abbrev pub is_bool : ℕ → Component → Bool
is_bool place (components.Int p) = false
is_bool place (components.Bool p) = nat_eq p place

-- the name of the first component that passes the test
abbrev pub component_name : (Component → Bool) → List (List ℕ) → List Component → List ℕ
component_name test [] declared = []
component_name test names [] = []
component_name test (name ∷ names) (first ∷ rest) =
    if test first then name else component_name test names rest

-- how many nodes there are
abbrev pub expr_nodes : ExprText → ℕ
expr_nodes (Number number) = 1
expr_nodes Arg = 1
expr_nodes Out = 1
expr_nodes (Int place) = 1
expr_nodes (Add first second) = 1 + (expr_nodes first + expr_nodes second)
expr_nodes (Sub first second) = 1 + (expr_nodes first + expr_nodes second)

abbrev pub cond_nodes : CondText → ℕ
cond_nodes (Constant truth) = 1
cond_nodes (Named place) = 1
cond_nodes (Less first second) = 1 + (expr_nodes first + expr_nodes second)
cond_nodes (LessOrEqual first second) = 1 + (expr_nodes first + expr_nodes second)
cond_nodes (Equal first second) = 1 + (expr_nodes first + expr_nodes second)
cond_nodes (Not negated) = 1 + cond_nodes negated
cond_nodes (And first second) = 1 + (cond_nodes first + cond_nodes second)
cond_nodes (Or first second) = 1 + (cond_nodes first + cond_nodes second)

-- a component passes the test
abbrev pub HasOne : (Component → Bool) → List Component → Type 0
HasOne test [] = ⊥
HasOne test (first ∷ rest) = IsTrue (test first) ⊎ HasOne test rest

-- names for n components, none of them a word of the expressions
pub record AreComponents (names : List (List ℕ)) (declared : List Component) : Type 0 where
  pub names_are : IsTrue (are_names names)
  pub free : IsTrue (list_all (λ name. not (is_declared name expression_words)) names)
  pub even : length names ≡ length declared

module _ (names : List (List ℕ)) (declared : List Component) where
  abbrev pub expr_words : ExprText → List (List ℕ)
  expr_words (Number number) = signed_decimal number ∷ []
  expr_words Arg = codes "arg" ∷ []
  expr_words Out = codes "out" ∷ []
  expr_words (Int place) = component_name (is_int place) names declared ∷ []
  expr_words (Add first second) = codes "add" ∷ (expr_words first ++ expr_words second)
  expr_words (Sub first second) = codes "sub" ∷ (expr_words first ++ expr_words second)

  abbrev pub truth_word : Bool → List ℕ
  truth_word true = codes "true"
  truth_word false = codes "false"

  abbrev pub cond_words : CondText → List (List ℕ)
  cond_words (Constant truth) = truth_word truth ∷ []
  cond_words (Named place) = component_name (is_bool place) names declared ∷ []
  cond_words (Less first second) = codes "lt" ∷ (expr_words first ++ expr_words second)
  cond_words (LessOrEqual first second) = codes "le" ∷ (expr_words first ++ expr_words second)
  cond_words (Equal first second) = codes "eq" ∷ (expr_words first ++ expr_words second)
  cond_words (Not negated) = codes "not" ∷ cond_words negated
  cond_words (And first second) = codes "and" ∷ (cond_words first ++ cond_words second)
  cond_words (Or first second) = codes "or" ∷ (cond_words first ++ cond_words second)

  -- numbers of 64 signed bits, and components that are there
  abbrev pub IsExprOf : ExprText → Type 0
  IsExprOf (Number number) = FitsSigned w64 number
  IsExprOf Arg = Unit {0}
  IsExprOf Out = Unit {0}
  IsExprOf (Int place) = HasOne (is_int place) declared
  IsExprOf (Add first second) = IsExprOf first × IsExprOf second
  IsExprOf (Sub first second) = IsExprOf first × IsExprOf second

  abbrev pub IsCondOf : CondText → Type 0
  IsCondOf (Constant truth) = Unit {0}
  IsCondOf (Named place) = HasOne (is_bool place) declared
  IsCondOf (Less first second) = IsExprOf first × IsExprOf second
  IsCondOf (LessOrEqual first second) = IsExprOf first × IsExprOf second
  IsCondOf (Equal first second) = IsExprOf first × IsExprOf second
  IsCondOf (Not negated) = IsCondOf negated
  IsCondOf (And first second) = IsCondOf first × IsCondOf second
  IsCondOf (Or first second) = IsCondOf first × IsCondOf second
