-- The range of the arguments of an operation, where its body says it: it begins by assigning the
-- argument to a component, so that any other argument raises Constraint_Error and changes nothing.
use Rattle.std.specs.Prelude.{ℕ, ℤ, List, [], ◌∷◌, ◌++◌, codes, Option, Some, None, option_and_then}
use Rattle.std.specs.FinMap.{get}
use Rattle.std.specs.Fmt.{signed_decimal}
use Rattle.rp_deck_declarations.specs.rp_body.specs.declared.components.Ranged.{Ranged}
use Rattle.rp_deck_declarations.specs.rp_body.specs.declared.expression.Expr.{Expr}
use Rattle.rp_deck_declarations.specs.rp_body.specs.declared.expression.Expr.TheVariants as exprs
use Rattle.rp_deck_declarations.specs.rp_body.specs.declared.statement.Stmt.{Stmt}
use Rattle.rp_deck_declarations.specs.rp_body.specs.declared.statement.Stmt.TheOpen.{Stmt-F}
use Rattle.rp_deck_declarations.specs.rp_body.specs.declared.statement.Stmt.TheFolds.{fold-Stmt}
use Rattle.rp_deck_declarations.specs.rp_deck_objects.specs.declared.names.OperationName.{OperationName}
use Rattle.rp_deck_declarations.specs.rp_object.specs.Program.{operations_of}
use Rattle.rp_deck_declarations.specs.rp_object.specs.declared.program.ObjectDeclaration.{ObjectDeclaration}
use Rattle.rp_bind_local.specs.Operations.{Does, does_at, value, truth, procedure, entry}
use Rattle.rp_bind.specs.declared.lines.Language.{Language}
use Rattle.rp_bind.specs.declared.lines.Language.TheVariants.{Ada, Local, C}

-- the component that is assigned the argument: by an assignment, by a statement, and by the first
abbrev pub argument_to : ℕ → Expr → Option ℕ
argument_to name exprs.Arg = Some name
argument_to name _ = None

abbrev pub takes_step : Stmt-F (Option ℕ) → Option ℕ
takes_step (Stmt-F.Set name expr) = argument_to name expr
takes_step _ = None

abbrev pub takes_argument : Stmt → Option ℕ
takes_argument = fold-Stmt (Option ℕ) takes_step

abbrev pub first_takes : List Stmt → Option ℕ
first_takes [] = None
first_takes (statement ∷ rest) = takes_argument statement

abbrev pub taken_by : Does → Option ℕ
taken_by (value expr) = None
taken_by (truth cond) = None
taken_by (procedure body) = first_takes body
taken_by (entry it) = first_takes it.body.items

-- that component, with its range
abbrev pub component_taken : ObjectDeclaration → OperationName → Option Ranged
component_taken object name =
    option_and_then (λ number. get object.components.ints number)
    (option_and_then taken_by (does_at (operations_of object) name))

abbrev pub component_if : Option ObjectDeclaration → OperationName → Option Ranged
component_if object name = option_and_then (λ it. component_taken it name) object

-- the subtype of that range, for an operation of this name
abbrev pub ends_text : ℤ → ℤ → List ℕ
ends_text low high = signed_decimal low ++ (codes " .. " ++ signed_decimal high)

abbrev pub subtype_lines : List ℕ → ℤ → ℤ → List ℕ
subtype_lines name low high =
    codes "      subtype Range_Of_Argument_Of_" ++ (name
    ++ (codes " is\n        Value_Of_This_Deck range " ++ (ends_text low high ++ codes ";\n")))

abbrev pub subtype_text : List ℕ → Option Ranged → List ℕ
subtype_text name None = []
subtype_text name (Some it) = subtype_lines name it.low it.high

abbrev pub range_text : Language → List ℕ → Option Ranged → List ℕ
range_text Ada name component = subtype_text name component
range_text Local name component = subtype_text name component
range_text C name component = []
