-- The operation of an object that a name denotes.
use Rattle.std.specs.Prelude.{ℕ, ◌-◌, Option, Some, None, List, slice_get, option_map, Vec}
use Rattle.std.specs.declared.alloc.Global.{Global}
use Rattle.rp_deck_declarations.specs.rp_body.specs.declared.expression.Cond.{Cond}
use Rattle.rp_deck_declarations.specs.rp_body.specs.declared.expression.Expr.{Expr}
use Rattle.rp_deck_declarations.specs.rp_body.specs.declared.statement.Stmt.{Stmt}
use Rattle.rp_deck_declarations.specs.rp_deck_objects.specs.declared.names.OperationName.{OperationName}
use Rattle.rp_deck_declarations.specs.rp_deck_objects.specs.declared.names.OperationName.TheVariants as names
use Rattle.rp_deck_declarations.specs.rp_entry.specs.declared.operations.Entry.{Entry}
use Rattle.rp_deck_declarations.specs.rp_entry.specs.declared.operations.Function.{Function}
use Rattle.rp_deck_declarations.specs.rp_entry.specs.declared.operations.Function.TheVariants as functions
use Rattle.rp_deck_declarations.specs.rp_entry.specs.declared.operations.Operations.{Operations}
use Rattle.rp_bind_local.specs.declared.operations.Operation.{Operation}
use Rattle.rp_bind_local.specs.declared.operations.Operation.TheVariants as operations

-- what an operation does
pub data Does : Type 0 where
  value : Expr → Does
  truth : Cond → Does
  procedure : List Stmt → Does
  entry : Entry → Does

abbrev pub of_function : Function → Does
of_function (functions.Value expr) = value expr
of_function (functions.Truth cond) = truth cond

abbrev pub does_at : Operations → OperationName → Option Does
does_at own (names.Function index) =
    option_map of_function (slice_get own.functions.items (index.number - 1))
does_at own (names.Procedure index) =
    option_map (λ body. procedure body.items) (slice_get own.procedures.items (index.number - 1))
does_at own (names.Entry index) =
    option_map entry (slice_get own.entries.items (index.number - 1))

abbrev pub does_of : Operation → Does
does_of (operations.Value expr) = value expr.now
does_of (operations.Truth cond) = truth cond.now
does_of (operations.Procedure body) = procedure body.now
does_of (operations.Entry it) = entry it.now
