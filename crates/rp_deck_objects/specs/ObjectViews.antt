-- What an object has, as its lines say it.
use Rattle.std.specs.Prelude.{ℕ, List, map, option_map, String, string_bytes}
use Rattle.rp_deck_bodies.specs.indexmap.specs.IndexMap.{IndexMap, values}
use Rattle.rp_object.specs.rp_base.specs.declared.action.Operation.{Operation}
use Rattle.rp_object.specs.rp_base.specs.declared.action.Operation.TheVariants as operations
use Rattle.rp_object.specs.rp_body.specs.Store.{Store}
use Rattle.rp_object.specs.rp_entry.specs.declared.operations.Entry.{Entry as DeclaredEntry}
use Rattle.rp_object.specs.rp_entry.specs.declared.operations.Function.{Function as DeclaredFunction}
use Rattle.rp_object.specs.rp_entry.specs.declared.operations.Function.TheVariants as functions
use Rattle.rp_object.specs.Program.{operations_of}
use Rattle.rp_object.specs.declared.program.ObjectDeclaration.{ObjectDeclaration}
use Rattle.rp_words.specs.Tables.{key_names}
use Rattle.rp_deck_bodies.specs.Bodies.{BodyText}
use Rattle.rp_deck_bodies.specs.BodyViews.{body_text, body_draft_text}
use Rattle.rp_deck_bodies.specs.ExpressionViews.{expr_text, cond_text}
use Rattle.rp_deck_objects.specs.declared.names.OperationName.{OperationName}
use Rattle.rp_deck_objects.specs.declared.names.OperationName.TheVariants.{Function, Procedure}
use Rattle.rp_deck_objects.specs.declared.names.OperationName.TheVariants.{Entry}
use Rattle.rp_deck_objects.specs.declared.objects.ObjectDraft.{ObjectDraft}
use Rattle.rp_deck_objects.specs.declared.objects.OperationDraft.{OperationDraft}
use Rattle.rp_deck_objects.specs.Objects.{FunctionText, Value, Truth, EntryText, OpenOperationText}
use Rattle.rp_deck_objects.specs.Objects.{ObjectText}

-- what a call asks for by this name
abbrev pub operation_of : OperationName → Operation
operation_of (Function index) = operations.Function index.number
operation_of (Procedure index) = operations.Procedure index.number
operation_of (Entry index) = operations.Entry index.number

abbrev pub function_text : DeclaredFunction → FunctionText
function_text (functions.Value expr) = Value (expr_text expr)
function_text (functions.Truth cond) = Truth (cond_text cond)

abbrev pub entry_text : DeclaredEntry → EntryText
entry_text entry =
    record { barrier = entry.barrier; longest = entry.longest; body = body_text entry.body.items }

abbrev pub operation_text : OperationDraft → OpenOperationText
operation_text operation =
    record {
      name = string_bytes operation.name;
      head = operation.head;
      body = body_draft_text operation.body;
    }

abbrev pub object_text : ObjectDraft → ObjectText
object_text draft = record {
  name = string_bytes draft.name;
  ceiling = draft.ceiling;
  component_names = key_names draft.component_names;
  components = values draft.component_names;
  int_names = map (λ name. string_bytes name) draft.int_names.items;
  bool_names = map (λ name. string_bytes name) draft.bool_names.items;
  store = draft.components;
  operation_names = key_names draft.operation_names;
  operations = map operation_of (values draft.operation_names);
  functions = map function_text draft.operations.functions.items;
  procedures = map (λ body. body_text body.items) draft.operations.procedures.items;
  entry_names = map (λ name. string_bytes name) draft.entry_names.items;
  entries = map entry_text draft.operations.entries.items;
  open_operation = option_map operation_text draft.open_operation;
}

-- ---- an object whose lines were all read

-- a protected object: the names of its components of each kind, their first values, and its
-- operations
pub record ProtectedText : Type 0 where
  pub name : List ℕ
  pub ceiling : ℕ
  pub int_names : List (List ℕ)
  pub bool_names : List (List ℕ)
  pub store : Store
  pub functions : List FunctionText
  pub procedures : List BodyText
  pub entry_names : List (List ℕ)
  pub entries : List EntryText

abbrev pub protected_of : ObjectText → ProtectedText
protected_of object = record {
  name = object.name;
  ceiling = object.ceiling;
  int_names = object.int_names;
  bool_names = object.bool_names;
  store = object.store;
  functions = object.functions;
  procedures = object.procedures;
  entry_names = object.entry_names;
  entries = object.entries;
}

abbrev pub protected_text : ObjectDeclaration → ProtectedText
protected_text object = record {
  name = string_bytes object.name;
  ceiling = object.ceiling;
  int_names = map (λ name. string_bytes name) object.ints.items;
  bool_names = map (λ name. string_bytes name) object.bools.items;
  store = object.components;
  functions = map function_text (operations_of object).functions.items;
  procedures = map (λ body. body_text body.items) (operations_of object).procedures.items;
  entry_names = map (λ name. string_bytes name) object.entries.items;
  entries = map entry_text (operations_of object).entries.items;
}

-- the operations of an object, in declared order: their names, and what a call by each asks for
pub record OperationsText : Type 0 where
  pub names : List (List ℕ)
  pub operations : List Operation

abbrev pub object_operations : ObjectText → OperationsText
object_operations object = record { names = object.operation_names; operations = object.operations }

-- the operations of an object
abbrev pub own_operations : {Y S : Type 0} → IndexMap (String Y) OperationName S → OperationsText
own_operations own = record { names = key_names own; operations = map operation_of (values own) }
