-- Which operation a call by its numbers is.
use Rattle.std.specs.Prelude.{ℕ, List, [], ◌++◌, codes, decimal, flat_map, Option, Some, None, String}
use Rattle.std.specs.Prelude.{string_bytes}
use Rattle.rp_deck_declarations.specs.rp_deck_objects.specs.declared.names.OperationName.{OperationName}
use Rattle.rp_deck_declarations.specs.rp_deck_objects.specs.declared.names.OperationName.TheVariants as names
use Rattle.rp_deck_declarations.specs.rp_object.specs.Program.{operations_of}
use Rattle.rp_deck_declarations.specs.rp_object.specs.declared.program.ObjectDeclaration.{ObjectDeclaration}
use Rattle.rp_bind_local.specs.declared.calls.Form.{Form}
use Rattle.rp_bind_local.specs.declared.calls.Form.TheVariants as forms
use Rattle.rp_bind_local.specs.Operations.{Does, does_at, value, truth, procedure, entry}

-- the kinds of operations, as a call names them
abbrev pub kind_of : OperationName → ℕ
kind_of (names.Function index) = 1
kind_of (names.Procedure index) = 2
kind_of (names.Entry index) = 3

abbrev pub index_of : OperationName → ℕ
index_of (names.Function index) = index.number
index_of (names.Procedure index) = index.number
index_of (names.Entry index) = index.number

-- the numbers of a call: of its object, its kind and its operation
abbrev pub numbers_text : ℕ → ℕ → ℕ → List ℕ
numbers_text number kind index =
    codes "         when " ++ (decimal number ++ (codes "_0" ++ (decimal kind
    ++ (codes "_0" ++ (decimal index ++ codes " =>\n")))))

-- how an operation is called, if there is one, and its call
abbrev pub form_of : Option Does → Form
form_of None = forms.Nothing
form_of (Some (value expr)) = forms.Value
form_of (Some (truth cond)) = forms.Truth
form_of (Some (procedure body)) = forms.WithResult
form_of (Some (entry it)) = forms.WithResult

abbrev pub call_lines : Form → List ℕ → List ℕ → List ℕ
call_lines forms.Value owner name =
    codes "            Result := " ++ (owner ++ (codes "_On_This_Machine."
    ++ (name ++ codes "\n              (Argument);\n")))
call_lines forms.Truth owner name =
    codes "            Result := Boolean_Of_An_Object'Pos\n              (" ++ (owner
    ++ (codes "_On_This_Machine." ++ (name ++ codes " (Argument));\n")))
call_lines forms.WithResult owner name =
    codes "            " ++ (owner ++ (codes "_On_This_Machine."
    ++ (name ++ codes "\n              (Argument, Result);\n")))
call_lines forms.Nothing owner name = codes "            null;\n"

abbrev pub one_call : Option Does → ℕ → OperationName → List ℕ → List ℕ → List ℕ
one_call does number operation owner name =
    numbers_text number (kind_of operation) (index_of operation) ++ call_lines (form_of does) owner name

module _ {Z : Type 0} where
  -- the calls of an object of this name and number
  abbrev pub calls_text : ObjectDeclaration → List ℕ → ℕ → List (String Z × OperationName) → List ℕ
  calls_text object owner number operations =
      flat_map (λ entry. one_call (does_at (operations_of object) entry.1) number entry.1 owner
      (string_bytes entry.0)) operations

-- the call of an object of a tally
abbrev pub sum_call_text : ℕ → List ℕ → List ℕ
sum_call_text number name =
    codes "         when " ++ (decimal number ++ (codes "_02_01 =>\n            "
    ++ (name ++ codes "_On_This_Machine.add\n              (Argument, Result);\n")))
