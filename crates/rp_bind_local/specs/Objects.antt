-- The text of a protected object (Ada Reference Manual, sections 9.4, 9.5.2, D.3 and D.4).
use Rattle.std.specs.Prelude.{ℕ, ℤ, zero, suc, Bool, true, false, List, [], ◌∷◌, ◌++◌, codes, decimal, flat_map}
use Rattle.std.specs.Prelude.{Option, Some, None, String, string_bytes, option_map}
use Rattle.std.specs.FinMap.{get}
use Rattle.rp_deck_declarations.specs.rp_body.specs.Store.{limits_of}
use Rattle.rp_deck_declarations.specs.rp_body.specs.declared.components.Ranged.{Ranged}
use Rattle.rp_deck_declarations.specs.rp_deck_objects.specs.declared.names.OperationName.{OperationName}
use Rattle.rp_deck_declarations.specs.rp_object.specs.Program.{operations_of}
use Rattle.rp_deck_declarations.specs.rp_object.specs.declared.program.ObjectDeclaration.{ObjectDeclaration}
use Rattle.rp_bind_local.specs.Expressions.{Within, bool_text, cond_text, expr_text, int_text, name_at, number_text}
use Rattle.rp_bind_local.specs.Numbered.{each_below}
use Rattle.rp_bind_local.specs.Operations.{Does, does_at, value, truth, procedure, entry}
use Rattle.rp_bind_local.specs.Statements.{statements_text}

abbrev pub unit_name : List ℕ → List ℕ
unit_name name = name ++ codes "_On_This_Machine"

-- the word and the profile of an operation
abbrev pub word_of : Does → List ℕ
word_of (value expr) = codes "      function "
word_of (truth cond) = codes "      function "
word_of (procedure body) = codes "      procedure "
word_of (entry it) = codes "      entry "

abbrev pub with_result : List ℕ
with_result = codes "\n        (Argument : Value_Of_This_Deck;\n         Result   : out Value_Of_This_Deck)"

abbrev pub profile_of : Does → List ℕ
profile_of (value expr) =
    codes "\n        (Argument : Value_Of_This_Deck)\n         return Value_Of_This_Deck"
profile_of (truth cond) =
    codes "\n        (Argument : Value_Of_This_Deck)\n         return Boolean_Of_An_Object"
profile_of (procedure body) = with_result
profile_of (entry it) = with_result

abbrev pub head_text : List ℕ → Does → List ℕ
head_text name operation = word_of operation ++ (name ++ profile_of operation)

-- how many calls wait at an entry (section D.4)
abbrev pub queue_text : Does → List ℕ
queue_text (entry it) =
    codes "\n        with Max_Queue_Length => " ++ (decimal it.longest ++ codes ";\n")
queue_text _ = codes ";\n"

abbrev pub declaration_text : List ℕ → Option Does → List ℕ
declaration_text name None = []
declaration_text name (Some operation) = head_text name operation ++ queue_text operation

module _ {Z : Type 0} where
  abbrev pub declarations_text : ObjectDeclaration → List (String Z × OperationName) → List ℕ
  declarations_text object operations =
      flat_map (λ entry. declaration_text (string_bytes entry.0)
      (does_at (operations_of object) entry.1)) operations

-- where the expressions of an object are
abbrev pub scope_of : ObjectDeclaration → Bool → Within
scope_of object in_function = record { object = object; in_function = in_function; is_inner = false }

-- a component, with its range and its first value
abbrev pub ends_text : ℤ → ℤ → ℤ → List ℕ
ends_text low high first =
    codes " : Exact_Whole_Number\n        range " ++ (number_text low ++ (codes " .. "
    ++ (number_text high ++ (codes " :=\n        " ++ (number_text first ++ codes ";\n")))))

abbrev pub whole_line : List ℕ → ℤ → ℤ → ℤ → List ℕ
whole_line name low high first = codes "      Whole_Component_" ++ (name ++ ends_text low high first)

abbrev pub whole_if : ObjectDeclaration → ℕ → Option Ranged → List ℕ
whole_if object number None = []
whole_if object number (Some it) =
    whole_line (name_at object.ints.items number) it.low it.high it.value

abbrev pub whole_text : ObjectDeclaration → ℕ → List ℕ
whole_text object number = whole_if object number (get object.components.ints number)

abbrev pub truth_line : List ℕ → Bool → List ℕ
truth_line name true =
    codes "      Truth_Component_" ++ (name
    ++ codes " : Standard.Boolean :=\n        Component_Is_True;\n")
truth_line name false =
    codes "      Truth_Component_" ++ (name
    ++ codes " : Standard.Boolean :=\n        Component_Is_False;\n")

abbrev pub truth_if : ObjectDeclaration → ℕ → Option Bool → List ℕ
truth_if object number None = []
truth_if object number (Some first) = truth_line (name_at object.bools.items number) first

abbrev pub truth_text : ObjectDeclaration → ℕ → List ℕ
truth_text object number = truth_if object number (get object.components.bools number)

abbrev pub wholes_text : ObjectDeclaration → List ℕ
wholes_text object = each_below (whole_text object) (limits_of object.components).ints

abbrev pub truths_text : ObjectDeclaration → List ℕ
truths_text object = each_below (truth_text object) (limits_of object.components).bools

abbrev pub components_text : ObjectDeclaration → List ℕ
components_text object = wholes_text object ++ truths_text object

-- what an operation does
abbrev pub body_text : ObjectDeclaration → Does → List ℕ
body_text object (value expr) =
    codes "\n      is\n      begin\n         return Value_Of_This_Deck\n           ("
    ++ (expr_text (scope_of object true) expr ++ codes ");\n")
body_text object (truth cond) =
    codes "\n      is\n      begin\n         return\n           "
    ++ (cond_text (scope_of object true) cond ++ codes ";\n")
body_text object (procedure body) =
    codes "\n      is\n      begin\n         Result := 0;\n"
    ++ statements_text (scope_of object false) body 0
body_text object (entry it) =
    codes "\n        when " ++ (bool_text (scope_of object false) it.barrier
    ++ (codes "\n      is\n      begin\n         Result := 0;\n"
    ++ statements_text (scope_of object false) it.body.items 0))

abbrev pub operation_text : ObjectDeclaration → List ℕ → Option Does → List ℕ
operation_text object name None = []
operation_text object name (Some operation) =
    codes "\n" ++ (head_text name operation ++ (body_text object operation
    ++ (codes "      end " ++ (name ++ codes ";\n"))))

module _ {Z : Type 0} where
  abbrev pub bodies_text : ObjectDeclaration → List (String Z × OperationName) → List ℕ
  bodies_text object operations =
      flat_map (λ entry. operation_text object (string_bytes entry.0)
      (does_at (operations_of object) entry.1)) operations

  -- a protected object of this name
  abbrev pub object_text : List ℕ → List (String Z × OperationName) → ObjectDeclaration → List ℕ
  object_text name operations object =
      codes "\n   protected " ++ (unit_name name ++ (codes "\n     with Priority => "
      ++ (decimal object.ceiling ++ (codes "\n   is\n" ++ (declarations_text object operations
      ++ (codes "   private\n" ++ (components_text object ++ (codes "   end " ++ (unit_name name
      ++ (codes ";\n\n   protected body " ++ (unit_name name ++ (codes " is\n"
      ++ (bodies_text object operations ++ (codes "   end " ++ (unit_name name ++ codes ";\n")))))))))))))))

-- an object of a tally
abbrev pub sum_declaration : List ℕ → List ℕ
sum_declaration name =
    codes "\n   protected " ++ (name
    ++ (codes "_On_This_Machine\n     with Priority => 30\n   is\n      procedure add\n        (Argument : Value_Of_This_Deck;\n         Result   : out Value_Of_This_Deck);\n   private\n      Whole_Component_sum : Exact_Whole_Number\n        range (-9223372036854775808) .. 9223372036854775807 :=\n        0;\n   end "
    ++ (name ++ codes "_On_This_Machine;\n")))

abbrev pub sum_body : List ℕ → List ℕ
sum_body name =
    codes "\n   protected body " ++ (name
    ++ (codes "_On_This_Machine is\n\n      procedure add\n        (Argument : Value_Of_This_Deck;\n         Result   : out Value_Of_This_Deck)\n      is\n      begin\n         Whole_Component_sum :=\n           (Whole_Component_sum\n           + Exact_Whole_Number (Argument));\n         Result := Value_Of_This_Deck\n           (Whole_Component_sum);\n      end add;\n   end "
    ++ (name ++ codes "_On_This_Machine;\n")))

abbrev pub sum_text : List ℕ → List ℕ
sum_text name = sum_declaration name ++ sum_body name
