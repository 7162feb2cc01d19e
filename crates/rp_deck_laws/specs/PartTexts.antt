-- The lines of an object: one way to write each part of it, which reading gives back.
use Rattle.std.specs.Prelude.{ℕ, ◌≡◌, ◌<◌, ◌≤◌, ℤ, FitsSigned, Bool, true, false, IsTrue, List, []}
use Rattle.std.specs.Prelude.{◌∷◌, ◌++◌, ◌==◌, codes, length, None, if◌then◌else◌}
use Rattle.std.specs.FinMap.{len}
use Rattle.std.specs.Fmt.{decimal, signed_decimal}
use Rattle.std.specs.Int.{w64}
use Rattle.rp_deck_declarations.specs.rp_body.specs.Store.{is_within}
use Rattle.rp_deck_declarations.specs.rp_object.specs.declared.program.Profile.{Profile}
use Rattle.rp_deck_declarations.specs.rp_object.specs.declared.program.Profile.TheVariants.{Ravenscar}
use Rattle.rp_deck_declarations.specs.rp_object.specs.declared.program.Profile.TheVariants.{Jorvik}
use Rattle.rp_deck_declarations.specs.rp_deck_objects.specs.declared.objects.Head.TheVariants as heads
use Rattle.rp_deck_declarations.specs.rp_deck_bodies.specs.Bodies.{BodyText}
use Rattle.rp_deck_laws.specs.BodyTexts.{body_count, body_lines, IsBodyOf}
use Rattle.rp_deck_declarations.specs.rp_deck_objects.specs.Objects.{with_int, with_bool}
use Rattle.rp_deck_declarations.specs.rp_deck_objects.specs.Objects.{with_function, ObjectText}
use Rattle.rp_deck_declarations.specs.rp_deck_objects.specs.Objects.{FunctionText, Value, Truth}
use Rattle.rp_deck_declarations.specs.rp_deck_objects.specs.Objects.{most_entries, completed_as}
use Rattle.rp_deck_laws.specs.ExpressionTexts.{is_bool, component_name, HasOne, AreComponents}
use Rattle.rp_deck_laws.specs.ExpressionTexts.{expr_nodes, cond_nodes, expr_words, cond_words}
use Rattle.rp_deck_laws.specs.ExpressionTexts.{IsExprOf, IsCondOf, truth_word}
use Rattle.rp_deck_declarations.specs.rp_deck_bodies.specs.Expressions.{expression_words}
use Rattle.rp_deck.specs.Script.{IsUpTo}
use Rattle.rp_words.specs.Tables.{is_declared}
use Rattle.rp_words.specs.Words.{is_name}

-- what an object declares
pub data PartText : Type 0 where
  IntPart : (name : List ℕ) (low high value : ℤ) → PartText
  BoolPart : (name : List ℕ) (value : Bool) → PartText
  FunctionPart : (name : List ℕ) (function : FunctionText) → PartText
  ProcedurePart : (name : List ℕ) (body : BodyText) → PartText
  EntryPart : (name : List ℕ) (barrier longest : ℕ) (body : BodyText) → PartText

-- what an object has with it
abbrev pub with_part : ObjectText → PartText → ObjectText
with_part o (IntPart name low high value) =
    with_int o name (record { low = low; high = high; value = value })
with_part o (BoolPart name value) = with_bool o name value
with_part o (FunctionPart name function) = with_function o name function
with_part o (ProcedurePart name body) = completed_as heads.Procedure name body o
with_part o (EntryPart name barrier longest body) =
    completed_as (heads.Entry barrier longest) name body o

-- ---- lines

abbrev pub function_words : ObjectText → FunctionText → List (List ℕ)
function_words o (Value value) = codes "value" ∷ expr_words o.component_names o.components value
function_words o (Truth truth) = codes "truth" ∷ cond_words o.component_names o.components truth

-- a queue of one call is not written
abbrev pub queue_words : Profile → ℕ → List (List ℕ)
queue_words Ravenscar longest = []
queue_words Jorvik longest =
    if longest == 1 then [] else codes "queue" ∷ decimal longest ∷ []

abbrev pub ended : ObjectText → BodyText → List (List (List ℕ))
ended o body = body_lines o.component_names o.components body ++ (codes "end" ∷ []) ∷ []

abbrev pub part_lines : Profile → ObjectText → PartText → List (List (List ℕ))
part_lines profile o (IntPart name low high value) =
    (codes "int" ∷ name ∷ signed_decimal low ∷ signed_decimal high ∷ signed_decimal value ∷ []) ∷ []
part_lines profile o (BoolPart name value) =
    (codes "bool" ∷ name ∷ truth_word [] [] value ∷ []) ∷ []
part_lines profile o (FunctionPart name function) =
    (codes "function" ∷ name ∷ function_words o function) ∷ []
part_lines profile o (ProcedurePart name body) = (codes "procedure" ∷ name ∷ []) ∷ ended o body
part_lines profile o (EntryPart name barrier longest body) =
    (codes "entry" ∷ name ∷ codes "when"
    ∷ component_name (is_bool barrier) o.component_names o.components
    ∷ queue_words profile longest) ∷ ended o body

-- ---- which parts an object may have

-- a name that is not among these
abbrev pub IsNew : List (List ℕ) → List ℕ → Type 0
IsNew names name = IsTrue (is_name name) × (is_declared name names ≡ false)

abbrev pub IsFunctionOf : ObjectText → FunctionText → Type 0
IsFunctionOf o (Value value) =
    IsExprOf o.component_names o.components value × (expr_nodes value ≤ 32)
IsFunctionOf o (Truth truth) =
    IsCondOf o.component_names o.components truth × (cond_nodes truth ≤ 32)

abbrev pub IsLongest : Profile → ℕ → Type 0
IsLongest Ravenscar longest = longest ≡ 1
IsLongest Jorvik longest = IsUpTo 8 longest

abbrev pub IsWholeBody : ObjectText → BodyText → Type 0
IsWholeBody o body =
    AreComponents o.component_names o.components × IsBodyOf o.component_names o.components 0 body
    × (body_count body ≤ 64)

abbrev pub IsPartOf : Profile → ObjectText → PartText → Type 0
IsPartOf profile o (IntPart name low high value) =
    (len o.store.ints < 8) × IsNew o.component_names name
    × (is_declared name expression_words ≡ false)
    × FitsSigned w64 low × FitsSigned w64 high × FitsSigned w64 value
    × (is_within low high value ≡ true)
IsPartOf profile o (BoolPart name value) =
    (len o.store.bools < 8) × IsNew o.component_names name
    × (is_declared name expression_words ≡ false)
IsPartOf profile o (FunctionPart name function) =
    (length o.functions < 8) × IsNew o.operation_names name
    × AreComponents o.component_names o.components
    × IsFunctionOf o function
IsPartOf profile o (ProcedurePart name body) =
    (length o.procedures < 8) × IsNew o.operation_names name × IsWholeBody o body
IsPartOf profile o (EntryPart name barrier longest body) =
    (length o.entries < most_entries profile) × IsNew o.operation_names name
    × HasOne (is_bool barrier) o.components
    × IsLongest profile longest × IsWholeBody o body

-- parts, one after another
abbrev pub with_parts : ObjectText → List PartText → ObjectText
with_parts o [] = o
with_parts o (part ∷ parts) = with_parts (with_part o part) parts

abbrev pub parts_lines : Profile → ObjectText → List PartText → List (List (List ℕ))
parts_lines profile o [] = []
parts_lines profile o (part ∷ parts) =
    part_lines profile o part ++ parts_lines profile (with_part o part) parts

abbrev pub ArePartsOf : Profile → ObjectText → List PartText → Type 0
ArePartsOf profile o [] = Unit {0}
ArePartsOf profile o (part ∷ parts) =
    IsPartOf profile o part × ArePartsOf profile (with_part o part) parts

-- an object no body of which is open
abbrev pub shut : ObjectText → ObjectText
shut o = record o { open_operation = None }
