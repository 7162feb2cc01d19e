-- The program of a deck.
use Rattle.std.specs.Prelude.{ℕ, ◌≡◌, true, Some, String, List, All, length, map, slice_get}
use Rattle.std.specs.Prelude.{string_bytes}
use Rattle.std.specs.Arc.{arc_value}
use Rattle.rp_words.specs.indexmap.specs.IndexMap.{IndexMap, values}
use Rattle.rp_object.specs.rp_base.specs.declared.action.Operation.{Operation}
use Rattle.rp_object.specs.rp_base.specs.declared.action.Operation.TheVariants.{Procedure}
use Rattle.rp_object.specs.Program.{operations_of, is_offered}
use Rattle.rp_object.specs.declared.program.Handler.{Handler}
use Rattle.rp_object.specs.declared.program.Declarations.{Declarations}
use Rattle.rp_deck_declarations.specs.declared.deck_program.DeckProgram.{DeckProgram}
use Rattle.rp_deck_declarations.specs.declared.deck_program.DeckProgram.TheVariants.{Tally, Objects}
use Rattle.rp_deck_objects.specs.declared.names.OperationName.{OperationName}
use Rattle.rp_object.specs.declared.program.ObjectDeclaration.{ObjectDeclaration}
use Rattle.rp_deck_objects.specs.ObjectLimits.{AreNamed}
use Rattle.rp_deck_objects.specs.ObjectViews.{operation_of}

-- how many objects it has
abbrev pub object_count : DeckProgram → ℕ
object_count (Tally program) = program
object_count (Objects program) = length (arc_value program.declarations).objects.items

-- the tasks have these priorities, the interrupts and the timing events these handlers, and the
-- timing events these names, in order
pub record Declares (priorities : List ℕ) (interrupts timers : List Handler) (names : List (List ℕ))
    (declarations : Declarations) : Type 0 where
  pub has_priorities : declarations.priorities.items ≡ priorities
  pub has_interrupts : declarations.interrupts.items ≡ interrupts
  pub has_timers : map (λ timer. timer.handler) declarations.timers.items ≡ timers
  pub has_timer_names : map (λ timer. string_bytes timer.name) declarations.timers.items ≡ names

-- and so do those of the deck's program; a tally has none of them
abbrev pub DeclaresAll : List ℕ → List Handler → List Handler → List (List ℕ) → DeckProgram → Type 0
DeclaresAll priorities interrupts timers names (Tally program) = Unit {0}
DeclaresAll priorities interrupts timers names (Objects program) =
    Declares priorities interrupts timers names (arc_value program.declarations)

module _ {Y S : Type 0} where
  -- each of the names of each object denotes one of its operations, in order
  abbrev pub AreAllNamed : List ObjectDeclaration → List (IndexMap (String Y) OperationName S)
      → Type 0
  AreAllNamed objects names =
      (k : ℕ) (object : ObjectDeclaration) (own : IndexMap (String Y) OperationName S)
      → slice_get objects k ≡ Some object → slice_get names k ≡ Some own
      → AreNamed (operations_of object) own

-- these are the names of the operations of the program's objects, in order; an object of a tally
-- has the procedure `add` alone
abbrev pub AreNamesOf : {Y S : Type 0} → DeckProgram → List (IndexMap (String Y) OperationName S)
    → Type 0
AreNamesOf {Y} {S} (Tally program) names =
    (k : ℕ) (own : IndexMap (String Y) OperationName S) → slice_get names k ≡ Some own
    → All (λ name. operation_of name ≡ Procedure 1) (values own)
AreNamesOf (Objects program) names =
    AreAllNamed (arc_value program.declarations).objects.items names

-- the object of this number has what is called: an operation, or the handler of a timing event
abbrev pub IsOffered : DeckProgram → ℕ → Operation → Type 0
IsOffered (Tally program) object operation = operation ≡ Procedure 1
IsOffered (Objects program) object operation =
    is_offered (arc_value program.declarations) object operation ≡ true
