-- What a deck is bound by.
use Rattle.std.specs.Prelude.{◌≡◌, ℕ, ◌+◌, List, [], ◌∷◌, length, option_map, Option, Some, None}
use Rattle.std.specs.Prelude.{Result, Ok, String, string_bytes, map}
use Rattle.std.specs.Arc.{arc_value}
use Rattle.rp_deck_declarations.specs.indexmap.specs.IndexMap.{IndexMap}
use Rattle.rp_deck_declarations.specs.rp_words.specs.LineFaults.{BadLine}
use Rattle.rp_deck_declarations.specs.rp_words.specs.Lines.{LineText, lines_of, texts_from}
use Rattle.rp_deck_declarations.specs.rp_words.specs.Tables.{key_names, set_names}
use Rattle.rp_deck_declarations.specs.rp_deck_objects.specs.declared.names.OperationName.{OperationName}
use Rattle.rp_deck_declarations.specs.rp_object.specs.declared.program.ObjectDeclaration.{ObjectDeclaration}
use Rattle.rp_deck_declarations.specs.declared.declarations.Declared.{Declared}
use Rattle.rp_deck_declarations.specs.declared.deck_program.DeckProgram.{DeckProgram}
use Rattle.rp_deck_declarations.specs.declared.deck_program.DeckProgram.TheVariants as programs
use Rattle.rp_deck_declarations.specs.DeclaredTexts.{DeclaredText, known}
use Rattle.rp_deck_declarations.specs.DeclaredViews.{declared_text, names_of}
use Rattle.rp_deck_declarations.specs.Declaring.{declarations_of}
use Rattle.rp_deck_declarations.specs.ScriptNames.{DeclaredNames}
use Rattle.rp_bind.specs.declared.deck_binding.Binding.{Binding}
use Rattle.rp_bind.specs.declared.deck_binding.Binding.TheVariants.{Packages, Refused}
use Rattle.rp_bind.specs.declared.lines.Language.{Language}
use Rattle.rp_bind.specs.Names.{BadNameText, bad_line, first_bad, first_bad_part}
use Rattle.rp_bind.specs.Packages.{packages_text}

-- the first of two, if it is there
abbrev pub or_else : {X : Type 0} → Option X → Option X → Option X
or_else None other = other
or_else (Some x) other = Some x

module _ {Y S : Type 0} where
  -- the first name among the operations of these objects that is none of Ada
  abbrev pub first_bad_among : List (IndexMap (String Y) OperationName S) → Option BadNameText
  first_bad_among [] = None
  first_bad_among (operations ∷ rest) =
      or_else (first_bad (key_names operations)) (first_bad_among rest)

-- the first name of a component that is none of Ada after its prefix: of an object, of these, and of
-- a program
abbrev pub first_bad_of_object : ObjectDeclaration → Option BadNameText
first_bad_of_object object =
    or_else (first_bad_part (map string_bytes object.ints.items))
    (first_bad_part (map string_bytes object.bools.items))

abbrev pub first_bad_inside : List ObjectDeclaration → Option BadNameText
first_bad_inside [] = None
first_bad_inside (object ∷ rest) = or_else (first_bad_of_object object) (first_bad_inside rest)

abbrev pub first_bad_component : DeckProgram → Option BadNameText
first_bad_component (programs.Tally count) = None
first_bad_component (programs.Objects program) =
    first_bad_inside (arc_value program.declarations).objects.items

-- the first name of a deck that is none of Ada: a task's, an object's, an operation's, a component's,
-- an interrupt's, or a timing event's
abbrev pub first_bad_of : Declared → Option BadNameText
first_bad_of declared =
    or_else (first_bad (key_names declared.tasks))
    (or_else (first_bad (set_names declared.objects))
    (or_else (first_bad_among declared.operations.items)
    (or_else (first_bad_component declared.program)
    (or_else (first_bad (key_names declared.interrupts)) (first_bad (key_names declared.timers))))))

-- the packages, or the line that says which name is bad and why
abbrev pub Binds : Language → Declared → Binding → Type 0
Binds language declared (Packages text) =
    (first_bad_of declared ≡ None) × (string_bytes text ≡ packages_text language declared)
Binds language declared (Refused text) =
    option_map bad_line (first_bad_of declared) ≡ Some (string_bytes text)

-- what the lines of a text up to `script` declare, or the first bad line
abbrev pub declared_in : List ℕ → Result (DeclaredNames × DeclaredText × List LineText) BadLine
declared_in text = known (declarations_of (length (lines_of text) + 1) (texts_from 1 (lines_of text)))

-- the text declares this, by which it is bound
pub record BindsText (language : Language) (text : List ℕ) (binding : Binding) : Type 0 where
  pub declared : Declared
  pub rest : List LineText
  pub declares : declared_in text ≡ Ok (names_of declared, declared_text declared, rest)
  pub binds : Binds language declared binding
