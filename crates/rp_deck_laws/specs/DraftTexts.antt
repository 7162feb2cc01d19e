-- Lines that change what is declared so far.
use Rattle.std.specs.Prelude.{ℕ, ◌≡◌, List, [], ◌∷◌, ◌++◌}
use Rattle.rp_deck_declarations.specs.Declaring.{declarations_from}
use Rattle.rp_deck_declarations.specs.Drafts.{DraftText}
use Rattle.rp_deck_declarations.specs.rp_deck_objects.specs.Objects.{ObjectText}
use Rattle.rp_words.specs.Lines.{LineText}
use Rattle.rp_deck_laws.specs.ScriptText.{numbered_lines}

-- what is declared where this is the last object
abbrev pub at_object : DraftText → List ObjectText → ObjectText → DraftText
at_object d before o = record d { drafts = before ++ o ∷ [] }

-- after these lines the declarations go on from the other draft, whatever the lines' numbers and
-- whatever follows
abbrev pub Declares : DraftText → List (List (List ℕ)) → DraftText → Type 0
Declares d lines after =
    (last number : ℕ) (rest : List LineText)
    → declarations_from last d (numbered_lines number lines ++ rest)
    ≡ declarations_from last after rest
