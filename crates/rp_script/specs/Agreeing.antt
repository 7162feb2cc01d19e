-- What holds of the output of a deck's run, and of the program's output for all bytes that it
-- reads.
use Rattle.std.specs.Prelude.{◌≡◌, ◌⊎◌, ℕ, Bool, Option, List}
use Rattle.std.specs.Io.KnownBytes.{Appends}
use Rattle.rp_run.specs.Agreeing.{RunPrints}
use Rattle.rp_output.specs.Stream.{Begins}
use Rattle.rp_script.specs.Given.{MeansDeck}
use Rattle.rp_script.specs.Output.{drain_limit, output_of, tally_run, objects_run}
use Rattle.rp_deck.specs.declared.deck.Deck.{Deck}
use Rattle.rp_deck.specs.declared.deck.Mode.TheVariants.{Script}
use Rattle.rp_deck.specs.rp_deck_declarations.specs.declared.deck_program.DeckProgram.{DeckProgram}
use Rattle.rp_deck.specs.rp_deck_declarations.specs.declared.deck_program.DeckProgram.TheVariants.{Tally}
use Rattle.rp_deck.specs.rp_deck_declarations.specs.declared.deck_program.DeckProgram.TheVariants.{Objects}

-- the texts of the items of a deck's lines were written, one order gives them, and nodes agree, for
-- its program
abbrev pub PrintsAt : Bool → Deck → Option (List ℕ) → Option (List ℕ) → DeckProgram → Type 0
PrintsAt traced deck old new (Tally objects) =
    RunPrints (tally_run traced deck objects) drain_limit deck.script.items old new
PrintsAt traced deck old new (Objects program) =
    RunPrints (objects_run traced deck program) drain_limit deck.script.items old new

abbrev pub DeckPrints : Bool → Deck → Option (List ℕ) → Option (List ℕ) → Type 0
DeckPrints traced deck old new = PrintsAt traced deck old new deck.program

-- what a run of a script prints: the output of the deck that the reader's bytes mean, of which
-- `DeckPrints` holds
abbrev pub ScriptPrints : Bool → Option (List ℕ) → Option (List ℕ) → Option (List ℕ) → Type 0
ScriptPrints traced given old new =
    (deck : Deck) × MeansDeck Script given deck × Appends old new (output_of traced deck)
    × DeckPrints traced deck old new

-- what it prints if a fault ends it: nothing, or a prefix of that deck's output
abbrev pub ScriptBegins : Bool → Option (List ℕ) → Option (List ℕ) → Option (List ℕ) → Type 0
ScriptBegins traced given old new =
    (new ≡ old)
    ⊎ ((deck : Deck) × MeansDeck Script given deck × Begins old new (output_of traced deck))
