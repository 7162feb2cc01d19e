-- The lines of a script, one after the other.
use Rattle.std.proofs.Common.{◌≡◌, true, List, [], ◌∷◌, ◌++◌, Result, Ok, Err, refl, ap, sym, ◌∙◌, append_assoc}
use Rattle.std.proofs.lemmas.List.{append-nil}
use Rattle.rp_deck.specs.declared.deck.Command.{Command}
use Rattle.rp_deck.specs.declared.deck.Mode.{Mode}
use Rattle.rp_deck.specs.declared.deck.Mode.TheVariants.{Script, Live}
use Rattle.rp_deck.specs.declared.verbs.Verb.{Verb}
use Rattle.rp_deck_declarations.specs.Declaring.{on_line}
use Rattle.rp_words.specs.LineFaults.{BadLine}
use Rattle.rp_deck.specs.Live.{IsTaken, IsLiveCommand}
use Rattle.rp_words.specs.Lines.{LineText}
use Rattle.rp_words.specs.rp_base.specs.declared.fault.DeckReason.{DeckReason}
use Rattle.rp_words.specs.Reading.{◌>>=◌}
use Rattle.rp_deck_declarations.specs.ScriptNames.{DeclaredNames}
use Rattle.rp_deck.specs.ScriptLines.{LineCommand, CommandText, takes, is_live, command_line, script_of}

-- a mode that takes a verb takes what is read after it
pub taken_by : (mode : Mode) (verb : Verb) (command : Command) → takes mode verb ≡ true → (is_live verb ≡ true → IsLiveCommand command) → IsTaken mode command
taken_by Script verb command takes live = tt
taken_by Live verb command takes live = live takes

-- what is read after these commands
abbrev pub goes_on : List LineCommand → Result (List LineCommand) BadLine → Result (List LineCommand) BadLine
goes_on before (Ok after) = Ok (before ++ after)
goes_on before (Err bad) = Err bad

pub goes_on_more : (before : List LineCommand) (line : LineCommand) (read : Result (List LineCommand) BadLine) → goes_on before (goes_on (line ∷ []) read) ≡ goes_on (before ++ line ∷ []) read
goes_on_more before line (Ok after) = ap Ok (sym (append_assoc before (line ∷ []) after))
goes_on_more before line (Err bad) = refl

-- one line more
first_of : (line : LineCommand) (read : Result (List LineCommand) BadLine) → (read >>= (λ rest. Ok (line ∷ rest))) ≡ goes_on (line ∷ []) read
first_of line (Ok rest) = refl
first_of line (Err bad) = refl

pub script_line_read : (mode : Mode) (d : DeclaredNames) (line : LineText) (lines : List LineText) (command : CommandText) → command_line mode d line ≡ Ok command
    → script_of mode d (line ∷ lines) ≡ goes_on (record { number = line.number; command = command } ∷ []) (script_of mode d lines)
unfolding script_of
script_line_read mode d line lines command is =
    ap (λ (read : Result CommandText DeckReason). on_line line.number read (λ (c : CommandText). script_of mode d lines >>= (λ (rest : List LineCommand). Ok (record { number = line.number; command = c } ∷ rest)))) is
    ∙ first_of (record { number = line.number; command = command }) (script_of mode d lines)

pub script_line_bad : (mode : Mode) (d : DeclaredNames) (line : LineText) (lines : List LineText) (reason : DeckReason) → command_line mode d line ≡ Err reason
    → script_of mode d (line ∷ lines) ≡ Err (record { line = line.number; reason = reason })
unfolding script_of
script_line_bad mode d line lines reason is =
    ap (λ (read : Result CommandText DeckReason). on_line line.number read (λ (c : CommandText). script_of mode d lines >>= (λ (rest : List LineCommand). Ok (record { number = line.number; command = c } ∷ rest)))) is

pub script_end : (mode : Mode) (d : DeclaredNames) → script_of mode d [] ≡ Ok []
unfolding script_of
script_end mode d = refl

pub nothing_more : (before : List LineCommand) → goes_on before (Ok []) ≡ Ok before
nothing_more before = ap Ok (append-nil before)
