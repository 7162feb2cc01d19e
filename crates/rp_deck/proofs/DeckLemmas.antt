-- The deck of what was declared and a script.
use Rattle.std.proofs.Common.{◌≡◌, ℕ, ◌+◌, List, Result, Ok, Err, ap, sym, refl, ◌∙◌, arith, length}
use Rattle.rp_words.specs.rp_base.specs.declared.fault.Fault.{Fault}
use Rattle.rp_words.specs.rp_base.specs.declared.fault.Fault.TheVariants as faults
use Rattle.rp_deck.specs.declared.deck.Mode.{Mode}
use Rattle.rp_words.specs.declared.lines.Lines.{Lines}
use Rattle.rp_words.specs.Ahead.{left, lines_read, ahead, after_last}
use Rattle.rp_words.specs.LineFaults.{Refuses, BadLine}
use Rattle.rp_deck_declarations.specs.Declaring.{declarations_of}
use Rattle.rp_deck_declarations.specs.Drafts.{DraftText}
use Rattle.rp_words.specs.Lines.{LineText, lines_of, texts_from}
use Rattle.rp_deck.specs.Meaning.{DeckText, deck_of, texts_of, line_after, meaning_of}
use Rattle.rp_deck_declarations.specs.DeclaredTexts.{DeclaredText, known}
use Rattle.rp_words.specs.Reading.{◌>>=◌}
use Rattle.rp_deck_declarations.specs.ScriptNames.{DeclaredNames, declared_names}
use Rattle.rp_deck.specs.ScriptLines.{LineCommand, script_of}

-- what is declared, and a script of these lines
abbrev pub with_script : DeclaredText → List LineCommand → DeckText
with_script declared script = record { declared = declared; script = script }

-- what the declarations and then the script say
abbrev and_script : Mode → Result (DraftText × List LineText) BadLine → Result DeckText BadLine
and_script mode read = read >>= (λ (declared : DraftText × List LineText). script_of mode (declared_names declared.0) declared.1 >>= (λ (script : List LineCommand). Ok (deck_of declared.0 script)))

-- the same of what is known after the declarations
abbrev pub and_known : Mode → Result (DeclaredNames × DeclaredText × List LineText) BadLine → Result DeckText BadLine
and_known mode read = read >>= (λ (k : DeclaredNames × DeclaredText × List LineText). script_of mode k.0 k.2 >>= (λ (script : List LineCommand). Ok (with_script k.1 script)))

same_script : (mode : Mode) (read : Result (DraftText × List LineText) BadLine) → and_script mode read ≡ and_known mode (known read)
same_script mode (Ok declared) = refl
same_script mode (Err bad) = refl

pub meaning_is : (mode : Mode) (text : List ℕ) → meaning_of mode text ≡ and_known mode (known (declarations_of (line_after text) (texts_of text)))
unfolding meaning_of
meaning_is mode text = same_script mode (declarations_of (line_after text) (texts_of text))

-- ---- at the beginning of a text

starts : (lines : Lines) (text : List ℕ) → left lines ≡ text → lines_read lines ≡ 0 → (after_last lines ≡ line_after text) × (ahead lines ≡ texts_of text)
starts lines text is none =
    let count : length (lines_of (left lines)) ≡ length (lines_of text) = ap (λ (t : List ℕ). length (lines_of t)) is in
    let first : lines_read lines + 1 ≡ 1 = omega (arith, none) in
    (omega (arith, none, count), (λ i. texts_from (first i) (lines_of (is i))))

pub meaning_from : (mode : Mode) (text : List ℕ) (lines : Lines) → left lines ≡ text → lines_read lines ≡ 0 → meaning_of mode text ≡ and_known mode (known (declarations_of (after_last lines) (ahead lines)))
meaning_from mode text lines is none =
    let start = starts lines text is none in
    meaning_is mode text ∙ (λ i. and_known mode (known (declarations_of (sym start.0 i) (sym start.1 i))))

-- ---- what the reader answers

-- a fault of the declarations is one of the deck
pub refused_before : (mode : Mode) (fault : Fault) (read : Result (DeclaredNames × DeclaredText × List LineText) BadLine) (meaning : Result DeckText BadLine) → meaning ≡ and_known mode read → Refuses fault read → Refuses fault meaning
refused_before mode faults.OutOfMemory read meaning is refused = tt
refused_before mode (faults.BadDeck line reason) read meaning is refused = is ∙ ap (and_known mode) refused
refused_before mode _ read meaning is refused = absurd refused

-- and so is one of the script
pub refused_in_script : (fault : Fault) (deck : DeclaredText) (read : Result (List LineCommand) BadLine) (meaning : Result DeckText BadLine) → meaning ≡ (read >>= (λ (script : List LineCommand). Ok (with_script deck script))) → Refuses fault read → Refuses fault meaning
refused_in_script faults.OutOfMemory deck read meaning is refused = tt
refused_in_script (faults.BadDeck line reason) deck read meaning is refused = is ∙ ap (λ (r : Result (List LineCommand) BadLine). r >>= (λ (script : List LineCommand). Ok (with_script deck script))) refused
refused_in_script _ deck read meaning is refused = absurd refused
