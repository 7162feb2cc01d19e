-- A script has no more lines than its text has bytes.
use Rattle.std.proofs.Common.{◌≡◌, ℕ, suc, ◌+◌, ◌≤◌, Bool, true, false, List, [], ◌∷◌, length, Result, Ok, Err, refl, ap, arith, length-append, Option, Some, None}
use Rattle.std.specs.Prelude.{option_to_list, if◌then◌else◌, ◌==◌, ◌&&◌}
use Rattle.rp_deck.specs.rp_base.specs.declared.fault.DeckReason.{DeckReason}
use Rattle.rp_deck.specs.Meaning.{DeckText, deck_of, texts_of, line_after, meaning_of}
use Rattle.rp_deck.specs.ScriptLines.{LineCommand, command_line, script_of}
use Rattle.rp_deck.specs.declared.deck.Mode.{Mode}
use Rattle.rp_deck_declarations.specs.Declaring.{on_line, declarations_from, declarations_of, declaring_line, ends_declarations}
use Rattle.rp_deck_declarations.specs.Drafts.{DraftText, empty_draft, nodes_line, script_line}
use Rattle.rp_deck_declarations.specs.ScriptNames.{DeclaredNames, declared_names}
use Rattle.rp_words.specs.LineFaults.{BadLine}
use Rattle.rp_words.specs.Lines.{LineText, lines_of, texts_from, text_at, in_front, is_line_feed}
use Rattle.rp_words.specs.Reading.{◌>>=◌}
use Rattle.rp_words.specs.Words.{begins_with}

in_front_few : (byte : ℕ) (lines : List (List ℕ)) (n : ℕ) → length lines ≤ n → length (in_front byte lines) ≤ n + 1
in_front_few byte [] n few = omega arith
in_front_few byte (line ∷ lines) n few = omega arith

chosen_few : (feed returned : Bool) (byte : ℕ) (lines : List (List ℕ)) (n : ℕ) → length lines ≤ n
    → length (if feed then [] ∷ lines else if returned then lines else in_front byte lines) ≤ n + 1
chosen_few true returned byte lines n few = omega arith
chosen_few false true byte lines n few = omega arith
chosen_few false false byte lines n few = in_front_few byte lines n few

lines_few : (text : List ℕ) → length (lines_of text) ≤ length text
lines_few [] = omega arith
lines_few (byte ∷ rest) =
    let few = chosen_few (is_line_feed byte) (byte == 13 && begins_with is_line_feed rest) byte (lines_of rest) (length rest) (lines_few rest) in
    omega arith

some_few : (line : Option LineText) → length (option_to_list line) ≤ 1
some_few None = omega arith
some_few (Some line) = omega arith

texts_few : (number : ℕ) (lines : List (List ℕ)) → length (texts_from number lines) ≤ length lines
texts_few number [] = omega arith
texts_few number (line ∷ lines) =
    omega (arith, length-append (option_to_list (text_at number line)) (texts_from (number + 1) lines), some_few (text_at number line), texts_few (number + 1) lines)

-- ---- what was read well

on_line_ok : {X Y : Type 0} (number : ℕ) (read : Result X DeckReason) (next : X → Result Y BadLine) (y : Y) → on_line number read next ≡ Ok y → (x : X) × (next x ≡ Ok y)
on_line_ok number (Ok x) next y is = (x, is)
on_line_ok number (Err reason) next y is = absurd (cc)

bind_ok : {X Y : Type 0} (read : Result X BadLine) (next : X → Result Y BadLine) (y : Y) → (read >>= next) ≡ Ok y → (x : X) × (read ≡ Ok x) × (next x ≡ Ok y)
bind_ok (Ok x) next y is = (x, refl, is)
bind_ok (Err bad) next y is = absurd (cc)

script_few : (mode : Mode) (d : DeclaredNames) (lines : List LineText) (script : List LineCommand) → script_of mode d lines ≡ Ok script → length script ≤ length lines
unfolding script_of
script_few mode d [] script is = let none : [] ≡ script = cc in omega (arith, ap length none)
script_few mode d (line ∷ lines) script is =
    let first = on_line_ok line.number (command_line mode d line) _ script is in
    let rest = bind_ok (script_of mode d lines) _ script first.1 in
    let few = script_few mode d lines rest.0 rest.1 in
    let whole : record { number = line.number; command = first.0 } ∷ rest.0 ≡ script = cc (rest.2) in
    omega (arith, ap length whole)

-- a choice that came out well
chosen_ok : {Y : Type 0} (test : Bool) (one other : Result Y BadLine) (y : Y) (P : Y → Type 0) → (one ≡ Ok y → P y) → (other ≡ Ok y → P y) → (if test then one else other) ≡ Ok y → P y
chosen_ok true one other y P first second is = first is
chosen_ok false one other y P first second is = second is

declared_few : (last : ℕ) (d : DraftText) (lines : List LineText) (read : DraftText × List LineText) → declarations_from last d lines ≡ Ok read → length read.1 ≤ length lines
unfolding declarations_from
declared_few last d [] read is = absurd (cc)
declared_few last d (line ∷ lines) read is =
    chosen_ok (ends_declarations d line) _ _ read (λ r. length r.1 ≤ suc (length lines))
    (λ ended. let e = on_line_ok line.number (script_line d line.rest) _ read ended in
    let same : (d, lines) ≡ read = cc (e.1) in
    let rest : lines ≡ read.1 = ap (λ (r : DraftText × List LineText). r.1) same in omega (arith, ap length rest))
    (λ more. let e = on_line_ok line.number (declaring_line d line) _ read more in
    omega (arith, declared_few last e.0 lines read e.1))
    is

declarations_few : (last : ℕ) (lines : List LineText) (read : DraftText × List LineText) → declarations_of last lines ≡ Ok read → length read.1 ≤ length lines
unfolding declarations_of
declarations_few last [] read is = absurd (cc)
declarations_few last (line ∷ lines) read is =
    let e = on_line_ok line.number (nodes_line line) _ read is in
    omega (arith, declared_few last (empty_draft e.0) lines read e.1)

pub deck_is_short : (mode : Mode) (text : List ℕ) (deck : DeckText) → meaning_of mode text ≡ Ok deck → length deck.script ≤ length text
unfolding meaning_of
deck_is_short mode text deck is =
    let declared = bind_ok (declarations_of (line_after text) (texts_of text)) _ deck is in
    let script = bind_ok (script_of mode (declared_names declared.0.0) declared.0.1) _ deck declared.2 in
    let same : deck_of declared.0.0 script.0 ≡ deck = cc (script.2) in
    let whole : script.0 ≡ deck.script = ap (λ (t : DeckText). t.script) same in
    omega (arith, ap length whole, script_few mode (declared_names declared.0.0) declared.0.1 script.0 script.1, declarations_few (line_after text) (texts_of text) declared.0 declared.1, texts_few 1 (lines_of text), lines_few text)
