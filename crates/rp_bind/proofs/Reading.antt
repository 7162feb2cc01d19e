-- What the lines of a text declare.
use Rattle.std.proofs.Common.{◌≡◌, ℕ, ◌+◌, List, Result, Ok, Err, ap, sym, arith, length, subst}
use Rattle.std.specs.Prelude.{IfErr, IsErrAnd}
use Rattle.rp_deck_declarations.specs.rp_base.specs.declared.fault.Fault.{Fault}
use Rattle.rp_deck_declarations.specs.rp_words.specs.declared.lines.Lines.{Lines}
use Rattle.rp_deck_declarations.specs.rp_words.specs.Ahead.{left, lines_read, ahead, after_last}
use Rattle.rp_deck_declarations.specs.rp_words.specs.Lines.{lines_of, texts_from}
use Rattle.rp_deck_declarations.specs.DeclaredTexts.{known}
use Rattle.rp_deck_declarations.specs.Declaring.{declarations_of}
use Rattle.rp_bind.specs.Binds.{declared_in}

-- at the beginning of a text
pub declared_from : (text : List ℕ) (lines : Lines) → left lines ≡ text → lines_read lines ≡ 0 → known (declarations_of (after_last lines) (ahead lines)) ≡ declared_in text
declared_from text lines is none =
    let count : length (lines_of (left lines)) ≡ length (lines_of text) = ap (λ (t : List ℕ). length (lines_of t)) is in
    let first : lines_read lines + 1 ≡ 1 = omega (arith, none) in
    let last : after_last lines ≡ length (lines_of text) + 1 = omega (arith, none, count) in
    λ i. known (declarations_of (last i) (texts_from (first i) (lines_of (is i))))

pub faulted : {A : Type 0} (Q : Fault → Type 0) (fault : Fault) (answer : Result A Fault) → IsErrAnd answer (λ e. e ≡ fault) → Q fault → IfErr answer Q
faulted {A = A} Q fault (Ok done) is q = tt
faulted {A = A} Q fault (Err other) is q = subst Q (sym is) q
