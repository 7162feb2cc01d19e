-- The functions of a rule, one after another.
use Rattle.std.proofs.Common.{◌≡◌, ℕ, zero, suc, true, false, List, [], ◌∷◌, ◌++◌, Result, Ok, Err, refl, subst, sym}
use Rattle.rp_deck.specs.rp_base.specs.declared.fault.DeckReason.{DeckReason}
use Rattle.rp_deck.specs.rp_base.specs.declared.fault.DeckReason.TheVariants.{TooMany}
use Rattle.rp_deck_declarations.specs.DeclaredTexts.{ProgramText}
use Rattle.rp_deck_declarations.specs.ScriptNames.{DeclaredNames}
use Rattle.rp_explore_deck.specs.RuleLines.{truth_at, truths_at}
use Rattle.rp_explore_deck.specs.declared.rules.Truth.{Truth}
use Rattle.rp_words.specs.Reading.{Makes}
use Rattle.rp_words.specs.Words.{is_at_end}
use Rattle.rp_words.specs.declared.line_error.LineError.{LineError}
use Rattle.rp_words.specs.declared.line_error.LineError.TheVariants.{Bad}

pub truths_end : (most : ℕ) (d : DeclaredNames) (p : ProgramText) (before : List Truth) (words : List ℕ) → is_at_end words ≡ true → truths_at most d p before words ≡ Ok before
unfolding truths_at
truths_end zero d p before words is = rw is refl
truths_end (suc most) d p before words is = rw is refl

pub truths_more : (most left : ℕ) (d : DeclaredNames) (p : ProgramText) (before : List Truth) (words : List ℕ) (truth : Truth × List ℕ) → most ≡ suc left → is_at_end words ≡ false → truth_at d p words ≡ Ok truth → truths_at most d p before words ≡ truths_at left d p (before ++ truth.0 ∷ []) truth.1
unfolding truths_at
truths_more most left d p before words truth room more is = subst (λ (n : ℕ). truths_at n d p before words ≡ truths_at left d p (before ++ truth.0 ∷ []) truth.1) (sym room) (rw (more, is) refl)

pub truths_bad : (most left : ℕ) (d : DeclaredNames) (p : ProgramText) (before : List Truth) (words : List ℕ) (reason : DeckReason) → most ≡ suc left → is_at_end words ≡ false → truth_at d p words ≡ Err reason → truths_at most d p before words ≡ Err reason
unfolding truths_at
truths_bad most left d p before words reason room more is = subst (λ (n : ℕ). truths_at n d p before words ≡ Err reason) (sym room) (rw (more, is) refl)

pub truths_full : (most : ℕ) (d : DeclaredNames) (p : ProgramText) (before : List Truth) (words : List ℕ) → most ≡ zero → is_at_end words ≡ false → truths_at most d p before words ≡ Err TooMany
unfolding truths_at
truths_full most d p before words none more = subst (λ (n : ℕ). truths_at n d p before words ≡ Err TooMany) (sym none) (rw more refl)

-- a bad word is told
pub bad_makes : {X Y : Type 0} (view : X → Y) (result : Result X LineError) (reason : DeckReason) (read : Result Y DeckReason) → result ≡ Err (Bad reason) → read ≡ Err reason → Makes view result read
bad_makes view result reason read is bad = subst (λ (r : Result _ LineError). Makes view r read) (sym is) bad
