-- The plan of a deck and of what its added lines say.
use Rattle.std.proofs.Common.{◌≡◌, ℕ, ◌+◌, Bool, true, false, List, length, Result, Ok, Err, refl, ap, arith, subst, sym, ◌∙◌}
use Rattle.std.specs.Prelude.{nat_lt, if◌then◌else◌, IfOk, IfErr}
use Rattle.rp_deck.specs.rp_base.specs.declared.fault.DeckReason.{DeckReason}
use Rattle.rp_deck.specs.rp_base.specs.declared.fault.Fault.{Fault}
use Rattle.rp_deck.specs.rp_base.specs.declared.fault.Fault.TheVariants as faults
use Rattle.rp_deck.specs.Meaning.{DeckText, texts_of, line_after, meaning_of}
use Rattle.rp_deck.specs.declared.deck.Deck.{Deck}
use Rattle.rp_deck.specs.declared.deck.Mode.TheVariants.{Live}
use Rattle.rp_deck_declarations.specs.DeclaredTexts.{DeclaredText, known}
use Rattle.rp_deck_declarations.specs.Declaring.{declarations_of}
use Rattle.rp_deck_declarations.specs.ScriptNames.{DeclaredNames}
use Rattle.rp_explore_deck.specs.AddedLines.{Added, added_lines, plain_text}
use Rattle.rp_explore_deck.specs.Plans.{PlanText, additions_of, plan_with, planned, plan_of, above, first_fault}
use Rattle.rp_explore_deck.specs.declared.guard_lines.GuardLine.{GuardLine}
use Rattle.rp_explore_deck.specs.RuleLines.{PlacedRuleText}
use Rattle.rp_explore_deck.specs.declared.plan.Plan.{Plan}
use Rattle.rp_words.specs.Ahead.{left, lines_read, ahead, after_last}
use Rattle.rp_words.specs.LineFaults.{BadLine, IsDeckFault, Refuses, Reads}
use Rattle.rp_words.specs.Lines.{LineText, lines_of, texts_from}
use Rattle.rp_words.specs.Reading.{◌>>=◌}
use Rattle.rp_words.specs.declared.lines.Lines.{Lines}

abbrev pub declared_plan : Added → List ℕ → Result (DeclaredNames × DeclaredText × List LineText) BadLine → Result PlanText BadLine
declared_plan added text read = read >>= (λ (names : DeclaredNames × DeclaredText × List LineText). planned (meaning_of Live (plain_text added text)) (additions_of names.0 names.1.program added (texts_of text)))

pub plan_is : (text : List ℕ) → let added = added_lines (texts_of text) in let plain = plain_text added text in
    plan_of text ≡ declared_plan added text (known (declarations_of (line_after plain) (texts_of plain)))
unfolding plan_of
plan_is text = refl

-- at the beginning of a text
starts : (lines : Lines) (text : List ℕ) → left lines ≡ text → lines_read lines ≡ 0 → (after_last lines ≡ line_after text) × (ahead lines ≡ texts_of text)
starts lines text is none =
    let count : length (lines_of (left lines)) ≡ length (lines_of text) = ap (λ (t : List ℕ). length (lines_of t)) is in
    let first : lines_read lines + 1 ≡ 1 = omega (arith, none) in
    (omega (arith, none, count), (λ i. texts_from (first i) (lines_of (is i))))

pub plan_from : (text plain : List ℕ) (added : Added) (lines : Lines) → added ≡ added_lines (texts_of text) → plain ≡ plain_text added text → left lines ≡ plain → lines_read lines ≡ 0
    → plan_of text ≡ declared_plan added text (known (declarations_of (after_last lines) (ahead lines)))
plan_from text plain added lines added_is plain_is is none =
    let start = starts lines plain is none in
    plan_is text
    ∙ (λ i. declared_plan (sym added_is i) text (known (declarations_of (line_after (plain_text (sym added_is i) text)) (texts_of (plain_text (sym added_is i) text)))))
    ∙ (λ i. declared_plan added text (known (declarations_of (line_after (sym plain_is i)) (texts_of (sym plain_is i)))))
    ∙ (λ i. declared_plan added text (known (declarations_of (sym start.0 i) (sym start.1 i))))

-- a fault of the declarations is one of the plan
pub refused_before : (added : Added) (text : List ℕ) (fault : Fault) (read : Result (DeclaredNames × DeclaredText × List LineText) BadLine) (plan : Result PlanText BadLine) → plan ≡ declared_plan added text read → Refuses fault read → Refuses fault plan
refused_before added text faults.OutOfMemory read plan is refused = tt
refused_before added text (faults.BadDeck line reason) read plan is refused = is ∙ ap (declared_plan added text) refused
refused_before added text _ read plan is refused = absurd refused

-- a fault of the deck, where the added lines are right
pub refused_deck : (fault : Fault) (deck : Result DeckText BadLine) (added : Result (List PlacedRuleText × List GuardLine) BadLine) (read : List PlacedRuleText × List GuardLine) (plan : Result PlanText BadLine) → plan ≡ planned deck added → Refuses fault deck → added ≡ Ok read → Refuses fault plan
refused_deck faults.OutOfMemory deck added read plan is refused good = tt
refused_deck (faults.BadDeck line reason) deck added read plan is refused good = is ∙ (λ i. planned (refused i) (good i))
refused_deck _ deck added read plan is refused good = absurd refused

-- the fault on the line with the lower number
lower : (test : Bool) (line other : ℕ) (reason why : DeckReason) (plan : Result PlanText BadLine) → plan ≡ Err (if test then record { line = line; reason = reason } else record { line = other; reason = why })
    → Refuses (if test then faults.BadDeck line reason else faults.BadDeck other why) plan
lower true line other reason why plan is = is
lower false line other reason why plan is = is

refused_both : (fault second : Fault) (deck : Result DeckText BadLine) (added : Result (List PlacedRuleText × List GuardLine) BadLine) (plan : Result PlanText BadLine) → plan ≡ planned deck added → Refuses fault added → Refuses second deck → Refuses (above fault second) plan
refused_both faults.OutOfMemory second deck added plan is refused also = tt
refused_both (faults.BadDeck line reason) faults.OutOfMemory deck added plan is refused also = tt
refused_both (faults.BadDeck line reason) (faults.BadDeck other why) deck added plan is refused also = lower (nat_lt line other) line other reason why plan (is ∙ (λ i. planned (also i) (refused i)))
refused_both (faults.BadDeck line reason) _ deck added plan is refused also = absurd also
refused_both _ second deck added plan is refused also = absurd refused

-- a fault of an added line, whatever the deck
pub refused_added : {X : Type 0} (view : X → DeckText) (fault : Fault) (read : Result X Fault) (deck : Result DeckText BadLine) (added : Result (List PlacedRuleText × List GuardLine) BadLine) (plan : Result PlanText BadLine) → plan ≡ planned deck added → Refuses fault added → Reads view read deck → Refuses (first_fault fault read) plan
refused_added view faults.OutOfMemory (Ok x) deck added plan is refused reads = tt
refused_added view (faults.BadDeck line reason) (Ok x) deck added plan is refused reads = is ∙ (λ i. planned (reads i) (refused i))
refused_added view _ (Ok x) deck added plan is refused reads = absurd refused
refused_added view fault (Err other) deck added plan is refused reads = refused_both fault other deck added plan is refused reads

-- both are right
pub both_right : (deck : Result DeckText BadLine) (added : Result (List PlacedRuleText × List GuardLine) BadLine) (d : DeckText) (read : List PlacedRuleText × List GuardLine) (plan : Result PlanText BadLine) → plan ≡ planned deck added → deck ≡ Ok d → added ≡ Ok read → plan ≡ plan_with d read.0 read.1
both_right deck added d read plan is one other = is ∙ (λ i. planned (one i) (other i))

-- what memory or a bad line is the reason of
above_is_fault : (fault other : Fault) → IsDeckFault fault → IsDeckFault other → IsDeckFault (above fault other)
above_is_fault faults.OutOfMemory other one two = tt
above_is_fault (faults.BadDeck line reason) faults.OutOfMemory one two = tt
above_is_fault (faults.BadDeck line reason) (faults.BadDeck other why) one two = lower_is_fault (nat_lt line other)
  where
    lower_is_fault : (test : Bool) → IsDeckFault (if test then faults.BadDeck line reason else faults.BadDeck other why)
    lower_is_fault true = tt
    lower_is_fault false = tt
above_is_fault (faults.BadDeck line reason) _ one two = absurd two
above_is_fault _ other one two = absurd one

pub first_is_fault : {X : Type 0} (fault : Fault) (read : Result X Fault) → IsDeckFault fault → IfErr read IsDeckFault → IsDeckFault (first_fault fault read)
first_is_fault fault (Ok x) one two = one
first_is_fault fault (Err other) one two = above_is_fault fault other one two

-- what holds of a deck holds of the plan that has it
pub of_deck : (P : Deck → Type 0) (result : Result Plan Fault) (deck : Deck) → IfOk result (λ plan. plan.deck ≡ deck) → P deck → IfOk result (λ plan. P plan.deck)
of_deck P (Ok plan) deck same holds = subst P (sym same) holds
of_deck P (Err fault) deck same holds = tt
