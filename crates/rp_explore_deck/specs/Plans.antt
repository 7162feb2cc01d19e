-- What the text of a deck means to `explore`: a plan, or the first bad line and its first reason.
use Rattle.std.specs.Prelude.{ℕ, nat_lt, List, [], map, Result, Ok, Err, if◌then◌else◌}
use Rattle.rp_deck.specs.rp_base.specs.declared.fault.Fault.{Fault}
use Rattle.rp_deck.specs.rp_base.specs.declared.fault.Fault.TheVariants as faults
use Rattle.rp_deck.specs.DeckViews.{deck_text}
use Rattle.rp_deck.specs.Meaning.{DeckText, texts_of, line_after, meaning_of}
use Rattle.rp_deck.specs.declared.deck.Mode.TheVariants.{Live}
use Rattle.rp_deck_declarations.specs.DeclaredTexts.{ProgramText, known}
use Rattle.rp_deck_declarations.specs.Declaring.{declarations_of}
use Rattle.rp_deck_declarations.specs.ScriptNames.{DeclaredNames}
use Rattle.rp_explore_deck.specs.AddedLines.{Added, added_lines, plain_text, read_lines}
use Rattle.rp_explore_deck.specs.GuardLines.{guard_line, guards_of}
use Rattle.rp_explore_deck.specs.PlannedActions.{planned_after}
use Rattle.rp_explore_deck.specs.RuleLines.{PlacedRuleText, rule_line}
use Rattle.rp_explore_deck.specs.RuleViews.{placed_rule_text}
use Rattle.rp_explore_deck.specs.declared.actions.PlannedAction.{PlannedAction}
use Rattle.rp_orders.specs.declared.guard.Guard.{Guard}
use Rattle.rp_explore_deck.specs.declared.guard_lines.GuardLine.{GuardLine}
use Rattle.rp_explore_deck.specs.declared.plan.Plan.{Plan}
use Rattle.rp_words.specs.LineFaults.{BadLine}
use Rattle.rp_words.specs.Lines.{LineText}
use Rattle.rp_words.specs.Reading.{◌>>=◌}

-- a deck, the actions that it asks for, the guards of its calls, and its rules
pub record PlanText : Type 0 where
  pub deck : DeckText
  pub actions : List PlannedAction
  pub guards : List Guard
  pub rules : List PlacedRuleText

abbrev pub plan_text : Plan → PlanText
plan_text plan = record {
  deck = deck_text plan.deck;
  actions = plan.actions.items;
  guards = plan.guards.items;
  rules = map placed_rule_text plan.rules.items;
}

-- both, or the bad line with the lower number
abbrev pub both : {X Y : Type 0} → Result X BadLine → Result Y BadLine → Result (X × Y) BadLine
both (Ok x) (Ok y) = Ok (x, y)
both (Ok x) (Err bad) = Err bad
both (Err bad) (Ok y) = Err bad
both (Err bad) (Err other) = Err (if nat_lt other.line bad.line then other else bad)

-- what the added lines say by their own words
unfoldable pub additions_of : DeclaredNames → ProgramText → Added → List LineText
    → Result (List PlacedRuleText × List GuardLine) BadLine
additions_of d program added lines = do
  rules ← read_lines added.rules (rule_line d program) [] lines
  guards ← read_lines added.guards (guard_line d) [] lines
  Ok (rules, guards)

-- the plan of a deck with these rules and guards
unfoldable pub plan_with : DeckText → List PlacedRuleText → List GuardLine → Result PlanText BadLine
plan_with deck rules guards = do
  let actions = planned_after [] deck.script
  placed ← guards_of actions [] guards
  Ok (record { deck = deck; actions = actions; guards = placed; rules = rules })

-- the plan of what a deck means and of what its added lines say
abbrev pub planned : Result DeckText BadLine → Result (List PlacedRuleText × List GuardLine) BadLine
    → Result PlanText BadLine
planned deck added = do
  read ← both deck added
  plan_with read.0 read.1.0 read.1.1

-- What a text means: its declarations, then the other lines by their own words, of two bad ones
-- the first, and then the calls that the guards are for.
unfoldable pub plan_of : List ℕ → Result PlanText BadLine
plan_of text = do
  let added = added_lines (texts_of text)
  let plain = plain_text added text
  names ← known (declarations_of (line_after plain) (texts_of plain))
  planned (meaning_of Live plain) (additions_of names.0 names.1.program added (texts_of text))

-- ---- of two faults (no public clause names what follows)

-- the fault, unless the other one is on a line above or memory ran out
abbrev pub above : Fault → Fault → Fault
above (faults.BadDeck line reason) (faults.BadDeck other why) =
    if nat_lt line other then faults.BadDeck line reason else faults.BadDeck other why
above (faults.BadDeck line reason) other = other
above fault other = fault

-- the fault of an added line, or one of the deck that is above
abbrev pub first_fault : {X : Type 0} → Fault → Result X Fault → Fault
first_fault fault (Ok deck) = fault
first_fault fault (Err other) = above fault other
