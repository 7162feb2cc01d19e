-- The text of a report on a search over every order.
use Rattle.std.specs.Prelude.{ℕ, suc, Bool, List, [], ◌∷◌, ◌++◌, codes, decimal, flat_map}
use Rattle.std.specs.Prelude.{if◌then◌else◌}
use Rattle.rp_output.specs.FaultMessage.{with_line_feed}
use Rattle.rp_output.specs.Printed.{reply_line_of}
use Rattle.rp_output.specs.Trace.{task_name}
use Rattle.rp_explore_run.specs.declared.report_lines.FiguresLine.{FiguresLine}
use Rattle.rp_explore_run.specs.declared.report_lines.Outcome.{Outcome}
use Rattle.rp_explore_run.specs.declared.report_lines.Outcome.TheVariants.{Reply, Waits, Broken}
use Rattle.rp_explore_run.specs.declared.report.Report.{Report}

-- whether every state was found
abbrev pub extent_text : Bool → List ℕ
extent_text is_whole = if is_whole then codes " complete" else codes " incomplete"

-- how many states, steps and actions of the longest order, and whether these are all
abbrev pub figures_line_of : FiguresLine → List ℕ
figures_line_of f =
    codes "states " ++ (decimal f.states ++ (codes " steps " ++ (decimal f.steps
    ++ (codes " depth " ++ (decimal f.depth ++ extent_text f.is_whole)))))

-- the name of the task of an outcome
abbrev pub name_for : List (List ℕ) → Outcome → List ℕ
name_for names (Reply answer) = task_name names answer.task
name_for names (Waits task number) = task_name names task
name_for names (Broken line) = []

-- the words for an outcome of a task of this name
abbrev pub outcome_text_of : List ℕ → Outcome → List ℕ
outcome_text_of name (Reply answer) = reply_line_of name answer.number answer.reply
outcome_text_of name (Waits task number) = codes "waits " ++ (name ++ (codes " " ++ decimal number))
outcome_text_of name (Broken line) = codes "line " ++ (decimal line ++ codes " broken")

-- the line of an outcome, after its number
abbrev pub outcome_line : List (List ℕ) → ℕ → Outcome → List ℕ
outcome_line names number outcome =
    with_line_feed (decimal number ++ (codes " " ++ outcome_text_of (name_for names outcome) outcome))

-- the lines of outcomes, numbered from this one on
abbrev pub outcomes_text : List (List ℕ) → ℕ → List Outcome → List ℕ
outcomes_text names number [] = []
outcomes_text names number (outcome ∷ rest) =
    outcome_line names number outcome ++ outcomes_text names (suc number) rest

-- how far a rule that is not broken holds
abbrev pub reach_text : Bool → List ℕ
reach_text is_whole = if is_whole then codes " holds" else codes " holds so far"

-- the rule of this line is not broken
abbrev pub held_line_of : Bool → ℕ → List ℕ
held_line_of is_whole line = codes "line " ++ (decimal line ++ reach_text is_whole)

-- the lines of rules that are not broken
abbrev pub held_text : Bool → List ℕ → List ℕ
held_text is_whole lines = flat_map (λ line. with_line_feed (held_line_of is_whole line)) lines

-- the figures, the outcomes numbered from 1, and the rules that are not broken
abbrev pub report_text_of : List (List ℕ) → Report → List ℕ
report_text_of names report =
    with_line_feed (figures_line_of report.figures)
    ++ (outcomes_text names 1 report.outcomes.items
    ++ held_text report.figures.is_whole report.held.items)
