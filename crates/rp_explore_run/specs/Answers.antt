-- What is printed of a search.
use Rattle.std.specs.Prelude.{◌≡◌, ◌<◌, ℕ, Bool, Option, Some, None, is_some, List, [], length}
use Rattle.std.specs.Prelude.{map, if◌then◌else◌}
use Rattle.std.specs.List.{list_any}
use Rattle.rp_script.specs.rp_base.specs.declared.action.Action.{Action}
use Rattle.rp_script.specs.rp_base.specs.declared.reply.Answer.{Answer}
use Rattle.rp_explore_deck.specs.declared.actions.PlannedAction.{PlannedAction}
use Rattle.rp_explore.specs.Explored.{Exploration}
use Rattle.rp_explore_run.specs.Reports.{report_text_of}
use Rattle.rp_explore_run.specs.declared.report.Report.{Report}
use Rattle.rp_explore_run.specs.Findings.{IsReportOf, found_of}
use Rattle.rp_explore_run.specs.Shown.{IsShownBy}
use Rattle.rp_explore_run.specs.Trials.{HidesWhenRun, ShowsWhenRun}
use Rattle.rp_explore_run.specs.declared.answer.Printed.{Printed}
use Rattle.rp_explore_run.specs.declared.answer.Verdict.{Verdict}
use Rattle.rp_explore_run.specs.declared.answer.Verdict.TheVariants as verdicts
use Rattle.rp_explore_run.specs.declared.findings.Found.{Found}
use Rattle.rp_explore_run.specs.declared.findings.Judged.{Judged}
use Rattle.rp_explore_run.specs.declared.shown.Searched.{Searched}
use Rattle.rp_explore_run.specs.declared.shown.Shown.{Shown}
use Rattle.rp_script.specs.rp_model.specs.World.{part_at}
use Rattle.rp_explore_run.specs.OrderDecks.{order_deck_text}
use Rattle.rp_script.specs.rp_run.specs.Output.{names_of}

-- a rule is broken; or else whether the search is complete
abbrev pub verdict_of : Bool → List Judged → Verdict
verdict_of is_whole judged =
    if list_any (λ j. is_some j.broken) judged then verdicts.Broken
    else if is_whole then verdicts.Complete else verdicts.Incomplete

-- the report is printed
pub record IsReportAnswer (names : List (List ℕ)) (e : Exploration) (judged : List Judged)
    (printed : Printed) : Type 0 where
  pub report : Report
  pub is_report : IsReportOf e judged report
  pub text : printed.text.items ≡ report_text_of names report
  pub verdict : printed.verdict ≡ verdict_of e.is_whole judged

-- a deck, and the search over the orders of its actions
pub record ExploredDeck : Type 0 where
  pub names : List (List ℕ)  -- of its tasks
  pub may : List Action  -- what may happen
  pub explored : Exploration
  pub lines : List (List ℕ)
  pub head : ℕ  -- how many of them are before those of its script
  pub rules : List ℕ  -- the numbers of its rules
  pub planned : List PlannedAction  -- what its script asks for
  pub positions : ℕ  -- the length of its log

abbrev pub explored_deck : Searched → ExploredDeck
explored_deck s = record {
  names = names_of s.tasks.now;
  may = s.may.now;
  explored = s.explored.now;
  lines = map (λ line. line.now) s.source.lines.now;
  head = s.source.head;
  rules = s.source.rules.now;
  planned = s.source.planned.now;
  positions = s.positions;
}

-- the deck that is made for an order
abbrev pub deck_for : ExploredDeck → List Action → List ℕ
deck_for d order = order_deck_text d.head d.rules d.lines d.planned order

module _ {S : Type 0} (next : S → Action → S) (answers : S → Action → List Answer) (begin : S)
    (image : S → List ℕ) (d : ExploredDeck) where
  -- the deck of an order that leads to what was found, and its run shows that
  pub record IsShownDeck (found : Found) (text : List ℕ) : Type 0 where
    pub shown : Shown
    pub is_shown : IsShownBy next answers begin image d.names d.may d.explored found shown
    pub text_is : text ≡ deck_for d shown.order.items
    pub shows : ShowsWhenRun text shown.wanted

  -- the order that leads to what was found is longer than the log
  pub record IsTooLong (found : Found) : Type 0 where
    pub shown : Shown
    pub is_shown : IsShownBy next answers begin image d.names d.may d.explored found shown
    pub long : d.positions < length shown.order.items

  -- the deck of an order that leads to what was found does not show it when it is run
  pub record IsHidden (found : Found) : Type 0 where
    pub shown : Shown
    pub is_shown : IsShownBy next answers begin image d.names d.may d.explored found shown
    pub hides : HidesWhenRun (deck_for d shown.order.items) shown.wanted

  -- what was found is shown by the deck that is printed, or nothing is printed
  abbrev pub IsDeckWith : Found → Verdict → List ℕ → Type 0
  IsDeckWith found verdicts.Shown text = IsShownDeck found text
  IsDeckWith found verdicts.TooLong text = (text ≡ []) × IsTooLong found
  IsDeckWith found verdicts.NotShown text = (text ≡ []) × IsHidden found
  IsDeckWith found _ text = ⊥

  abbrev pub IsDeckOf : Found → Printed → Type 0
  IsDeckOf found printed = IsDeckWith found printed.verdict printed.text.items

  -- there is no outcome of the number
  pub record IsNoOutcome (printed : Printed) : Type 0 where
    pub verdict : printed.verdict ≡ verdicts.NoOutcome
    pub text : printed.text.items ≡ []

  abbrev pub IsDeckIf : Option Found → Printed → Type 0
  IsDeckIf None printed = IsNoOutcome printed
  IsDeckIf (Some found) printed = IsDeckOf found printed

  -- the deck of the outcome of a number, from 1
  abbrev pub IsDeckAnswer : List Judged → ℕ → Printed → Type 0
  IsDeckAnswer judged number printed =
      IsDeckIf (part_at (found_of d.explored judged) number) printed

  -- the report, or the deck of the outcome of this number
  abbrev pub IsAnswer : Option ℕ → List Judged → Printed → Type 0
  IsAnswer None judged printed = IsReportAnswer d.names d.explored judged printed
  IsAnswer (Some number) judged printed = IsDeckAnswer judged number printed
