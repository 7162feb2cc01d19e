-- What is reported is the line of the run's figures, that its drawing is too long, what became of a
-- search, why a deck has no packages, or a fault with its hint.
use Rattle.std.proofs.Common.{◌≡◌, ◌∙◌, ℕ, List, Option, Result, Ok, ap, sym}
use Rattle.rp_deck_hints.specs.rp_base.specs.declared.fault.Fault.{Fault}
use Rattle.rp_bind_run.specs.rp_output.specs.FaultMessage.{with_line_feed}
use Rattle.rp_bind_run.specs.rp_output.specs.Stream.{Writes}
use Rattle.rp_bind_run.specs.rp_output.proofs.Writing.{writes_same}
use Rattle.rp_deck_hints.specs.declared.hint.Hint.{Hint}
use Rattle.rp_console.specs.Console.{fault_report, report_of}
use Rattle.rp_console.specs.declared.console.Report.{Report}
use Rattle.rp_console.specs.declared.console.Report.TheVariants.{Figures, Refused, Searched, TooLong}
use Rattle.rp_console.proofs.console.end.Goals as goal

-- a run that left this is reported by its line
is_reported : (a b : Option (List ℕ)) (ran : Result Report Fault) (hint : Option Hint) (found left : Report) (answer : Result Unit Fault)
    → ran ≡ Ok found → found ≡ left → Writes a b (report_of (Ok left) hint) answer → Writes a b (report_of ran hint) answer
is_reported a b ran hint found left answer is same written =
    writes_same a b (report_of (Ok left) hint) (report_of ran hint) answer (sym (ap (λ r. report_of r hint) (is ∙ ap Ok same))) written

pub returns-in-Ok-Figures-clause-reported : goal.returns-in-Ok-Figures-clause-reported
returns-in-Ok-Figures-clause-reported g c =
    is_reported _ _ c.args.ran c.args.hint c.in-Ok-Figures.field-0 (Figures c.in-Ok-Figures.figures) c.report.result c.in-Ok-Figures.is c.in-Ok-Figures.field-0-is c.report.ensures.printed

pub returns-in-Ok-TooLong-clause-reported : goal.returns-in-Ok-TooLong-clause-reported
returns-in-Ok-TooLong-clause-reported g c =
    is_reported _ _ c.args.ran c.args.hint c.in-Ok-TooLong.field-0 TooLong c.report-in-Ok-TooLong.result c.in-Ok-TooLong.is c.in-Ok-TooLong.field-0-is c.report-in-Ok-TooLong.ensures.printed

pub returns-in-Ok-Refused-clause-reported : goal.returns-in-Ok-Refused-clause-reported
returns-in-Ok-Refused-clause-reported g c =
    let written = writes_same _ _ _ (report_of (Ok (Refused c.in-Ok-Refused.line)) c.args.hint) c.refused.result.reported (ap with_line_feed c.deref.ensures) c.refused.ensures.reported in
    is_reported _ _ c.args.ran c.args.hint c.in-Ok-Refused.field-0 (Refused c.in-Ok-Refused.line) c.refused.result.reported c.in-Ok-Refused.is c.in-Ok-Refused.field-0-is written

pub returns-in-Ok-Searched-clause-reported : goal.returns-in-Ok-Searched-clause-reported
returns-in-Ok-Searched-clause-reported g c =
    is_reported _ _ c.args.ran c.args.hint c.in-Ok-Searched.field-0 (Searched c.in-Ok-Searched.verdict) c.end_search.result.reported c.in-Ok-Searched.is c.in-Ok-Searched.field-0-is c.end_search.ensures.reported

pub returns-clause-reported : goal.returns-clause-reported
returns-clause-reported g c =
    writes_same _ _ (fault_report c.in-Err.fault c.args.hint) _ c.fail_with.result.reported (ap (λ r. report_of r c.args.hint) (sym c.in-Err.is)) c.fail_with.ensures.reported
