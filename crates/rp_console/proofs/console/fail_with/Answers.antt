-- What is reported is the line of the fault, and then that of the hint.
use Rattle.std.proofs.Common.{[], ◌++◌, ◌∙◌, Option, Some, ap, sym}
use Rattle.rp_deck_hints.specs.declared.hint.Hint.{Hint}
use Rattle.rp_bind_run.specs.rp_output.specs.FaultMessage.{fault_message_of, with_line_feed}
use Rattle.rp_bind_run.specs.rp_output.proofs.Writing.{writes_same}
use Rattle.rp_console.specs.Console.{hint_report}
use Rattle.rp_console.proofs.Hinting.{nothing_after, failed_before, after_line}
use Rattle.rp_console.proofs.console.fail_with.Goals as goal

pub returns-in_default-clause-reported : goal.returns-in_default-clause-reported
returns-in_default-clause-reported g c =
    let line = with_line_feed (fault_message_of c.args.fault) in
    writes_same _ _ (line ++ []) _ c.fail-ending.result.reported (ap (λ (h : Option Hint). line ++ hint_report h) (sym c.in_default.is))
    (nothing_after _ _ line c.fail-ending.result.reported c.fail-ending.ensures.reported)

pub returns-then-is_err-clause-reported : goal.returns-then-is_err-clause-reported
returns-then-is_err-clause-reported g c =
    failed_before _ _ (with_line_feed (fault_message_of c.args.fault)) (hint_report c.args.hint) c.fail-ending.result.reported
    (sym c.is_err.ensures.value ∙ c.if-is_err.true) c.fail-ending.ensures.reported

pub returns-clause-reported : goal.returns-clause-reported
returns-clause-reported g c =
    let line = with_line_feed (fault_message_of c.args.fault) in
    writes_same _ _ (line ++ hint_report (Some c.in-Some.hint)) _ c.report.result (ap (λ (h : Option Hint). line ++ hint_report h) (sym c.in-Some.is))
    (after_line _ _ _ line (hint_report (Some c.in-Some.hint)) c.fail-ending.result.reported c.report.result
    (sym c.is_err.ensures.value ∙ c.if-is_err.false) c.fail-ending.ensures.reported c.report.ensures.printed)
