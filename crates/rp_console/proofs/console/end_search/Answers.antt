-- What is reported is why there is no deck.
use Rattle.std.proofs.Common.{ap, sym}
use Rattle.rp_explore_run.specs.declared.answer.Verdict.TheVariants.{NoOutcome, NotShown, TooLong}
use Rattle.rp_bind_run.specs.rp_output.proofs.Writing.{writes_same}
use Rattle.rp_console.specs.Console.{search_report}
use Rattle.rp_console.proofs.console.end_search.Goals as goal

pub returns-in-NoOutcome-clause-reported : goal.returns-in-NoOutcome-clause-reported
returns-in-NoOutcome-clause-reported g c =
    writes_same _ _ (search_report NoOutcome) (search_report c.args.verdict) c.refused.result.reported (sym (ap search_report c.in-NoOutcome.is)) c.refused.ensures.reported

pub returns-in-TooLong-clause-reported : goal.returns-in-TooLong-clause-reported
returns-in-TooLong-clause-reported g c =
    writes_same _ _ (search_report TooLong) (search_report c.args.verdict) c.refused-in-TooLong.result.reported (sym (ap search_report c.in-TooLong.is)) c.refused-in-TooLong.ensures.reported

pub returns-in-NotShown-clause-reported : goal.returns-in-NotShown-clause-reported
returns-in-NotShown-clause-reported g c =
    writes_same _ _ (search_report NotShown) (search_report c.args.verdict) c.refused-in-NotShown.result.reported (sym (ap search_report c.in-NotShown.is)) c.refused-in-NotShown.ensures.reported
