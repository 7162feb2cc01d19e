-- No call of the device fails.
use Rattle.rp_live.proofs.Running.{report_memory}
use Rattle.rp_live.proofs.reports.report_from.Goals as goal

pub returns-clause-only : goal.returns-clause-only
returns-clause-only g c =
    let m = g.M.Machine in
    report_memory m.next m.answers m.begin c.args.seat.now c.report-report.new.self c.args.first c.requires.runs c.never_failed.ensures c.report-report.result c.report-report.ensures.err
