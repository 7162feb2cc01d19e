-- The report is the packet of the step.
use Rattle.rp_live.proofs.Reporting.{report_sent}
use Rattle.rp_live.proofs.reports.send_report.Goals as goal

pub put_report-requires : goal.put_report-requires
put_report-requires g c = report_sent c.args.first c.args.seat.now c.report_from.new.seat c.in_ok-report.report c.in_ok-report.ensures.ok

pub returns-clause-reported : goal.returns-clause-reported
returns-clause-reported g c =
    record { stepped = c.report_from.new.seat; sent = c.in_ok-report.report; report = c.in_ok-report.ensures.ok; is_lost = c.put_report.ensures.0; offered = c.put_report.ensures.1 }
