-- The report is put, or given back.
use Rattle.rp_live.proofs.Reporting.{put_or_back}
use Rattle.rp_live.proofs.reports.put_report.Goals as goal

pub returns : goal.returns
returns g c =
    let m = g.M.Machine in
    let put = c.put-given_back.ensures in
    put_or_back m.next m.answers m.begin c.put-given_back.result c.args.report.items c.args.seat.now c.put-given_back.new.self put.put put.full put.unchanged put.used
