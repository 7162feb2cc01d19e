-- One report more, which made more known, or made nothing more known.
use Rattle.std.proofs.Common.{◌≡◌, ◌≤◌, ℕ, ap, subst, ◌∙◌, length, arith}
use Rattle.rp_board.specs.Seats.{SeatSetup}
use Rattle.rp_boxes.specs.Audits.{known_of}
use Rattle.rp_live.specs.Seats.{KnowsSameBut}
use Rattle.rp_live.proofs.Reporting.{more_on, no_more_read, one_more_report, only_reported, reported_on, role_applied, same_known_on}
use Rattle.rp_live.proofs.reports.read_log.Goals as goal

pub returns-then-now_known-known-clause-read : goal.returns-then-now_known-known-clause-read
returns-then-now_known-known-clause-read g c =
    let was = c.loop-known.invariant in
    let stated = c.in_ok-report_once.ensures in
    let first = c.args.seat.now in
    let between = c.loop-known.seat in
    let now = c.report_once.new.seat in
    let start = length (known_of c.args.audit.now.known first.setup.number) in
    let reports = stated.reported in
    let m = g.M.Machine in
    let only = only_reported m.next m.answers m.begin c.in-Some.first between now reports in
    let some = stated.more first.setup.number in
    let now_known = length (known_of c.report_once.new.audit.known first.setup.number) in
    let same : length c.known-now_known.result.now ≡ now_known =
    ap length (c.known-now_known.ensures.value ∙ ap (λ (n : ℕ). known_of c.report_once.new.audit.known n) c.number-node.ensures) in
    let few : now_known ≤ c.loop-known.known = omega (arith, same, c.if-now_known-known.true) in
    let more : c.loop-known.known ≤ now_known = omega (arith, was.known, some) in
    no_more_read m.next m.answers m.begin start c.in-Some.first c.loop-known.known now_known c.in_ok-applied.applied first between now was.reports c.in-Some.ensures.some reports
    (role_applied between.part now.part c.in_ok-applied.applied only.role was.applied) more few

pub loop-known-preserved : goal.loop-known-preserved
loop-known-preserved g c =
    let was = c.loop-known.invariant in
    let stated = c.in_ok-report_once.ensures in
    let first = c.args.seat.now in
    let between = c.loop-known.seat in
    let now = c.report_once.new.seat in
    let old = c.args.audit.now.known in
    let audit = c.loop-known.audit in
    let new = c.report_once.new.audit in
    let start = length (known_of old first.setup.number) in
    let reports = stated.reported in
    let m = g.M.Machine in
    let only = only_reported m.next m.answers m.begin c.in-Some.first between now reports in
    record {
      same = stated.same ∙ was.same;
      reported = reported_on first between now was.reported only;
      more = more_on old audit.known new.known was.more stated.more;
      applied = role_applied between.part now.part c.in_ok-applied.applied only.role was.applied;
      known = ap length (c.known-now_known.ensures.value ∙ ap (λ (n : ℕ). known_of new.known n) c.number-node.ensures);
      others = same_known_on first.setup.number old audit.known new.known was.others
          (subst (λ (s : SeatSetup g.row.M-Program.Denot). KnowsSameBut s.number audit.known new.known) was.reported.same stated.others);
      reports = one_more_report m.next m.answers m.begin start c.in-Some.first c.loop-known.known (length c.known-now_known.result.now) first between now was.reports c.in-Some.ensures.some reports
          c.if-now_known-known.false;
    }
