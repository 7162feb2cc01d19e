-- All seats are at the one table.
use Rattle.std.proofs.Common.{ap, ◌∙◌}
use Rattle.rp_boxes.specs.FirstSeats.{failures_of, first_seat}
use Rattle.rp_boxes.proofs.Seating.{all_seats}
use Rattle.rp_boxes.proofs.all_seats.made.Goals as goal

pub returns-clause-opened : goal.returns-clause-opened
returns-clause-opened g c =
    let news = c.in_ok-unseated.ensures in
    let first = c.in_ok-unseated.unseated in
    let audits = c.in_ok-audit.ensures in
    let nodes = c.in_ok-nodes.ensures in
    let tasks = c.in_ok-tasks.ensures in
    all_seats first c.seat.new.self c.nodes.new.self c.skip_to.new.self c.args.config c.args.program.now (failures_of g.D.Device.disk c.args.devices.items)
    c.in_ok-nodes.nodes.items c.in_ok-tasks.tasks.items c.in_ok-audit.audit
    news.ok.0 news.ok.1 (audits.ok ∙ ap (λ k. first_seat first.table first.config first.program 0 k 0) news.ok.2) audits.rest nodes.rest c.skip_to.ensures nodes.size nodes.seats tasks.eight tasks.seats
