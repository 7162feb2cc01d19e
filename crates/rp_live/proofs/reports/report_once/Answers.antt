-- What the audit fetches is a report, and it stays at its seat.
use Rattle.std.proofs.Common.{ℕ, List, sym, ap, subst, ◌∙◌}
use Rattle.rp_board.specs.Seats.{SeatSetup, SeatState}
use Rattle.rp_threads.specs.rp_codec.specs.declared.packet.Party.TheVariants.{Node}
use Rattle.rp_boxes.specs.Audits.{IsGotReport}
use Rattle.rp_threads.specs.rp_base.specs.declared.action.Action.{Action}
use Rattle.rp_live.specs.Seats.{KnowsMore, KnowsSameBut}
use Rattle.rp_live.proofs.Reporting.{added_more, added_others, added_seat, only_reported}
use Rattle.rp_live.proofs.reports.report_once.Goals as goal

pub add-requires : goal.add-requires
add-requires g c = subst (IsGotReport c.fetch.new.self.seat.part) (sym c.as_slice.ensures.value) c.in-Some.ensures.report

pub returns-in_ok-add-clause-same : goal.returns-in_ok-add-clause-same
returns-in_ok-add-clause-same g c =
    let setup : SeatState g.row.M-Program.Denot → SeatSetup g.row.M-Program.Denot = λ seat. seat.setup in
    let added = added_seat c.fetch.new.self c.as_slice.result.now c.add.new.self c.in_ok-add.field-0 c.in_ok-add.ensures.ok in
    ap setup added ∙ ap setup c.in-Some.ensures.some.after

pub returns-in_ok-add-clause-more : goal.returns-in_ok-add-clause-more
returns-in_ok-add-clause-more g c =
    subst (λ (known : List (List Action)). KnowsMore known c.add.new.self.known) c.fetch.ensures.known
    (added_more c.fetch.new.self c.as_slice.result.now c.add.new.self c.in_ok-add.field-0 c.in_ok-add.ensures.ok)

pub returns-in_ok-add-clause-others : goal.returns-in_ok-add-clause-others
returns-in_ok-add-clause-others g c =
    let fetched = c.in-Some.ensures.some in
    let text = c.as_slice.ensures.value ∙ fetched.text in
    let m = g.M.Machine in
    let reported = only_reported m.next m.answers m.begin c.args.first c.args.seat.now c.send_report.new.seat c.in_ok-send_report.ensures.reported in
    let number = c.number.ensures ∙ ap (λ (s : SeatSetup g.row.M-Program.Denot). s.number) reported.same in
    let sender = fetched.sender ∙ ap (λ (n : ℕ). Node n) number in
    subst (λ (known : List (List Action)). KnowsSameBut c.args.seat.now.setup.number known c.add.new.self.known) c.fetch.ensures.known
    (added_others c.one_text.ensures c.args.seat.now.setup.number c.fetch.new.self c.as_slice.result.now c.add.new.self c.in_ok-add.field-0 fetched.packet fetched.right text sender
    c.in_ok-add.ensures.ok)
