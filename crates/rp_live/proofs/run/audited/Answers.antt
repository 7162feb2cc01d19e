-- What was reported of nodes and tasks, and the look at the table.
use Rattle.std.proofs.Common.{◌≡◌, ◌↔◌, ℕ, true, All, List, length, ap, arith, sym, subst, ◌∙◌}
use Rattle.rp_board.specs.Seats.{SeatSetup, SeatState}
use Rattle.rp_boxes.specs.Audits.{Audited}
use Rattle.rp_boxes.specs.NodeSeats.{HasApplied}
use Rattle.rp_boxes.specs.Together.{AreTogether}
use Rattle.rp_live.specs.Figures.{figures_of}
use Rattle.rp_live.specs.LiveOutcome.{KnowsAll}
use Rattle.rp_live.specs.Seats.{HasOnlyReported}
use Rattle.rp_live.proofs.Reading.{nothing_known}
use Rattle.rp_live.proofs.Seating.{zip_length}
use Rattle.rp_live.proofs.Zips.{all_unmapped, zip_all}
use Rattle.rp_live.proofs.run.audited.Goals as goal

pub knows_all-agree-requires : goal.knows_all-agree-requires
knows_all-agree-requires g c =
    let stated = c.in_ok-nodes.ensures in
    let counts = zip_length (λ seat count. HasApplied seat.part count) c.in_ok-nodes.nodes.items c.in_ok-nodes.applied.items stated.applied in
    let seats = zip_length (λ end seat. HasOnlyReported end.seat seat) c.args.nodes.items c.in_ok-nodes.nodes.items stated.reported in
    let slice = ap length c.as_slice-3.ensures.value in
    let few = c.requires.few in
    omega (arith, counts, seats, slice, few)

pub look_together-requires-clause-nodes : goal.look_together-requires-clause-nodes
look_together-requires-clause-nodes g c =
    let table = ap (λ (s : SeatSetup g.row.M-Program.Denot). s.table) (c.in_ok-nodes.ensures.same ∙ ap (λ (a : Audited g.row.M-Program.Denot). a.seat.setup) c.new-audit.ensures) in
    zip_all (λ end. end.seat.setup.table ≡ c.args.seat.setup.table) (λ end seat. HasOnlyReported end.seat seat) (λ seat. seat.setup.table ≡ c.read_logs.new.audit.seat.setup.table)
    (λ end seat here reported. ap (λ (s : SeatSetup g.row.M-Program.Denot). s.table) reported.same ∙ here ∙ sym table) c.args.nodes.items c.in_ok-nodes.nodes.items c.requires.nodes c.in_ok-nodes.ensures.reported

pub look_together-requires-clause-tasks : goal.look_together-requires-clause-tasks
look_together-requires-clause-tasks g c =
    let table = ap (λ (s : SeatSetup g.row.M-Program.Denot). s.table) (c.in_ok-nodes.ensures.same ∙ ap (λ (a : Audited g.row.M-Program.Denot). a.seat.setup) c.new-audit.ensures) in
    subst (All (λ (s : SeatState g.row.M-Program.Denot). s.setup.table ≡ c.read_logs.new.audit.seat.setup.table)) (sym c.in_ok-tasks.ensures.seats)
    (all_unmapped (λ (s : SeatState g.row.M-Program.Denot). s.setup.table ≡ c.read_logs.new.audit.seat.setup.table) (λ end. end.seat) c.args.tasks.items (λ k d within. c.requires.tasks k d within ∙ sym table))

pub returns-clause-stated : goal.returns-clause-stated
returns-clause-stated g c =
    let m = g.M.Machine in
    let audit = c.read_logs.new.audit in
    let stated = c.in_ok-nodes.ensures in
    record {
      nodes_ended = stated.none;
      tasks_ended = c.in_ok-tasks.ensures.memory;
      last = c.in_ok-nodes.nodes.items;
      reported = stated.reported;
      applied = stated.applied;
      read = stated.read;
      known = audit;
      same = stated.same ∙ ap (λ (a : Audited g.row.M-Program.Denot). a.seat.setup) c.new-audit.ensures;
      together = subst (AreTogether m.next m.answers m.begin audit c.in_ok-nodes.nodes.items) c.in_ok-tasks.ensures.seats c.look_together.ensures;
      replies = c.in_ok-tasks.ensures.replies;
      figures = c.of-figures.ensures ∙ ap (λ ends. figures_of ends c.as_slice-2.result.now) c.as_slice.ensures.value ∙ ap (figures_of c.args.nodes.items) c.as_slice-2.ensures.value;
      agree = subst (λ (l : List ℕ). (c.knows_all-agree.result ≡ true) ↔ KnowsAll audit.known l) c.as_slice-3.ensures.value c.knows_all-agree.ensures;
    }

pub read_logs-requires-clause-unread : goal.read_logs-requires-clause-unread
read_logs-requires-clause-unread g c = nothing_known c.new-audit.result.known (ap (λ (a : Audited g.row.M-Program.Denot). a.known) c.new-audit.ensures)
