-- All seats are of the one table, and the result of the run is reported.
use Rattle.std.proofs.Common.{◌≡◌, ℕ, All, length, arith, sym, ap, subst}
use Rattle.std.proofs.lemmas.Result.{IfOk-weaker}
use Rattle.rp_board.specs.Parts.{OfTask, fresh_part}
use Rattle.rp_board.specs.Seats.{SeatState}
use Rattle.rp_boxes.specs.rp_model.specs.Parts.{fresh_task}
use Rattle.rp_threads.specs.Threads.{IsLooped}
use Rattle.rp_live.specs.Events.{IsLive}
use Rattle.rp_live.specs.Pace.{lets, heard, over, ended}
use Rattle.rp_live.proofs.WholeRun.{HasRunOn, outcome, node_loops_by, nodes_ended, nodes_still, nodes_here, nodes_numbered, task_loops_by, tasks_here}
use Rattle.rp_live.proofs.Seating.{all_mapped, mapped_length, nodes_run, tasks_fresh, zip_length}
use Rattle.rp_live.proofs.run.live.Given as given
use Rattle.rp_live.proofs.run.live.Goals as goal
use Rattle.rp_live.proofs.run.live.Goals.{In_ok-nodes-3}

-- how the run went, once the loops have ended
whole : (g : given.Over) (c : In_ok-nodes-3 g) → let m = g.M.Machine in
    HasRunOn m.next m.answers m.begin c.args.options.config c.args.program.now c.args.events.now c.args.options.seed c.args.options.turns c.in_ok-nodes.field-0.audit c.in_ok-nodes-3.nodes.items c.in_ok-nodes-3.tasks.items
whole g c =
    let m = g.M.Machine in
    let a = c.args in
    let all = c.in_ok-nodes.field-0 in
    let seats = c.in_ok-nodes.ensures.seats in
    let noted = c.note_all.new.seats.items in
    let starts = c.in_ok-nodes-2.nodes.items in
    let ready = mapped_length (λ s. s.seat) starts noted c.in_ok-nodes-2.ensures.seats in
    let count : length starts ≡ a.options.config.nodes = omega (arith, ready, c.note_all.ensures.size, seats.1.size) in (
      record {
        first_nodes = all.nodes.items;
        first_tasks = all.tasks.items;
        failures = seats.0;
        seats = seats.1;
        noted = noted;
        notes = c.in_ok-note_all.ensures.ok;
        node_loops = node_loops_by m.next m.answers m.begin a.options.config a.events.now a.options.seed a.options.turns noted c.in_ok-nodes-3.nodes.items (λ s. s.seat) (λ s. s.line) starts (length starts)
            c.in_ok-nodes-2.ensures.seats c.in_ok-nodes-2.ensures.lines count c.in_ok-nodes-3.ensures.nodes;
        task_loops = task_loops_by m.next m.answers m.begin a.options.config a.events.now a.options.seed a.options.turns all.tasks.items c.in_ok-nodes-3.tasks.items (λ s. s.seat) (λ s. s.calls.items) (λ s. s.line)
            c.in_ok-tasks.tasks.items (length starts) c.in_ok-tasks.ensures.seats c.in_ok-tasks.ensures.calls c.in_ok-tasks.ensures.lines count c.in_ok-nodes-3.ensures.tasks;
      },
      c.in_ok-note_all.ensures.run,
    )

pub note_all-requires-clause-live : goal.note_all-requires-clause-live
note_all-requires-clause-live g c = subst (λ (n : ℕ). All (IsLive n) c.args.events.now) (sym c.in_ok-nodes.ensures.seats.1.size) c.requires.events

pub note_all-requires-clause-run : goal.note_all-requires-clause-run
note_all-requires-clause-run g c =
    let seats = c.in_ok-nodes.ensures.seats in
    nodes_run c.in_ok-nodes.field-0.audit.setup.table c.args.options.config c.args.program.now seats.0 c.in_ok-nodes.field-0.nodes.items (omega (arith, seats.1.size, c.requires.config.nodes.1)) seats.1.nodes_are

pub run_threads-requires-clause-count : goal.run_threads-requires-clause-count
run_threads-requires-clause-count g c κs within =
    let ready = mapped_length (λ s. s.seat) c.in_ok-nodes-2.nodes.items c.note_all.new.seats.items c.in_ok-nodes-2.ensures.seats in
    let size = c.in_ok-nodes.ensures.seats.1.size in
    (omega (arith, ready, c.note_all.ensures.size, size, c.requires.config.nodes.0), omega (arith, ready, c.note_all.ensures.size, size, c.requires.config.nodes.1))

pub run_threads-requires-clause-node_lines : goal.run_threads-requires-clause-node_lines
run_threads-requires-clause-node_lines g c κs within k d less = ap (λ l. l.held) (c.in_ok-nodes-2.ensures.lines k d less)

pub run_threads-requires-clause-task_lines : goal.run_threads-requires-clause-task_lines
run_threads-requires-clause-task_lines g c κs within k d less = ap (λ l. l.held) (c.in_ok-tasks.ensures.lines k d less)

pub run_threads-requires-clause-fresh : goal.run_threads-requires-clause-fresh
run_threads-requires-clause-fresh g c κs within =
    let fresh = tasks_fresh c.in_ok-nodes.field-0.audit.setup.table c.args.options.config c.args.program.now c.in_ok-nodes.field-0.tasks.items c.in_ok-nodes.ensures.seats.1.tasks_are in
    all_mapped (λ (s : SeatState g.row.M-Program.Denot). s.part ≡ fresh_part (OfTask fresh_task)) (λ s. s.seat) c.in_ok-tasks.tasks.items
    (subst (All (λ (s : SeatState g.row.M-Program.Denot). s.part ≡ fresh_part (OfTask fresh_task))) (sym c.in_ok-tasks.ensures.seats) fresh)

pub audited-requires-clause-few : goal.audited-requires-clause-few
audited-requires-clause-few g c =
    let m = g.M.Machine in
    let starts = c.in_ok-nodes-2.nodes.items in
    let ready = mapped_length (λ s. s.seat) starts c.note_all.new.seats.items c.in_ok-nodes-2.ensures.seats in
    let ran = zip_length (λ s e. IsLooped m.next m.answers m.begin lets heard over ended (length starts) c.args.options.turns s.seat s.line e) starts c.in_ok-nodes-3.nodes.items c.in_ok-nodes-3.ensures.nodes in
    omega (arith, ran, ready, c.note_all.ensures.size, c.in_ok-nodes.ensures.seats.1.size, c.requires.config.nodes.1)

pub audited-requires-clause-ended : goal.audited-requires-clause-ended
audited-requires-clause-ended g c = nodes_ended (whole g (goal.at.audited-requires-clause-ended g c).In_ok-nodes-3)

pub audited-requires-clause-still : goal.audited-requires-clause-still
audited-requires-clause-still g c = nodes_still (whole g (goal.at.audited-requires-clause-still g c).In_ok-nodes-3)

pub audited-requires-clause-nodes : goal.audited-requires-clause-nodes
audited-requires-clause-nodes g c = nodes_here (whole g (goal.at.audited-requires-clause-nodes g c).In_ok-nodes-3)

pub audited-requires-clause-numbers : goal.audited-requires-clause-numbers
audited-requires-clause-numbers g c = nodes_numbered (whole g (goal.at.audited-requires-clause-numbers g c).In_ok-nodes-3)

pub audited-requires-clause-tasks : goal.audited-requires-clause-tasks
audited-requires-clause-tasks g c = tasks_here (whole g (goal.at.audited-requires-clause-tasks g c).In_ok-nodes-3)

pub returns-clause-outcome : goal.returns-clause-outcome
returns-clause-outcome g c = IfOk-weaker c.audited.result _ _ (outcome (whole g (goal.at.returns-clause-outcome g c).In_ok-nodes-3)) c.audited.ensures.stated
