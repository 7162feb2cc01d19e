-- The one task that is to start.
use Rattle.std.proofs.Common.{◌≡◌, [], sym, subst}
use Rattle.rp_threads.specs.rp_board.specs.Parts.{fresh_part, OfTask}
use Rattle.rp_threads.specs.rp_model.specs.Parts.{fresh_task}
use Rattle.rp_threads_tests.proofs.Starting.{first_is, none_of, one_more_of}
use Rattle.rp_threads_tests.proofs.running.task_starts.Goals as goal

pub returns-clause-lines : goal.returns-clause-lines
returns-clause-lines g c =
    one_more_of (λ s. s.line.held ≡ []) c.new-starts.result.items c.push.new.self.items c.task_start-first.result c.in-Ok.ensures.items
    (none_of (λ s. s.line.held ≡ []) c.new-starts.result.items c.new-starts.ensures.items) c.task_start-first.ensures.line

pub returns-clause-fresh : goal.returns-clause-fresh
returns-clause-fresh g c =
    let first = first_is (λ seat. seat.part ≡ fresh_part (OfTask fresh_task)) c.args.seats.items c.remove.result c.requires.some c.remove.ensures.value c.requires.fresh in
    one_more_of (λ s. s.seat.part ≡ fresh_part (OfTask fresh_task)) c.new-starts.result.items c.push.new.self.items c.task_start-first.result c.in-Ok.ensures.items
    (none_of (λ s. s.seat.part ≡ fresh_part (OfTask fresh_task)) c.new-starts.result.items c.new-starts.ensures.items)
    (subst (λ seat. seat.part ≡ fresh_part (OfTask fresh_task)) (sym c.task_start-first.ensures.seat) first)
