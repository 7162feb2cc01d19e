-- One more thread is started.
use Rattle.std.proofs.Common.{◌≡◌, All, [], sym, subst}
use Rattle.rp_board.specs.Parts.{fresh_part, OfTask}
use Rattle.rp_replica.specs.rp_model.specs.Parts.{fresh_task}
use Rattle.rp_boxes.specs.rp_actors.proofs.Fresh.{rest_of}
use Rattle.rp_threads.proofs.Places.{none_left, none_zipped, one_more_zipped, all_zipped}
use Rattle.rp_threads.proofs.threads.start_tasks.Goals as goal

pub loop-start-init : goal.loop-start-init
loop-start-init g c =
    let same = c.into_iter-start-iterator.ensures.into_iter_gives.0 in
    record {
      started = none_zipped same c.new-handles.ensures.items;
      lines = subst (All (λ start. start.line.held ≡ [])) (sym same) c.requires.lines;
      fresh = subst (All (λ start. start.seat.part ≡ fresh_part (OfTask fresh_task))) (sym same) c.requires.fresh;
    }

pub loop-start-preserved : goal.loop-start-preserved
loop-start-preserved g c =
    let was = c.loop-start.invariant in
    let rest = c.loop-start.start-iterator.rest.items in
    let rest' = c.next.new.self.rest.items in
    let steps = c.in-Some.ensures.steps.0 in
    let stated = c.in_ok-start_task.ensures in
    record {
      started = one_more_zipped was.started steps c.in_ok-push.ensures.items (stated.start, stated.nodes, stated.turns);
      lines = rest_of (λ start. start.line.held ≡ []) rest c.in-Some.start rest' steps was.lines;
      fresh = rest_of (λ start. start.seat.part ≡ fresh_part (OfTask fresh_task)) rest c.in-Some.start rest' steps was.fresh;
    }

pub returns : goal.returns
returns g c =
    let rest = c.loop-start.start-iterator.rest in
    all_zipped c.loop-start.invariant.started (none_left rest.items rest.len rest.ok.0 c.in-None.ensures.steps.0)
