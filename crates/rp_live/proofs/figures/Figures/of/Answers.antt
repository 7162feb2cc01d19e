-- What the tasks lost is added to what the nodes lost.
use Rattle.std.proofs.Common.{map, refl, sym, arith}
use Rattle.rp_live.proofs.Sums.{sum_apart}
use Rattle.rp_live.proofs.figures.Figures.of.Goals as goal

pub returns : goal.returns
returns g c =
    let nodes = c.lost_by_nodes.type_inv in
    let lost = sum_apart c.lost_by_nodes.result (map (λ end. end.lost) c.args.tasks.now) (omega (arith, nodes)) in
    rw (c.calls_made.ensures, c.calls_answered.ensures, c.last_reply.ensures, c.turns_led.ensures, c.saturating_add.ensures, c.lost_by_tasks.ensures, sym lost, c.lost_by_nodes.ensures) refl
