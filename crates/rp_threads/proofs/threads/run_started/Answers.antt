-- Each end is that of the start at its place.
use Rattle.std.proofs.Common.{◌≡◌, length, arith}
use Rattle.rp_threads.specs.Runs.{IsNodeEnd, IsTaskEnd}
use Rattle.rp_threads.proofs.Places.{all_kept}
use Rattle.rp_threads.proofs.threads.run_started.Goals as goal

pub returns : goal.returns
returns g c =
    let m = g.M.Machine in
    let gate = g.G.Gate in
    let ending = g.E.Ending in
    let starts = c.args.nodes.items in
    let count : c.len-count.result ≡ length starts = omega (arith, c.len-count.ensures, c.args.nodes.ok.0) in
    record {
      nodes_are = all_kept (λ handle. handle.promise.start.value) (λ handle. handle.promise.nodes) (λ handle. handle.promise.turns)
          (λ start nodes turns end. IsNodeEnd m.next m.answers m.begin gate.lets gate.heard ending.over ending.ended nodes turns start end) c.args.options.turns count starts c.in_ok-nodes.nodes.items c.in_ok-nodes-2.nodes.items c.in_ok-nodes.ensures c.in_ok-nodes-2.ensures;
      tasks_are = all_kept (λ handle. handle.promise.start.value) (λ handle. handle.promise.nodes) (λ handle. handle.promise.turns)
          (λ start nodes turns end. IsTaskEnd m.next m.answers m.begin ending.over ending.ended nodes turns start end) c.args.options.turns count c.args.tasks.items c.in_ok-tasks.tasks.items c.in_ok-tasks-2.tasks.items c.in_ok-tasks.ensures c.in_ok-tasks-2.ensures;
    }
