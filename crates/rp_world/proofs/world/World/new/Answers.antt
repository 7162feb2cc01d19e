use Rattle.std.proofs.Common.{ℕ, List, map, ap, ◌∙◌}
use Rattle.rp_model.specs.World.{World, opening_world}
use Rattle.rp_actors.specs.Nodes.{failures_in}
use Rattle.rp_actors.specs.Steps.{ClusterState}
use Rattle.rp_actors.proofs.Fresh.{opening, fresh_are_world}
use Rattle.rp_world.proofs.world.World.new.Goals as goal

pub returns-clause-opened : goal.returns-clause-opened
returns-clause-opened g c =
    ap (λ (w : World). let s : ClusterState g.row.M-Program.Denot = record { setup = record { config = c.args.config; program = c.args.program }; world = w; failures = map (failures_in g.D.Device.disk) c.in_ok-nodes.nodes.items } in s)
    (opening g.D.Device.disk c.args.config (g.M.Machine.begin c.args.program) c.in_ok-nodes.nodes.items c.in_ok-tasks.tasks.items c.new.result
    c.in_ok-nodes.ensures.nodes c.in_ok-tasks.ensures c.new.ensures)
    ∙ ap (λ (l : List ℕ). let s : ClusterState g.row.M-Program.Denot = record { setup = record { config = c.args.config; program = c.args.program }; world = opening_world c.args.config.nodes; failures = l } in s) c.in_ok-nodes.ensures.failures

pub invariant_of-result : goal.invariant_of-result
invariant_of-result g c =
    fresh_are_world g.D.Device.disk c.args.config (g.M.Machine.begin c.args.program) c.in_ok-nodes.nodes.items c.in_ok-tasks.tasks.items c.new.result
    c.in_ok-nodes.ensures.nodes c.in_ok-tasks.ensures c.new.ensures c.requires.config
