-- The opening world is that of a history without events.
use Rattle.std.proofs.Common.{◌≡◌, [], All, length, refl, sym, subst, arith}
use Rattle.rp_base.specs.Config.{IsRightConfig}
use Rattle.rp_model.specs.World.{opening_world}
use Rattle.rp_actors.specs.Shape.{IsCluster}
use Rattle.rp_actors.specs.Steps.{cluster_setting}
use Rattle.rp_world.proofs.cluster.Cluster.new.Goals as goal

pub invariant_of-result : goal.invariant_of-result
invariant_of-result g c =
    let m = g.M.Machine in
    let right : IsRightConfig c.args.config = c.is_right.ensures.0 c.if-not-is_right.false in
    let opening = opening_world c.args.config.nodes in
    subst (λ v. IsCluster (cluster_setting m.next m.answers m.begin v) v.world) (sym c.in_ok-new.ensures.opened)
    (record {
      right = right;
      kept = c.replies_follow_the_order.ensures.histories (cluster_setting m.next m.answers m.begin (record { setup = record { config = c.args.config; program = c.args.program }; world = opening; failures = [] })) [] opening (record { config = right; right = λ event h. absurd h; happened = refl });
      ranged = c.events_keep_ranges.ensures.opening c.args.config.nodes;
    })

pub returns-clause-refused : goal.returns-clause-refused
returns-clause-refused g c =
    let right : IsRightConfig c.args.config = c.is_right.ensures.0 c.if-not-is_right.false in
    let count : length c.args.devices.items ≡ c.args.config.nodes = omega (arith, c.if-len-from.false, c.len.ensures, c.from.ensures, c.args.devices.ok.0) in
    let empty = subst (λ devices. All (λ device. (g.D.Device.disk device).contents ≡ []) devices) c.deref.ensures.value (c.are_empty.ensures.0 c.if-not-are_empty.false) in
    (λ stated. absurd cc, λ none. absurd (none (right, count, empty)))
