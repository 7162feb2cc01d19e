use Rattle.std.proofs.Common.{◌≡◌, ◌+◌, ℕ, suc, length, map, slice_get, All, [], ◌∷◌, ◌++◌, sym, ap, subst, ◌∙◌, arith}
use Rattle.std.specs.Prelude.{IfSome}
use Rattle.std.proofs.lemmas.List.{length-append}
use Rattle.rp_model.specs.Parts.{fresh_node}
use Rattle.rp_actors.specs.Nodes.{failures_in, member_of, Represents}
use Rattle.rp_actors.proofs.Moving.{at_if}
use Rattle.rp_actors.proofs.Fresh.{counted_more, first_of, rest_of, one_more}
use Rattle.rp_world.proofs.world.opened.Goals as goal

pub loop-device-init : goal.loop-device-init
loop-device-init g c =
    let disk = g.D.Device.disk in
    let begin = g.M.Machine.begin c.args.program.now in
    let devices = c.into_iter-device-iterator.ensures.into_iter_gives.0 in
    record {
      count = omega (arith, ap length c.new-nodes.ensures.items, ap length devices, c.requires.count);
      each = subst (λ l. (place : ℕ) → IfSome (slice_get l place) (λ node. Represents disk (member_of (suc place) c.args.config begin) node fresh_node)) (sym c.new-nodes.ensures.items) (λ place. tt);
      failures = ap (λ l. map (failures_in disk) l ++ map (λ device. (disk device).failures) c.into_iter-device-iterator.result.rest.items) c.new-nodes.ensures.items ∙ ap (map (λ device. (disk device).failures)) devices;
      empty = subst (All (λ device. (disk device).contents ≡ [])) (sym devices) c.requires.empty;
    }

pub open-requires-clause-empty : goal.open-requires-clause-empty
open-requires-clause-empty g c =
    first_of (λ device. (g.D.Device.disk device).contents ≡ []) c.loop-device.device-iterator.rest.items c.in-Some.device c.next.new.self.rest.items c.in-Some.ensures.steps.0 c.loop-device.invariant.empty

pub loop-device-preserved : goal.loop-device-preserved
loop-device-preserved g c =
    let disk = g.D.Device.disk in
    let begin = g.M.Machine.begin c.args.program.now in
    let nodes = c.loop-device.nodes.items in
    let node = c.in_ok-open.field-0 in
    let grown = c.in_ok-push.ensures.items in
    let steps = c.in-Some.ensures.steps.0 in
    let number = at_if (λ id. id ≡ c.len.result + 1) c.new.result c.unwrap-node.result c.unwrap-node.ensures c.new.ensures.value in
    let next : c.unwrap-node.result ≡ suc (length nodes) = omega (arith, number, c.len.ensures, c.loop-device.nodes.ok.0) in
    record {
      count = omega (arith, ap length grown, length-append nodes (node ∷ []), ap length steps, c.loop-device.invariant.count);
      each = subst (λ l. (place : ℕ) → IfSome (slice_get l place) (λ n. Represents disk (member_of (suc place) c.args.config begin) n fresh_node)) (sym grown)
          (one_more (λ place n. Represents disk (member_of (suc place) c.args.config begin) n fresh_node) nodes node c.loop-device.invariant.each
          (subst (λ (k : ℕ). Represents disk (member_of k c.args.config begin) node fresh_node) next c.in_ok-open.ensures.ok));
      failures = subst (λ l. map (failures_in disk) l ++ map (λ device. (disk device).failures) c.next.new.self.rest.items ≡ map (λ device. (disk device).failures) c.args.devices.items) (sym grown)
          (counted_more (failures_in disk) (λ device. (disk device).failures) nodes node c.in-Some.device c.next.new.self.rest.items (map (λ device. (disk device).failures) c.args.devices.items) c.in_ok-open.ensures.failures
          (ap (λ l. map (failures_in disk) nodes ++ map (λ device. (disk device).failures) l) (sym steps) ∙ c.loop-device.invariant.failures));
      empty = rest_of (λ device. (disk device).contents ≡ []) c.loop-device.device-iterator.rest.items c.in-Some.device c.next.new.self.rest.items steps c.loop-device.invariant.empty;
    }
