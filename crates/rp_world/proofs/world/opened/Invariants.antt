use Rattle.std.proofs.Common.{◌≡◌, ◌+◌, ℕ, suc, length, slice_get, All, [], ◌++◌, map}
use Rattle.std.specs.Prelude.{IfSome}
use Rattle.rp_model.specs.Parts.{fresh_node}
use Rattle.rp_actors.specs.Nodes.{failures_in, member_of, Represents}
use Rattle.rp_world.proofs.world.opened.Given as goal

-- the nodes so far, and the devices that are left
abbrev pub invariant-loop-device : goal.invariant-loop-device
invariant-loop-device g l = record {
  count : length l.nodes.items + length l.device-iterator.rest.items ≡ l.config.nodes;
  each : (place : ℕ) → IfSome (slice_get l.nodes.items place) (λ node. Represents g.D.Device.disk (member_of (suc place) l.config (g.M.Machine.begin l.program)) node fresh_node);
  failures : map (failures_in g.D.Device.disk) l.nodes.items ++ map (λ device. (g.D.Device.disk device).failures) l.device-iterator.rest.items ≡ map (λ device. (g.D.Device.disk device).failures) l.fn.devices.items;
  empty : All (λ device. (g.D.Device.disk device).contents ≡ []) l.device-iterator.rest.items;
}
