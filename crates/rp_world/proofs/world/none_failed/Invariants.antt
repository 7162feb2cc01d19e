use Rattle.std.proofs.Common.{◌≡◌, ℕ, take, slice_get}
use Rattle.std.specs.Prelude.{IfSome}
use Rattle.rp_actors.specs.Nodes.{failures_in}
use Rattle.rp_world.proofs.world.none_failed.Given as goal

-- the nodes so far have not failed
abbrev pub invariant-loop-node : goal.invariant-loop-node
invariant-loop-node g l = (k : ℕ) → IfSome (slice_get (take l.node-index l.nodes) k) (λ n. failures_in g.D.Device.disk n ≡ 0)
