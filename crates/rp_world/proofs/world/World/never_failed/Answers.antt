-- The counts of all nodes are 0.
use Rattle.std.proofs.Common.{All, ℕ, ◌≡◌, slice_get, subst}
use Rattle.std.specs.Prelude.{IfSome}
use Rattle.rp_actors.specs.Nodes.{failures_in}
use Rattle.rp_actors.proofs.Fresh.{all_zero}
use Rattle.rp_world.proofs.world.World.never_failed.Goals as goal

pub returns : goal.returns
returns g c =
    let disk = g.D.Device.disk in
    subst (λ v. All (λ count. count ≡ 0) v.failures) c.self.view_is
    (all_zero (failures_in disk) c.self.inside.nodes.items
    (subst (λ xs. (k : ℕ) → IfSome (slice_get xs k) (λ n. failures_in disk n ≡ 0)) c.deref.ensures.value c.none_failed.ensures))
