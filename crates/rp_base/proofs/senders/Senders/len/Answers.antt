use Rattle.std.proofs.Common.{◌≡◌, ◌*◌, ◌/◌, arith}
use Rattle.rp_base.proofs.Masks.{counted, are_nodes}
use Rattle.rp_base.proofs.senders.Senders.len.Goals as goal

pub returns-clause-value : goal.returns-clause-value
returns-clause-value c =
    let whole : c.self.inside.mask ≡ 2 * (c.self.inside.mask / 2) = omega (arith, c.self.invariant) in
    rw (← c.self.view_is, whole) (counted (c.self.inside.mask / 2) (omega arith))

pub returns-clause-nodes : goal.returns-clause-nodes
returns-clause-nodes c = rw (← c.self.view_is) (are_nodes c.self.inside.mask)
