use Rattle.std.proofs.Common.{arith}
use Rattle.rp_base.proofs.Masks.{counted_with, are_nodes}
use Rattle.rp_base.proofs.senders.Senders.len_with.Goals as goal

pub returns-clause-value : goal.returns-clause-value
returns-clause-value c =
    rw (← c.self.view_is, c.get.ensures.value, c.bits_up_to.ensures)
    (counted_with c.self.inside.mask c.args.node c.args.nodes c.get.ensures.in_range c.requires (omega arith) c.self.invariant)

pub returns-clause-nodes : goal.returns-clause-nodes
returns-clause-nodes c = rw (← c.self.view_is) (are_nodes c.self.inside.mask)
