use Rattle.std.proofs.Common.{arith}
use Rattle.rp_base.proofs.Masks.{counted_within, are_nodes}
use Rattle.rp_base.proofs.senders.Senders.len_within.Goals as goal

pub returns-clause-value : goal.returns-clause-value
returns-clause-value c = rw (← c.self.view_is, c.bits_up_to.ensures) (counted_within c.self.inside.mask c.args.nodes c.requires (omega arith) c.self.invariant)

pub returns-clause-nodes : goal.returns-clause-nodes
returns-clause-nodes c = rw (← c.self.view_is) (are_nodes c.self.inside.mask)
