use Rattle.std.proofs.Common.{ℕ, subst, sym}
use Rattle.rp_base.specs.Number.{IsNode}
use Rattle.rp_base.proofs.Masks.{with_node, even_still}
use Rattle.rp_base.proofs.senders.Senders.insert.Goals as goal

pub invariant_of-self : goal.invariant_of-self
invariant_of-self c = even_still c.self.inside.mask c.get.result (subst (λ (n : ℕ). IsNode n) (sym c.get.ensures.value) c.get.ensures.in_range) c.self.invariant

pub returns : goal.returns
returns c = rw (← c.self.view_is, c.get.ensures.value) (with_node c.self.inside.mask c.args.node c.get.ensures.in_range)
