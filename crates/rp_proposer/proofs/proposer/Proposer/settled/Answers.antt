use Rattle.std.proofs.Common.{List, arith}
use Rattle.std.specs.Prelude.{nat_eq, not}
use Rattle.rp_base.specs.Proposals.{Proposal}
use Rattle.rp_base.proofs.Apart.{without_apart}
use Rattle.rp_proposer.proofs.Rising.{rises_passing}
use Rattle.rp_proposer.proofs.Within.{kept}
use Rattle.rp_proposer.proofs.proposer.Proposer.settled.Goals as goal

pub invariant_of-self : goal.invariant_of-self
invariant_of-self c =
    let items : List Proposal = c.self.inside.proposals.items in
    let is = c.self.invariant in
    kept _ _ _ _ _ _ _ _ _ _ is c.leave_out.ensures.items c.leave_out.ensures.capacity (without_apart c.args.position items is.apart)
    (omega (arith, c.leave_out.ensures.fewer, is.few))
    (λ yes. rises_passing (λ p. not (nat_eq p.position c.args.position)) 0 items (is.ascends yes))
    (omega (arith, c.leave_out.ensures.own, is.own))
