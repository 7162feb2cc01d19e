use Rattle.std.proofs.Common.{List, arith}
use Rattle.std.specs.Prelude.{not}
use Rattle.rp_base.specs.Proposals.{Proposal, is_given_up}
use Rattle.rp_base.proofs.Apart.{passing_apart}
use Rattle.rp_proposer.proofs.Rising.{rises_passing}
use Rattle.rp_proposer.proofs.Within.{kept}
use Rattle.rp_proposer.proofs.proposer.Proposer.nack.Goals as goal

pub invariant_of-self : goal.invariant_of-self
invariant_of-self c =
    let items : List Proposal = c.self.inside.proposals.items in
    let is = c.self.invariant in
    kept _ _ _ _ _ _ _ _ _ _ is c.give_up.ensures.items c.give_up.ensures.capacity
    (passing_apart (λ p. not (is_given_up c.self.inside.nodes c.args.position c.args.ballot p)) items is.apart)
    (omega (arith, c.give_up.ensures.fewer, is.few))
    (λ yes. rises_passing (λ p. not (is_given_up c.self.inside.nodes c.args.position c.args.ballot p)) 0 items (is.ascends yes))
    c.count_own-self-inside.ensures
