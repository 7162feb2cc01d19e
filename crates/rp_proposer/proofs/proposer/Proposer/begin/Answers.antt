use Rattle.std.proofs.Common.{◌≡◌, ℕ, List, length, sym, ap, subst, arith}
use Rattle.rp_base.specs.Proposals.{Proposal, without_proposal}
use Rattle.rp_base.proofs.Apart.{with_apart}
use Rattle.rp_proposer.specs.Proposing.{ProposerPart, HasRoom}
use Rattle.rp_proposer.proofs.Owning.{own_few, own_one}
use Rattle.rp_proposer.proofs.Within.{kept}
use Rattle.rp_proposer.proofs.proposer.Proposer.begin.Goals as goal

pub overflow_add-self : goal.overflow_add-self
overflow_add-self c =
    let is = c.self.invariant in
    omega (arith, is.own, is.few, own_few c.self.inside.proposals.items, own_one c.new-proposal.result, c.own_count-has.ensures)

pub invariant_of-self : goal.invariant_of-self
invariant_of-self c =
    let items : List Proposal = c.self.inside.proposals.items in
    let is = c.self.invariant in
    let room : HasRoom items c.args.position = subst (λ (part : ProposerPart). HasRoom part.proposals c.args.position) (sym c.self.view_is) c.requires.room in
    let here : c.new-proposal.result.position ≡ c.args.position = ap (λ (p : Proposal). p.position) c.new-proposal.ensures in
    let others = ap (λ (i : ℕ). length (without_proposal items i)) here in
    kept _ _ _ _ _ _ _ _ _ _ is c.put-had.ensures.items c.put-had.ensures.capacity (with_apart c.new-proposal.result items is.apart)
    (omega (arith, c.put-had.ensures.length, others, room, is.few))
    (c.ascends_with-self-inside.ensures c.new-proposal.result here)
    (omega (arith, c.put-had.ensures.own, is.own, c.own_count-has.ensures))
