use Rattle.std.proofs.Common.{◌≤◌, List, length, sym, ap, subst, ◌∙◌, arith}
use Rattle.std.specs.Prelude.{nat_eq, not}
use Rattle.rp_base.specs.Proposals.{Proposal}
use Rattle.rp_proposer.specs.Room.{own_actions_of}
use Rattle.rp_proposer.proofs.Owning.{own_removed}
use Rattle.rp_proposer.proofs.Places.{index_at, index_none, left_out, read_at}
use Rattle.rp_proposer.proofs.Starting.{few_pass}
use Rattle.rp_proposer.proofs.proposer.leave_out.Goals as goal

pub index-requires : goal.index-requires
index-requires c =
    let found = index_at c.args.proposals.now.items c.in-Some.index c.args.position (sym c.index_of_proposal.ensures ∙ c.in-Some.is) in
    omega (arith, found.1.within, c.args.proposals.now.ok.0)

pub take_out-requires : goal.take_out-requires
take_out-requires c = (index_at c.args.proposals.now.items c.in-Some.index c.args.position (sym c.index_of_proposal.ensures ∙ c.in-Some.is)).1.within

pub returns-in-Some-clause-items : goal.returns-in-Some-clause-items
returns-in-Some-clause-items c =
    c.take_out.ensures.items
    ∙ left_out c.args.proposals.now.items c.in-Some.index c.args.position (sym c.index_of_proposal.ensures ∙ c.in-Some.is) c.requires.apart

pub returns-in-Some-clause-fewer : goal.returns-in-Some-clause-fewer
returns-in-Some-clause-fewer c =
    let items : List Proposal = c.args.proposals.now.items in
    let left = c.take_out.ensures.items ∙ left_out items c.in-Some.index c.args.position (sym c.index_of_proposal.ensures ∙ c.in-Some.is) c.requires.apart in
    subst (λ (l : List Proposal). length l ≤ length items) (sym left) (few_pass (λ p. not (nat_eq p.position c.args.position)) items)

pub returns-in-Some-clause-own : goal.returns-in-Some-clause-own
returns-in-Some-clause-own c =
    let items : List Proposal = c.args.proposals.now.items in
    let found = read_at items c.in-Some.index c.args.position c.index.result.now (sym c.index_of_proposal.ensures ∙ c.in-Some.is) c.index.ensures in
    omega (arith, ap own_actions_of c.take_out.ensures.items, own_removed items c.in-Some.index c.index.result.now found.at, c.own_count-had.ensures)

pub returns-in-None-clause-items : goal.returns-in-None-clause-items
returns-in-None-clause-items c = sym (index_none c.args.proposals.now.items 0 c.args.position (sym c.index_of_proposal.ensures ∙ c.in-None.is)).others
