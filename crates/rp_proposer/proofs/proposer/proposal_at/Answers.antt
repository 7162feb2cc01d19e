use Rattle.std.proofs.Common.{sym, ◌∙◌, arith}
use Rattle.rp_proposer.proofs.Places.{index_at, index_none, read_at}
use Rattle.rp_proposer.proofs.proposer.proposal_at.Goals as goal

pub index-requires : goal.index-requires
index-requires c =
    let found = index_at c.args.proposals.now.items c.in-Some.index c.args.position (sym c.index_of_proposal.ensures ∙ c.in-Some.is) in
    omega (arith, found.1.within, c.args.proposals.now.ok.0)

pub returns-in-Some : goal.returns-in-Some
returns-in-Some c =
    sym (read_at c.args.proposals.now.items c.in-Some.index c.args.position c.index.result.now (sym c.index_of_proposal.ensures ∙ c.in-Some.is) c.index.ensures).runs

pub returns-in-None : goal.returns-in-None
returns-in-None c = sym (index_none c.args.proposals.now.items 0 c.args.position (sym c.index_of_proposal.ensures ∙ c.in-None.is)).none
