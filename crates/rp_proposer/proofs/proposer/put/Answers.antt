use Rattle.std.proofs.Common.{◌≡◌, ◌+◌, List, [], ◌∷◌, ◌++◌, length, length-append, refl, sym, ap, ◌∙◌, arith}
use Rattle.rp_base.specs.Proposals.{Proposal}
use Rattle.rp_proposer.specs.Room.{own_actions_of}
use Rattle.rp_proposer.proofs.Owning.{own_set, own_append, own_more}
use Rattle.rp_proposer.proofs.Places.{index_at, index_none, read_at}
use Rattle.rp_proposer.proofs.proposer.put.Goals as goal

pub index-requires : goal.index-requires
index-requires c =
    let found = index_at c.args.proposals.now.items c.in-Some.index c.args.proposal.position (sym c.requires.index ∙ c.in-Some.is) in
    omega (arith, found.1.within, c.args.proposals.now.ok.0)

pub index_mut-requires : goal.index_mut-requires
index_mut-requires c =
    let found = index_at c.args.proposals.now.items c.in-Some.index c.args.proposal.position (sym c.requires.index ∙ c.in-Some.is) in
    omega (arith, found.1.within, c.args.proposals.now.ok.0)

pub push_back_reserved-requires : goal.push_back_reserved-requires
push_back_reserved-requires c =
    let absent = index_none c.args.proposals.now.items 0 c.args.proposal.position (sym c.requires.index ∙ c.in-None.is) in
    omega (arith, c.requires.room, ap length absent.others, c.args.proposals.now.ok.0)

pub returns-in-Some-clause-items : goal.returns-in-Some-clause-items
returns-in-Some-clause-items c =
    let found = index_at c.args.proposals.now.items c.in-Some.index c.args.proposal.position (sym c.requires.index ∙ c.in-Some.is) in
    sym (found.1.put c.args.proposal refl)

pub returns-in-None-clause-items : goal.returns-in-None-clause-items
returns-in-None-clause-items c =
    let absent = index_none c.args.proposals.now.items 0 c.args.proposal.position (sym c.requires.index ∙ c.in-None.is) in
    c.push_back_reserved.ensures.items ∙ sym (absent.put c.args.proposal refl)

pub returns-in-None-clause-length : goal.returns-in-None-clause-length
returns-in-None-clause-length c =
    let absent = index_none c.args.proposals.now.items 0 c.args.proposal.position (sym c.requires.index ∙ c.in-None.is) in
    let longer = ap length c.push_back_reserved.ensures.items in
    let more : length (c.args.proposals.now.items ++ c.args.proposal ∷ []) ≡ length c.args.proposals.now.items + 1 = simp length-append in
    omega (arith, longer, more, ap length absent.others)

pub returns-in-Some-clause-own : goal.returns-in-Some-clause-own
returns-in-Some-clause-own c =
    let items : List Proposal = c.args.proposals.now.items in
    let found = read_at items c.in-Some.index c.args.proposal.position c.index.result.now (sym c.requires.index ∙ c.in-Some.is) c.index.ensures in
    omega (arith, own_set items c.in-Some.index c.index.result.now c.args.proposal found.at, c.own_count-had.ensures)

pub returns-in-None-clause-own : goal.returns-in-None-clause-own
returns-in-None-clause-own c =
    let p : Proposal = c.args.proposal in
    let more = ap own_actions_of c.push_back_reserved.ensures.items in
    omega (arith, more, own_append c.args.proposals.now.items (p ∷ []), own_more p [])
