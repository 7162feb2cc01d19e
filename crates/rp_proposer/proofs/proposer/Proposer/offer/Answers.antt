use Rattle.std.proofs.Common.{◌≡◌, None, List, set, refl, sym, ap, ◌∙◌, arith}
use Rattle.std.proofs.lemmas.List.{length-set}
use Rattle.rp_base.specs.Ballot.{number_of}
use Rattle.rp_base.specs.Proposals.{Proposal, proposal_at}
use Rattle.rp_base.proofs.Apart.{with_apart}
use Rattle.rp_proposer.specs.Proposing.{ProposerPart, once_offered}
use Rattle.rp_proposer.proofs.Owning.{own_set, own_few, own_one}
use Rattle.rp_proposer.proofs.Places.{index_at, index_none, read_at, offered_there}
use Rattle.rp_proposer.proofs.Rising.{rises_in_place}
use Rattle.rp_proposer.proofs.Within.{kept}
use Rattle.rp_proposer.proofs.proposer.Proposer.offer.Goals as goal

pub index_mut-requires : goal.index_mut-requires
index_mut-requires c =
    let found = index_at c.self.inside.proposals.items c.in-Some.index c.args.position (sym c.index_of_proposal.ensures ∙ c.in-Some.is) in
    omega (arith, found.1.within, c.self.inside.proposals.ok.0)

pub overflow_add-self : goal.overflow_add-self
overflow_add-self c =
    let is = c.self.invariant in
    omega (arith, is.own, is.few, own_few c.self.inside.proposals.items, own_one c.offer-had.new.self, c.offer-had.ensures.has)

pub overflow_sub-self : goal.overflow_sub-self
overflow_sub-self c =
    let items : List Proposal = c.self.inside.proposals.items in
    let found = read_at items c.in-Some.index c.args.position c.index_mut.result.now (sym c.index_of_proposal.ensures ∙ c.in-Some.is) c.index_mut.ensures.value in
    omega (arith, own_set items c.in-Some.index c.index_mut.result.now c.offer-had.new.self found.at, c.offer-had.ensures.had, c.offer-had.ensures.has, c.self.invariant.own)

pub invariant_of-self : goal.invariant_of-self
invariant_of-self c =
    let items : List Proposal = c.self.inside.proposals.items in
    let p : Proposal = c.index_mut.result.now in
    let is = c.self.invariant in
    let found = read_at items c.in-Some.index c.args.position p (sym c.index_of_proposal.ensures ∙ c.in-Some.is) c.index_mut.ensures.value in
    let here : c.offer-had.new.self.position ≡ c.args.position =
    ap (λ (q : Proposal). q.position) c.offer-had.ensures.offered ∙ offered_there c.self.inside.nodes c.args.own p ∙ found.place in
    let long = length-set items c.in-Some.index c.offer-had.new.self in
    kept _ _ _ _ _ _ _ _ _ _ is (sym (found.put c.offer-had.new.self here)) refl (with_apart c.offer-had.new.self items is.apart)
    (omega (arith, long, is.few))
    (λ yes. rises_in_place items c.in-Some.index c.args.position p c.offer-had.new.self found here (is.ascends yes))
    (omega (arith, own_set items c.in-Some.index p c.offer-had.new.self found.at, c.offer-had.ensures.had, c.offer-had.ensures.has, is.own))

pub returns-in-Some-clause-offered : goal.returns-in-Some-clause-offered
returns-in-Some-clause-offered c =
    let items : List Proposal = c.self.inside.proposals.items in
    let p : Proposal = c.index_mut.result.now in
    let found = read_at items c.in-Some.index c.args.position p (sym c.index_of_proposal.ensures ∙ c.in-Some.is) c.index_mut.ensures.value in
    rw (← c.self.view_is, found.runs)
    (ap (λ (l : List Proposal). record { node = c.self.inside.node; nodes = c.self.inside.nodes; proposals = l; started = number_of c.self.inside.started; refused = c.self.inside.refused })
    (ap (λ (r : Proposal). set items c.in-Some.index r) c.offer-had.ensures.offered
    ∙ sym (found.put (once_offered c.self.inside.nodes c.args.own p) (offered_there c.self.inside.nodes c.args.own p ∙ found.place))))

pub returns-in_default-clause-offered : goal.returns-in_default-clause-offered
returns-in_default-clause-offered c =
    let absent = index_none c.self.inside.proposals.items 0 c.args.position (rw (← c.index_of_proposal.ensures) c.in_default.is) in
    let none : proposal_at c.args.self.now.proposals c.args.position ≡ None = ap (λ (part : ProposerPart). proposal_at part.proposals c.args.position) (sym c.self.view_is) ∙ absent.none in
    rw none
