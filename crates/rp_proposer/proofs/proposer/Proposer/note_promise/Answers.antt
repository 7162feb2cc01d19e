use Rattle.std.proofs.Common.{◌≡◌, None, Option, List, set, refl, sym, ap, ◌∙◌, arith, cond}
use Rattle.std.specs.Prelude.{is_some}
use Rattle.std.proofs.lemmas.List.{length-set}
use Rattle.rp_base.specs.Ballot.{number_of}
use Rattle.rp_base.specs.declared.action.Action.{Action}
use Rattle.rp_base.specs.Proposals.{Proposal, proposal_at}
use Rattle.rp_base.proofs.Apart.{with_apart}
use Rattle.rp_proposer.specs.Proposing.{ProposerPart, once_noted}
use Rattle.rp_proposer.specs.Room.{own_count}
use Rattle.rp_proposer.proofs.Owning.{own_set, own_noted}
use Rattle.rp_proposer.proofs.Places.{index_at, index_none, read_at, noted_there}
use Rattle.rp_proposer.proofs.Rising.{rises_in_place}
use Rattle.rp_proposer.proofs.Within.{kept}
use Rattle.rp_proposer.proofs.proposer.Proposer.note_promise.Goals as goal

pub index_mut-requires : goal.index_mut-requires
index_mut-requires c =
    let found = index_at c.self.inside.proposals.items c.in-Some.index c.args.position (sym c.index_of_proposal.ensures ∙ c.in-Some.is) in
    omega (arith, found.1.within, c.self.inside.proposals.ok.0)

pub invariant_of-self : goal.invariant_of-self
invariant_of-self c =
    let items : List Proposal = c.self.inside.proposals.items in
    let p : Proposal = c.index_mut.result.now in
    let is = c.self.invariant in
    let found = read_at items c.in-Some.index c.args.position p (sym c.index_of_proposal.ensures ∙ c.in-Some.is) c.index_mut.ensures.value in
    let here : c.note.new.self.position ≡ c.args.position =
    ap (λ (q : Proposal). q.position) c.note.ensures ∙ noted_there c.self.inside.nodes c.args.ballot p (c.args.from, c.args.last) ∙ found.place in
    let long = length-set items c.in-Some.index c.note.new.self in
    let same : c.note.new.self.own ≡ p.own = ap (λ (q : Proposal). q.own) c.note.ensures ∙ own_noted c.self.inside.nodes c.args.ballot p (c.args.from, c.args.last) in
    let count : own_count c.note.new.self ≡ own_count p = ap (λ (own : Option Action). cond (is_some own) 1 0) same in
    kept _ _ _ _ _ _ _ _ _ _ is (sym (found.put c.note.new.self here)) refl (with_apart c.note.new.self items is.apart)
    (omega (arith, long, is.few))
    (λ yes. rises_in_place items c.in-Some.index c.args.position p c.note.new.self found here (is.ascends yes))
    (omega (arith, own_set items c.in-Some.index p c.note.new.self found.at, count, is.own))

pub returns-in-Some-clause-noted : goal.returns-in-Some-clause-noted
returns-in-Some-clause-noted c =
    let items : List Proposal = c.self.inside.proposals.items in
    let p : Proposal = c.index_mut.result.now in
    let q : Proposal = once_noted c.self.inside.nodes c.args.ballot p (c.args.from, c.args.last) in
    let found = read_at items c.in-Some.index c.args.position p (sym c.index_of_proposal.ensures ∙ c.in-Some.is) c.index_mut.ensures.value in
    rw (← c.self.view_is, found.runs)
    (ap (λ (l : List Proposal). record { node = c.self.inside.node; nodes = c.self.inside.nodes; proposals = l; started = number_of c.self.inside.started; refused = c.self.inside.refused })
    (ap (λ (r : Proposal). set items c.in-Some.index r) c.note.ensures
    ∙ sym (found.put q (noted_there c.self.inside.nodes c.args.ballot p (c.args.from, c.args.last) ∙ found.place))))

pub returns-in_default-clause-noted : goal.returns-in_default-clause-noted
returns-in_default-clause-noted c =
    let absent = index_none c.self.inside.proposals.items 0 c.args.position (rw (← c.index_of_proposal.ensures) c.in_default.is) in
    let none : proposal_at c.args.self.now.proposals c.args.position ≡ None = ap (λ (part : ProposerPart). proposal_at part.proposals c.args.position) (sym c.self.view_is) ∙ absent.none in
    rw none
