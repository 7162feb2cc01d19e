use Rattle.std.proofs.Common.{ℕ, List, length, sym, ap, subst, ◌∙◌, arith}
use Rattle.std.proofs.lemmas.List.{length-map}
use Rattle.rp_base.specs.Sets.{IsSet}
use Rattle.rp_base.specs.Proposals.{Proposal, once_promised}
use Rattle.rp_base.proofs.Apart.{positions_stay, promised_there}
use Rattle.rp_proposer.specs.Room.{own_actions_of}
use Rattle.rp_proposer.proofs.Owning.{own_kept, own_promised}
use Rattle.rp_proposer.proofs.Rising.{rises_changed}
use Rattle.rp_proposer.proofs.Within.{kept}
use Rattle.rp_proposer.proofs.proposer.Proposer.note_range.Goals as goal

pub invariant_of-self : goal.invariant_of-self
invariant_of-self c =
    let items : List Proposal = c.self.inside.proposals.items in
    let is = c.self.invariant in
    let change : Proposal → Proposal = once_promised c.self.inside.nodes c.args.from c.args.range c.args.ballot c.args.votes.now in
    let long = ap length c.note_range.ensures.items ∙ length-map items change in
    let same = ap own_actions_of c.note_range.ensures.items ∙ own_kept change (own_promised c.self.inside.nodes c.args.from c.args.range c.args.ballot c.args.votes.now) items in
    kept _ _ _ _ _ _ _ _ _ _ is c.note_range.ensures.items c.note_range.ensures.capacity
    (subst (λ (l : List ℕ). IsSet l) (sym (positions_stay change (promised_there c.self.inside.nodes c.args.from c.args.range c.args.ballot c.args.votes.now) items)) is.apart)
    (omega (arith, long, is.few))
    (λ yes. rises_changed change (promised_there c.self.inside.nodes c.args.from c.args.range c.args.ballot c.args.votes.now) 0 items (is.ascends yes))
    (is.own ∙ sym same)
