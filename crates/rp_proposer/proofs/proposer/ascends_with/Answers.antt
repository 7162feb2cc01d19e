use Rattle.std.proofs.Common.{ℕ, inl, inr, sym, ap, subst, ◌∙◌}
use Rattle.rp_proposer.specs.Proposing.{index_from}
use Rattle.rp_proposer.specs.Room.{IsLastBelow}
use Rattle.rp_proposer.proofs.Rising.{rises_with}
use Rattle.rp_proposer.proofs.proposer.ascends_with.Goals as goal

pub returns-then-is_some : goal.returns-then-is_some
returns-then-is_some c = λ p here yes.
    rises_with c.args.proposals.now.items c.args.index p (c.requires.index ∙ ap (λ (i : ℕ). index_from 0 i c.args.proposals.now.items) (sym here)) (inl (sym c.is_some.ensures ∙ yes)) (c.requires.ascends c.if-ascending.true)

pub returns-else-is_some : goal.returns-else-is_some
returns-else-is_some c = λ p here yes.
    rises_with c.args.proposals.now.items c.args.index p (c.requires.index ∙ ap (λ (i : ℕ). index_from 0 i c.args.proposals.now.items) (sym here))
    (inr (subst (λ (i : ℕ). IsLastBelow c.args.proposals.now.items i) (sym here) (c.is_after.ensures yes))) (c.requires.ascends c.if-ascending.true)
