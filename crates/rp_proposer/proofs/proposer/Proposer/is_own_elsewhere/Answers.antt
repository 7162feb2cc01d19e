use Rattle.std.proofs.Common.{sym, ap, ◌∙◌}
use Rattle.rp_proposer.specs.Proposing.{ProposerPart, is_own_elsewhere}
use Rattle.rp_proposer.proofs.Owning.{none_own}
use Rattle.rp_proposer.proofs.proposer.Proposer.is_own_elsewhere.Goals as goal

pub returns-then-self-eq0 : goal.returns-then-self-eq0
returns-then-self-eq0 c =
    sym (ap (λ (part : ProposerPart). is_own_elsewhere part.proposals c.args.position c.args.item.now) (sym c.self.view_is)
    ∙ none_own c.self.inside.proposals.items c.args.position c.args.item.now (sym c.self.invariant.own ∙ c.if-self-eq0.true))
