use Rattle.std.proofs.Common.{ℕ, nat_le, ap, ◌∙◌}
use Rattle.rp_base.specs.Majority.{majority_of}
use Rattle.rp_proposer.specs.Heard.{set_of}
use Rattle.rp_proposer.proofs.Promised.{as_many}
use Rattle.rp_proposer.proofs.proposal.Proposal.is_promised.Goals as goal

pub returns : goal.returns
returns c =
    rw (← c.self.view_is)
    (ap (λ (n : ℕ). nat_le n c.len_within.result) (c.from.ensures ∙ c.majority.ensures)
    ∙ ap (λ (n : ℕ). nat_le (majority_of c.args.nodes) n) (c.len_within.ensures.value
    ∙ as_many c.args.nodes c.self.inside.senders (set_of c.self.inside.heard) c.len_within.ensures.nodes.distinct c.self.invariant.0))
