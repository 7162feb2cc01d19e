use Rattle.std.proofs.Common.{ℕ, nat_eq, nat_le, List, length, ap, ◌∙◌}
use Rattle.std.proofs.lemmas.Bool.Decides.{Decides-eqb}
use Rattle.rp_base.specs.Majority.{majority_of, nodes_among}
use Rattle.rp_base.specs.Sets.{with_member}
use Rattle.rp_base.specs.Promises.{Promise, same_promise}
use Rattle.rp_base.proofs.Members.{set_with}
use Rattle.rp_proposer.specs.Heard.{set_of}
use Rattle.rp_proposer.proofs.Promised.{as_many, senders_more}
use Rattle.rp_proposer.proofs.proposal.Proposal.is_promised_with.Goals as goal

pub returns : goal.returns
returns c =
    let more : List ℕ = with_member nat_eq c.self.inside.senders c.args.promise.now.0 in
    rw (← c.self.view_is)
    (ap (λ (n : ℕ). nat_le n c.len_with.result) (c.from.ensures ∙ c.majority.ensures)
    ∙ ap (λ (n : ℕ). nat_le (majority_of c.args.nodes) n) (c.len_with.ensures.value
    ∙ ap (λ (p : Promise). length (nodes_among c.args.nodes (with_member nat_eq c.self.inside.senders p.0))) c.promise.view_is
    ∙ as_many c.args.nodes more (with_member same_promise (set_of c.self.inside.heard) c.args.promise.now)
    (set_with nat_eq Decides-eqb c.self.inside.senders c.args.promise.now.0 c.len_with.ensures.nodes.distinct)
    (senders_more c.self.inside.senders more (set_of c.self.inside.heard) c.args.promise.now c.self.invariant.0 (λ x. (λ h. h, λ h. h)))))
