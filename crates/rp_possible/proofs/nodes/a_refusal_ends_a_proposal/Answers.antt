-- Of the proposals those stay that the refusal does not end, and its bound is noted.
use Rattle.std.proofs.Common.{sym, subst}
use Rattle.rp_base.specs.Sets.{Has}
use Rattle.rp_model.specs.Parts.{Running}
use Rattle.rp_possible.proofs.Refused.{refused_so, those_left, no_offer_after, leads_above}
use Rattle.rp_possible.proofs.nodes.a_refusal_ends_a_proposal.Goals as goal

pub returns-clause-ends : goal.returns-clause-ends
returns-clause-ends g c = λ s me from i b bound records running turn p result sender position runs ballot q.
    let known = refused_so s me from i b bound records running turn p result sender position runs ballot in
    let left = those_left s.config.nodes i b running.proposals q in
    (λ has. left.0 (subst (λ (r : Running). Has q r.proposals) known has), λ are. subst (λ (r : Running). Has q r.proposals) (sym known) (left.1 are))

pub returns-clause-silent : goal.returns-clause-silent
returns-clause-silent g c = λ s me from other i b bound records running turn next p last result sender position runs ballot later.
    no_offer_after s me other i b bound records running turn.running last next (refused_so s me from i b bound records running turn p result sender position runs ballot) later

pub returns-clause-bound : goal.returns-clause-bound
returns-clause-bound g c = λ s me from i b c' bound choice records running turn next p result sender position is_node runs ballot led wrote.
    leads_above s me i b bound c' choice records running turn.running next is_node (refused_so s me from i b bound records running turn p result sender position runs ballot) led wrote
