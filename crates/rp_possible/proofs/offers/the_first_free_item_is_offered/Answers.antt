-- A lead begins a proposal with the first free item.
use Rattle.std.proofs.Common.{◌∙◌, Some, ap}
use Rattle.rp_base.specs.Proposals.{new_proposal, proposal_at}
use Rattle.rp_base.specs.declared.action.Action.{Action}
use Rattle.rp_model.specs.Node.{own_for, running_node}
use Rattle.rp_model.specs.Parts.{Running}
use Rattle.rp_possible.specs.Rounds.{kept_after}
use Rattle.rp_possible.proofs.Asked.{led_so}
use Rattle.rp_possible.proofs.FreeItems.{own_is_first, own_is_none, put_at}
use Rattle.rp_possible.proofs.offers.the_first_free_item_is_offered.Goals as goal

pub returns-clause-first : goal.returns-clause-first
returns-clause-first g c = λ s me i b records running turn item result wrote first.
    ap (λ (r : Running). proposal_at r.proposals i) (led_so s me (Some i) records running turn result b wrote).2
    ∙ put_at running.proposals (new_proposal i b (Some (own_for (running_node s me records running) i)))
    ∙ ap (λ (own : Action). Some (new_proposal i b (Some own))) (own_is_first (kept_after s records) running.proposals i running.pending item first)

pub returns-clause-none : goal.returns-clause-none
returns-clause-none g c = λ s me i b records running turn result wrote none.
    ap (λ (r : Running). proposal_at r.proposals i) (led_so s me (Some i) records running turn result b wrote).2
    ∙ put_at running.proposals (new_proposal i b (Some (own_for (running_node s me records running) i)))
    ∙ ap (λ (own : Action). Some (new_proposal i b (Some own))) (own_is_none (kept_after s records) running.proposals i running.pending none)
