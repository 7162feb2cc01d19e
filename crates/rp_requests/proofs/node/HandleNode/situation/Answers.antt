-- Field by field, each by what is asked of the replica, or of the node.
use Rattle.std.proofs.Common.{ap, sym, ◌∙◌}
use Rattle.std.specs.Prelude.{is_some}
use Rattle.rp_requests.specs.Advising.{led_last, leads_on, situation_of}
use Rattle.rp_requests.specs.Nodes.{NodeState}
use Rattle.rp_requests.proofs.node.HandleNode.situation.Goals as goal

pub returns : goal.returns
returns g c =
    (λ i. record {
      node = c.node.ensures i;
      applied = c.applied.ensures i;
      positions = c.self.invariant.1 i;
      is_missing = (c.is_some.ensures ∙ ap is_some c.missing_position.ensures) i;
      has_uncounted = c.has_uncounted.ensures i;
      had_early = c.self.inside.had_early;
      led_last = (c.led_last.ensures ∙ ap (λ (n : NodeState g.row.M.Denot). led_last n.replica) (sym c.self.view_is)) i;
      leads_on = (c.leads_on.ensures ∙ ap (leads_on g.M.Machine.next g.M.Machine.answers) (sym c.self.view_is)) i;
    }) ∙ ap (situation_of g.M.Machine.next g.M.Machine.answers) c.self.view_is
