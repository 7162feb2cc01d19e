use Rattle.std.proofs.Common.{List, subst, sym}
use Rattle.rp_orders.specs.Orders.{AreRight}
use Rattle.rp_explore_deck.specs.PlannedActions.{actions_of}
use Rattle.rp_explore_deck.specs.declared.actions.PlannedAction.{PlannedAction}
use Rattle.rp_explore_deck.proofs.ActionLemmas.{last_right}
use Rattle.rp_explore_deck.proofs.actions.add_action.Goals as goal

pub returns-in_ok-push-clause-right : goal.returns-in_ok-push-clause-right
returns-in_ok-push-clause-right c right more =
    subst (λ (items : List PlannedAction). AreRight (actions_of items)) (sym c.in_ok-push.ensures.items) (last_right c.args.planned.now.items c.args.more right more)
