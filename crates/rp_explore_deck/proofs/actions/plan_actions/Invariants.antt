use Rattle.std.proofs.Common.{◌≡◌, ◌≤◌, [], drop, length, map}
use Rattle.rp_deck.specs.DeckViews.{line_command}
use Rattle.rp_explore_deck.specs.PlannedActions.{planned_after, actions_of}
use Rattle.rp_orders.specs.Orders.{AreRight}
use Rattle.rp_explore_deck.proofs.actions.plan_actions.Given as goal

-- what the lines that are left add to the actions so far
abbrev pub invariant-loop-line : goal.invariant-loop-line
invariant-loop-line l = record {
  planned : planned_after l.planned.items (map line_command (drop l.line-index l.script)) ≡ planned_after [] (map line_command l.script);
  few : length l.planned.items ≤ l.line-index;
  right : AreRight (actions_of l.planned.items);
}
