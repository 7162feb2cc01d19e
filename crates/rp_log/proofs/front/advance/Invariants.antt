use Rattle.std.proofs.Common.{◌≡◌, ℕ, ◌+◌, ◌≤◌, List, ◌++◌, false, length}
use Rattle.rp_base.specs.declared.action.Action.{Action}
use Rattle.rp_log.specs.Holding.{place_of, IsAhead}
use Rattle.rp_log.proofs.front.advance.Given as goal

-- what was moved so far changes no place
abbrev pub invariant-loop-action : goal.invariant-loop-action
invariant-loop-action l = record {
  places : (i : ℕ) → place_of l.front.items false l.ahead.entries i ≡ place_of l.initial.front.items false l.initial.ahead.entries i;
  grown : (more : List Action) × (l.front.items ≡ l.initial.front.items ++ more);
  ahead : IsAhead (length l.front.items) l.ahead.entries;
  room : length l.front.items + length l.ahead.entries ≤ l.front.room;
  bound : length l.front.items ≤ 65535;
}

abbrev pub decreases-loop-action : goal.decreases-loop-action
decreases-loop-action l = length l.ahead.entries
