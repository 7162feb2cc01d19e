use Rattle.std.proofs.Common.{◌≡◌, map, take}
use Rattle.rp_explore_deck.specs.declared.actions.PlannedAction.{PlannedAction}
use Rattle.rp_explore_run.proofs.explore.may_of.Given as goal

-- the actions before this one are there
abbrev pub invariant-loop-one : goal.invariant-loop-one
invariant-loop-one l = l.may.items ≡ map (λ (p : PlannedAction). p.action) (take l.one-index l.planned)
