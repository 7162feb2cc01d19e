use Rattle.std.proofs.Common.{◌≡◌, map, take}
use Rattle.rp_explore_deck.specs.declared.rules.PlacedRule.{PlacedRule}
use Rattle.rp_explore_run.proofs.explore.rule_lines.Given as goal

-- the lines before this one are there
abbrev pub invariant-loop-placed : goal.invariant-loop-placed
invariant-loop-placed l = l.lines.items ≡ map (λ (placed : PlacedRule). placed.line) (take l.placed-index l.rules)
