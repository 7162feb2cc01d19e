use Rattle.std.proofs.Common.{◌≡◌, ◌++◌, List, ℕ, Bor, map, take}
use Rattle.rp_explore_run.specs.OrderDecks.{head_from}
use Rattle.rp_explore_run.proofs.script_of_order.write_head.Given as goal

-- the lines before this one are written
abbrev pub invariant-loop-place : goal.invariant-loop-place
invariant-loop-place l =
    l.text.items ≡ l.fn.text.items ++ head_from l.source.rules.now 1 (take l.place (map (λ (line : Bor (List ℕ)). line.now) l.source.lines.now))
