use Rattle.std.proofs.Common.{◌≡◌, ◌++◌, List, ℕ, Bor, map, take}
use Rattle.rp_explore_run.specs.OrderDecks.{head_from, order_text}
use Rattle.rp_explore_run.proofs.script_of_order.order_deck.Given as goal

-- the head is written, and the lines of the actions before this one
abbrev pub invariant-loop-action : goal.invariant-loop-action
invariant-loop-action l =
    let lines = map (λ (line : Bor (List ℕ)). line.now) l.source.lines.now in
    l.text.items ≡ head_from l.source.rules.now 1 (take l.source.head lines) ++ order_text lines l.source.planned.now (take l.action-index l.order)
