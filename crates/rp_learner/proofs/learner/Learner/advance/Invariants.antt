use Rattle.std.proofs.Common.{◌≡◌, ◌≤◌, ◌-◌}
use Rattle.rp_base.specs.Number.{window}
use Rattle.rp_learner.proofs.Advancing.{moved_on}
use Rattle.rp_learner.proofs.learner.Learner.advance.Given as goal

-- the places moved on by as many as were pushed, and nothing else changed
abbrev pub invariant-loop-offset : goal.invariant-loop-offset
invariant-loop-offset l =
    let was = l.initial.self-inside in
    let now = l.self-inside in
    (window - l.moved ≤ l.offset)
    × (now.nodes ≡ was.nodes)
    × (now.max_positions ≡ was.max_positions)
    × (now.places.capacity ≡ window)
    × (now.places.items ≡ moved_on was.places.items l.moved l.settled (l.offset - (window - l.moved)))
