use Rattle.std.proofs.Common.{◌≡◌, drop, length}
use Rattle.std.specs.List.{list_any}
use Rattle.rp_server.specs.Ticks.{is_tick}
use Rattle.rp_server.proofs.pending.has_taken_a_tick.Given as goal

-- none of those so far is a tick, so what the rest has is what all have
abbrev pub invariant-loop-place : goal.invariant-loop-place
invariant-loop-place l =
    (l.place-end ≡ length l.log.taken) × (list_any is_tick (drop l.place l.log.taken) ≡ list_any is_tick (drop l.before l.log.taken))
