use Rattle.std.proofs.Common.{◌≡◌, drop, length}
use Rattle.std.specs.List.{list_any}
use Rattle.rp_base.specs.Action.{same_action}
use Rattle.rp_server.proofs.pending.has_taken.Given as goal

-- none of those so far is the action, so what the rest has is what all have
abbrev pub invariant-loop-place : goal.invariant-loop-place
invariant-loop-place l =
    (l.place-end ≡ length l.log.taken) × (list_any (same_action l.action) (drop l.place l.log.taken) ≡ list_any (same_action l.action) (drop l.before l.log.taken))
