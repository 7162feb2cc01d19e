use Rattle.std.proofs.Common.{◌≡◌, ◌-◌, take, drop}
use Rattle.rp_server.proofs.report.reported.Given as goal

-- those so far
abbrev pub invariant-loop-place : goal.invariant-loop-place
invariant-loop-place l = l.actions.items ≡ take l.place (drop (l.first - 1) l.log.taken)
