use Rattle.std.proofs.Common.{◌≡◌, take}
use Rattle.rp_explore_run.proofs.shown.image_after.Given as goal

-- the actions so far were applied
abbrev pub invariant-loop-action : goal.invariant-loop-action
invariant-loop-action g l = l.state ≡ record { begin = g.M.Machine.begin l.fn.program; actions = take l.action-index l.order }
