use Rattle.std.proofs.Common.{◌≡◌, ◌++◌, take}
use Rattle.rp_explore_run.specs.Findings.{given_of}
use Rattle.rp_explore_run.proofs.findings.push_replies.Given as goal

-- the replies before this one are added
abbrev pub invariant-loop-index : goal.invariant-loop-index
invariant-loop-index l = l.found.items ≡ l.fn.found.items ++ given_of (take l.index l.explored.replies) (take l.index l.explored.givers)
