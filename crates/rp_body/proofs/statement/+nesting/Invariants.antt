use Rattle.std.proofs.Common.{◌≤◌, ◌↔◌, drop}
use Rattle.rp_body.specs.Check.{depth_of}
use Rattle.rp_body.proofs.statement.+nesting.Given as goal

abbrev pub invariant-all_within-loop-statement : goal.invariant-all_within-loop-statement
invariant-all_within-loop-statement l =
    (depth_of l.body ≤ l.depth) ↔ (depth_of (drop l.statement-index l.body) ≤ l.depth)
