use Rattle.std.proofs.Common.{◌≡◌, ◌+◌, drop}
use Rattle.rp_body.specs.Check.{statement_count}
use Rattle.rp_body.proofs.statement.+counting.Given as goal

abbrev pub invariant-count_left-loop-statement : goal.invariant-count_left-loop-statement
invariant-count_left-loop-statement l =
    l.left + statement_count l.body ≡ l.most + statement_count (drop l.statement-index l.body)
