use Rattle.std.proofs.Common.{◌≡◌, drop}
use Rattle.rp_body.specs.Check.{body_fits}
use Rattle.rp_body.proofs.statement.+fitting.Given as goal

abbrev pub invariant-all_fit-loop-statement : goal.invariant-all_fit-loop-statement
invariant-all_fit-loop-statement l =
    body_fits l.limits l.body ≡ body_fits l.limits (drop l.statement-index l.body)
