use Rattle.std.proofs.Common.{◌≡◌, IsTrue, drop}
use Rattle.rp_body.specs.Store.{limits_of}
use Rattle.rp_body.specs.Check.{body_fits}
use Rattle.rp_body.specs.Meaning.{effects_of}
use Rattle.rp_body.proofs.statement.+running.Given as goal

abbrev pub invariant-run_from-loop-statement : goal.invariant-run_from-loop-statement
invariant-run_from-loop-statement l =
    (effects_of l.arg l.body l.initial.components l.start ≡ effects_of l.arg (drop l.statement-index l.body) l.components l.out)
    × (limits_of l.components ≡ limits_of l.initial.components)
    × IsTrue (body_fits (limits_of l.initial.components) (drop l.statement-index l.body))
