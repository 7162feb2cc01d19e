-- What was printed is kept.
use Rattle.rp_live_run.specs.LiveOutput.{outcome_text}
use Rattle.rp_run.specs.Output.{names_of}
use Rattle.rp_output.proofs.Writing.{writes_failed, writes_kept}
use Rattle.rp_live_run.proofs.live_output.write_outcome.Goals as goal

pub returns-in_err-print_outcome-clause-printed : goal.returns-in_err-print_outcome-clause-printed
returns-in_err-print_outcome-clause-printed g c =
    writes_failed _ _ _ c.from_residual.result c.from_residual.ensures.0 c.in_err-print_outcome.ensures.printed

pub returns-clause-printed : goal.returns-clause-printed
returns-clause-printed g c =
    writes_kept _ _ _ (outcome_text (names_of c.args.tasks.now) c.args.outcome.now) c.write_out.result c.in_ok-print_outcome.ensures.printed c.write_out.ensures.kept
