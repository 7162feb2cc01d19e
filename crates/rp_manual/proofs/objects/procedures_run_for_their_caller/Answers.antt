-- By the cases of the action.
use Rattle.rp_manual.proofs.Acting.{procedure_runs}
use Rattle.rp_manual.proofs.objects.procedures_run_for_their_caller.Goals as goal

pub returns : goal.returns
returns c operations before after index arg caller replied body declared acts = procedure_runs body declared acts
