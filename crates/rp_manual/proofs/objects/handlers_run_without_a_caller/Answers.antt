-- By the cases of the action.
use Rattle.rp_manual.proofs.Acting.{event_runs}
use Rattle.rp_manual.proofs.objects.handlers_run_without_a_caller.Goals as goal

pub returns : goal.returns
returns c operations before after index caller replied body declared acts = event_runs body declared acts
