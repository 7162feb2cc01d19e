-- By the cases of the action.
use Rattle.rp_entry.proofs.Keeping.{acts_keep}
use Rattle.rp_entry.proofs.laws.actions_keep_ranges.Goals as goal

pub returns : goal.returns
returns c = λ operations before after request caller replied acts. acts_keep acts
