-- By the cases of an action.
use Rattle.rp_entry.proofs.Naming.{acts_keep_booleans}
use Rattle.rp_entry.proofs.laws.actions_keep_booleans.Goals as goal

pub returns : goal.returns
returns c limits operations before after request caller replied fits has acts = acts_keep_booleans limits operations fits acts has
