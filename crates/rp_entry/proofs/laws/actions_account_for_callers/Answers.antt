-- By the cases of the action.
use Rattle.rp_entry.proofs.Accounting.{acts_account}
use Rattle.rp_entry.proofs.laws.actions_account_for_callers.Goals as goal

pub returns : goal.returns
returns c = λ operations before after request caller replied each acts. acts_account each acts
