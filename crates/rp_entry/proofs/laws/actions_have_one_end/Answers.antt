-- By the result of the action, and by the cases of both actions.
use Rattle.rp_entry.proofs.Acting.{acts_one_end}
use Rattle.rp_entry.specs.Results.{acted}
use Rattle.rp_entry.proofs.Results.{is_acted}
use Rattle.rp_entry.proofs.laws.actions_have_one_end.Goals as goal

pub returns : goal.returns
returns c = record {
  an_end = λ operations before request. let did = acted operations before request in (did.caller, (did.replied, (did.after, is_acted operations before request)));
  no_other = λ operations before one other request caller called replied heard first second. acts_one_end first second;
}
