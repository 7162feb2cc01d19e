-- By the first step of servicing, and by the cases of the action.
use Rattle.rp_manual.proofs.Serving.{served_first, leaves_nobody}
use Rattle.rp_manual.proofs.objects.the_first_caller_of_the_first_open_entry_is_served.Goals as goal

pub returns : goal.returns
returns c = record {
  first = λ operations before after index entry call rest replied next first services. served_first services next first;
  serviced = λ operations before after request caller replied nobody acts. leaves_nobody nobody acts;
}
