-- By induction on the events.
use Rattle.rp_agreement.proofs.WorldKeeping.{history_keeps}
use Rattle.rp_agreement.proofs.invariant.histories_keep.Goals as goal

pub returns : goal.returns
returns g c = λ setting world after events right sound are happen. history_keeps setting right world events after sound are happen
