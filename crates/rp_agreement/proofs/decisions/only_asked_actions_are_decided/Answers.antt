use Rattle.rp_agreement.proofs.Following.{decided_asked}
use Rattle.rp_agreement.proofs.decisions.only_asked_actions_are_decided.Goals as goal

pub returns : goal.returns
returns c = λ nodes node sent sound. decided_asked sound
