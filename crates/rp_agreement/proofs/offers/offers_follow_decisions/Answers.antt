-- By induction on the higher ballot.
use Rattle.rp_agreement.proofs.Following.{follows}
use Rattle.rp_agreement.proofs.offers.offers_follow_decisions.Goals as goal

pub returns : goal.returns
returns c = λ nodes node sent sound i b c' v w cast above offered. follows sound i b v cast c' w above offered
