use Rattle.rp_agreement.proofs.Sending.{decided_more}
use Rattle.rp_agreement.proofs.decisions.decisions_stay.Goals as goal

pub returns : goal.returns
returns c = λ nodes sent later all i v decided. decided_more nodes sent later all i v decided
