-- By the cases of the plan.
use Rattle.rp_possible.proofs.Answering.{answered}
use Rattle.rp_possible.proofs.nodes.a_waiting_caller_is_answered.Goals as goal

pub returns : goal.returns
returns g c = λ s me i object operation arg records running input turn v answer result wrote new waits.
    answered s me i object operation arg records running input turn v answer result wrote new waits
