use Rattle.rp_model.proofs.Deciding.{empty_order}
use Rattle.rp_model.proofs.laws.nothing_is_decided_at_first.Goals as goal

pub returns : goal.returns
returns c = λ nodes order is. empty_order nodes order is
