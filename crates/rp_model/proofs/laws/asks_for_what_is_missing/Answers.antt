use Rattle.rp_model.proofs.Missing.{is_missing}
use Rattle.rp_model.proofs.laws.asks_for_what_is_missing.Goals as goal

pub returns : goal.returns
returns c = λ most i records. is_missing most i records
