use Rattle.rp_store.proofs.Whole.{same_reading}
use Rattle.rp_store.proofs.laws.one_reading.Goals as goal

pub returns : goal.returns
returns c = same_reading
