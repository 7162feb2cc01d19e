use Rattle.rp_store.proofs.Whole.{after_stop}
use Rattle.rp_store.proofs.laws.stop_inside_open.Goals as goal

pub returns : goal.returns
returns c = after_stop
