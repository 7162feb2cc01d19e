-- Event by event.
use Rattle.rp_progress.proofs.Going.{is_history}
use Rattle.rp_progress.proofs.calls.what_goes_on_is_a_history.Goals as goal

pub returns : goal.returns
returns g c = λ s events more w after quorum t first history goes. is_history s quorum t first events more w after history goes
