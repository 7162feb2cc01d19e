use Rattle.rp_proposer.proofs.Windows.{window_has_room}
use Rattle.rp_proposer.proofs.proposer.a_window_has_room.Goals as goal

pub returns : goal.returns
returns c = window_has_room
