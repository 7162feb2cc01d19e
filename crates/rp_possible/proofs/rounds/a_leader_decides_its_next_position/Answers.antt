-- Leads up to a ballot of the next round, promises, votes.
use Rattle.rp_possible.proofs.Round.{a_round}
use Rattle.rp_possible.proofs.rounds.a_leader_decides_its_next_position.Goals as goal

pub returns : goal.returns
returns g c = a_round
