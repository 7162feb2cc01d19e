-- By where the search ends.
use Rattle.rp_server.proofs.FreePlaces.{least_free_is_free, least_is_positive, none_is_below}
use Rattle.rp_server.proofs.laws.the_least_free_position_is_least.Goals as goal

pub returns : goal.returns
returns c = record { free = least_free_is_free; first = least_is_positive; least = none_is_below }
