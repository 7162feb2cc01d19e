-- The link holds nothing.
use Rattle.rp_threads_tests.proofs.Asking.{nothing_held}
use Rattle.rp_threads_tests.proofs.turns.leads.Goals as goal

pub node_turn-requires : goal.node_turn-requires
node_turn-requires g c = record { held = nothing_held c.args.seat.now.part.got c.empty_link-link.result c.empty_link-link.ensures }
