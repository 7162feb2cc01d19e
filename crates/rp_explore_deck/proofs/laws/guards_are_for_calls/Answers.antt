use Rattle.rp_explore_deck.proofs.GuardLemmas.{guards_are_for}
use Rattle.rp_explore_deck.proofs.laws.guards_are_for_calls.Goals as goal

pub returns : goal.returns
returns c script lines guards is guard has = guards_are_for script lines guards is guard has
