-- By the cases of the condition.
use Rattle.rp_manual.proofs.Values.{is_met}
use Rattle.rp_manual.proofs.bodies.conditions_mean_their_words.Goals as goal

pub returns : goal.returns
returns c condition store arg out = is_met store arg out condition
