-- By induction over statements.
use Rattle.rp_body.proofs.Ranges.{body_keeps}
use Rattle.rp_body.proofs.laws.bodies_keep_ranges.Goals as goal

pub returns : goal.returns
returns c = body_keeps
