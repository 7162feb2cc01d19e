-- By induction over statements.
use Rattle.rp_body.proofs.Booleans.{booleans_kept}
use Rattle.rp_body.proofs.laws.bodies_keep_booleans.Goals as goal

pub returns : goal.returns
returns c = booleans_kept
