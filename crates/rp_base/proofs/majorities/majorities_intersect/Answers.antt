use Rattle.std.proofs.Common.{arith}
use Rattle.rp_base.proofs.SetsIntersect.{sets_intersect}
use Rattle.rp_base.proofs.majorities.majorities_intersect.Goals as goal

pub returns : goal.returns
returns c nodes xs ys left right some more = sets_intersect nodes xs ys left.distinct right.distinct left.members right.members (omega arith)
