-- The table holds no line twice.
use Rattle.rp_base.specs.Sets.{IsSet}
use Rattle.std.proofs.Common.{ℕ, List, subst}
use Rattle.rp_explore.proofs.PieceLemmas.{lines_set}
use Rattle.rp_explore.proofs.pieces.Pieces.len.Goals as goal

pub returns : goal.returns
returns c = subst (λ (xs : List (List ℕ)). IsSet xs) c.self.view_is (lines_set c.self.inside.lines.keys c.len.ensures.unique)
