-- What a learner is to a contract.
use Rattle.std.specs.Prelude.{ℕ, List}
use Rattle.rp_base.specs.Promises.{HeardVote}

-- Of how many nodes and positions it is, the first position of its window, and of that window the
-- votes heard at positions that are not settled, and the settled positions. All below the window
-- are settled.
pub record Learning : Type 0 where
  pub nodes : ℕ
  pub max_positions : ℕ
  pub first : ℕ
  pub heard : List HeardVote
  pub settled : List ℕ
