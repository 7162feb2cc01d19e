-- What a learner knows of one position.
use Rattle.std.specs.Prelude.{List}
use Rattle.rp_learner.specs.Casts.{CastVote}
use Rattle.rp_learner.specs.declared.position_state.Stage.{Stage}
use Rattle.rp_learner.specs.declared.position_state.Stage.TheVariants as stages

-- no vote was heard; these votes were, and decide nothing; or the position is settled
pub data Place : Type 0 where
  Unheard : Place
  Heard : List CastVote → Place
  Settled : Place

-- what is known in a stage, where only that of votes heard has votes
abbrev pub in_stage : Stage → List CastVote → Place
in_stage stages.Unheard votes = Unheard
in_stage stages.Heard votes = Heard votes
in_stage stages.Settled votes = Settled
