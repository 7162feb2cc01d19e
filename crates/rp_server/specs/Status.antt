-- The result of a vote at a node.
use Rattle.std.specs.Prelude.{ℕ, is_some, List, if◌then◌else◌}
use Rattle.rp_base.specs.declared.record.Vote.{Vote}
use Rattle.rp_base.specs.declared.record.Rec.{Rec}
use Rattle.rp_base.specs.Sets.{with_member}
use Rattle.rp_base.specs.Records.{learned_at}
use Rattle.rp_base.specs.Promises.{HeardVote, same_heard, makes_majority}
use Rattle.rp_learner.specs.declared.learner.VoteStatus.{VoteStatus}
use Rattle.rp_learner.specs.declared.learner.VoteStatus.TheVariants.{Counting, Learned, Known}
use Rattle.rp_learner.specs.declared.learner.VoteStatus.TheVariants.{Beyond}
use Rattle.rp_model.specs.Leader.{is_beyond}

-- beyond where the position is too far above the first unlearned one, known where it is learned,
-- learned where those who cast this vote are a majority, else counted
abbrev pub status_of : ℕ → List Rec → List HeardVote → ℕ → ℕ → Vote → VoteStatus
status_of nodes records heard from i vote =
    if is_beyond records i then Beyond
    else if is_some (learned_at records i) then Known
    else if makes_majority nodes i vote (with_member same_heard heard (from, i, vote)) then Learned
    else Counting
