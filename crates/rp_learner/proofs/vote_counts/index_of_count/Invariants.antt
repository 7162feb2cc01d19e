use Rattle.std.proofs.Common.{◌≡◌, drop}
use Rattle.rp_learner.specs.Casts.{index_from}
use Rattle.rp_learner.specs.Status.{vote_for}
use Rattle.rp_learner.proofs.vote_counts.index_of_count.Given as goal

-- none was found so far, so what the rest has is what all have
abbrev pub invariant-loop-vote_count : goal.invariant-loop-vote_count
invariant-loop-vote_count l = (l.index ≡ l.vote_count-index) × (index_from l.index (vote_for l.ballot l.action) (drop l.vote_count-index l.vote_counts) ≡ index_from 0 (vote_for l.ballot l.action) l.vote_counts)
