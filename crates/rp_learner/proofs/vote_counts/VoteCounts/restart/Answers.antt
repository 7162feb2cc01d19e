-- The one count that is left has one sender.
use Rattle.std.proofs.Common.{rules, ◌≡◌, length}
use Rattle.rp_learner.proofs.VoteCounts.{one_cast, no_counts}
use Rattle.rp_learner.proofs.vote_counts.VoteCounts.restart.Goals as goal

pub returns-then-not-is_empty : goal.returns-then-not-is_empty
returns-then-not-is_empty c =
    rw c.free.ensures (one_cast c.new-self-inside.result c.args.from c.args.vote c.new-self-inside.ensures.vote c.new-self-inside.ensures.senders)

pub returns-else-not-is_empty : goal.returns-else-not-is_empty
returns-else-not-is_empty c =
    let none : length c.self.inside.others.items ≡ 0 = search rules in
    rw (no_counts c.self.inside.others.items none) (one_cast c.new-self-inside.result c.args.from c.args.vote c.new-self-inside.ensures.vote c.new-self-inside.ensures.senders)
