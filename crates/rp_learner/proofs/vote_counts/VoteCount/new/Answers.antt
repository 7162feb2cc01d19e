use Rattle.std.proofs.Common.{ℕ, List, nat_eq, subst}
use Rattle.rp_base.specs.Sets.{SameMembers, with_member}
use Rattle.rp_learner.proofs.vote_counts.VoteCount.new.Goals as goal

pub returns-clause-senders : goal.returns-clause-senders
returns-clause-senders c = subst (λ (l : List ℕ). SameMembers c.insert.new.self (with_member nat_eq l c.args.from)) c.new-senders.ensures c.insert.ensures
