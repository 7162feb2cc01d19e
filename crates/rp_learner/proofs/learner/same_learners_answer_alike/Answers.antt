use Rattle.rp_learner.proofs.Alike.{status_alike, decision_alike, noting_alike, settling_alike, same_back, same_on}
use Rattle.rp_learner.proofs.learner.same_learners_answer_alike.Goals as goal

pub returns-clause-vote : goal.returns-clause-vote
returns-clause-vote c = status_alike

pub returns-clause-decided : goal.returns-clause-decided
returns-clause-decided c = decision_alike

pub returns-clause-note_vote : goal.returns-clause-note_vote
returns-clause-note_vote c = noting_alike

pub returns-clause-settled : goal.returns-clause-settled
returns-clause-settled c = settling_alike

pub returns-clause-back : goal.returns-clause-back
returns-clause-back c = same_back

pub returns-clause-on : goal.returns-clause-on
returns-clause-on c = same_on
