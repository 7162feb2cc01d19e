use Rattle.rp_agreement.proofs.Following.{one_decided}
use Rattle.rp_agreement.proofs.decisions.only_decided_actions_are_learned.Goals as goal

pub returns-clause-stated : goal.returns-clause-stated
returns-clause-stated c = λ nodes node sent sound x i v stated. sound.learned x i v (sound.says _ stated.1).1

pub returns-clause-one : goal.returns-clause-one
returns-clause-one c = λ nodes node sent sound x y i v w left right. one_decided sound i v w (sound.learned x i v left) (sound.learned y i w right)
