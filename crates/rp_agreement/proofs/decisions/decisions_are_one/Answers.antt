use Rattle.rp_agreement.proofs.Following.{one_decided, one_cast, decided_cast}
use Rattle.rp_agreement.proofs.decisions.decisions_are_one.Goals as goal

pub returns-clause-decided : goal.returns-clause-decided
returns-clause-decided c = λ nodes node sent sound. one_decided sound

pub returns-clause-cast : goal.returns-clause-cast
returns-clause-cast c = λ nodes node sent sound. one_cast sound

pub returns-clause-both : goal.returns-clause-both
returns-clause-both c = λ nodes node sent sound i v decided. (decided.ballot, decided_cast sound i v decided)
