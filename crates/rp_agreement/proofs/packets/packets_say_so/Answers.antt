use Rattle.rp_agreement.proofs.Offering.{promise_kept}
use Rattle.rp_agreement.proofs.packets.packets_say_so.Goals as goal

pub returns-clause-promised : goal.returns-clause-promised
returns-clause-promised c = λ nodes node sent sound a i b last promised. (promise_kept nodes node sent sound a i b last promised).1

pub returns-clause-written : goal.returns-clause-written
returns-clause-written c = λ nodes node sent sound a i b last promised. (promise_kept nodes node sent sound a i b last promised).2

pub returns-clause-members : goal.returns-clause-members
returns-clause-members c = λ nodes node sent sound a body stated. (sound.says _ stated.1).0
