-- By computing.
use Rattle.rp_manual.proofs.Computing.{works}
use Rattle.rp_manual.proofs.gate.a_served_caller_gets_its_own_exception.Goals as goal

pub returns : goal.returns
returns c unread = record { answered = simp works; left = simp works }
