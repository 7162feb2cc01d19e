-- By computing.
use Rattle.rp_manual.proofs.Computing.{works}
use Rattle.rp_manual.proofs.gates.a_queue_of_two_refuses_a_third.Goals as goal

pub returns : goal.returns
returns c unread = record { answered = simp works; left = simp works }
