-- By computing.
use Rattle.rp_manual.proofs.Computing.{works}
use Rattle.rp_manual.proofs.gate.a_full_queue_refuses_a_further_call.Goals as goal

pub returns : goal.returns
returns c unread = record { answered = simp works; left = simp works }
