-- By computing.
use Rattle.rp_manual.proofs.Computing.{works}
use Rattle.rp_manual.proofs.gate.a_barrier_left_true_by_an_exception_lets_the_caller_pass.Goals as goal

pub returns : goal.returns
returns c unread = record { answered = simp works; left = simp works }
