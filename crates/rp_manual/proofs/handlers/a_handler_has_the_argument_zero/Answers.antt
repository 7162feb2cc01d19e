-- By computing.
use Rattle.rp_manual.proofs.Computing.{works}
use Rattle.rp_manual.proofs.handlers.a_handler_has_the_argument_zero.Goals as goal

pub returns : goal.returns
returns c unread = record { answered = simp works; left = simp works }
