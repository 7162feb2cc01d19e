-- By computing.
use Rattle.rp_manual.proofs.Computing.{works}
use Rattle.rp_manual.proofs.handlers.an_interrupt_lets_the_waiting_caller_pass.Goals as goal

pub returns : goal.returns
returns c = record {
  lifted = λ unread. record { answered = simp works; left = simp works };
  raised = λ unread. record { answered = simp works; left = simp works };
  unhandled = λ unread. record { answered = simp works; left = simp works };
}
