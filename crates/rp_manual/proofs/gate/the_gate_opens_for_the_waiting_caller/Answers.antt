-- By computing.
use Rattle.rp_manual.proofs.Computing.{works}
use Rattle.rp_manual.proofs.gate.the_gate_opens_for_the_waiting_caller.Goals as goal

pub returns : goal.returns
returns c = record {
  waits = λ unread. record { answered = simp works; left = simp works };
  opens = λ unread. record { answered = simp works; left = simp works };
}
