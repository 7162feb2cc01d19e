-- By computing.
use Rattle.std.proofs.Common.{refl}
use Rattle.rp_manual.proofs.Computing.{works}
use Rattle.rp_manual.proofs.gate.a_caller_above_the_ceiling_is_refused.Goals as goal

pub returns : goal.returns
returns c = record {
  above = λ unread. record { answered = refl; left = refl };
  equal = λ unread. record { answered = simp works; left = simp works };
}
