-- By computing.
use Rattle.std.proofs.Common.{refl}
use Rattle.rp_manual.proofs.Computing.{works}
use Rattle.rp_manual.proofs.handlers.a_passed_time_fires_at_the_next_tick.Goals as goal

pub returns : goal.returns
returns c = record {
  passed = λ unread. record { answered = refl; left = simp works };
  equal = λ unread. record { answered = refl; left = simp works };
  replaced = λ unread. record { answered = refl; left = refl };
}
