-- By computing.
use Rattle.std.proofs.Common.{refl}
use Rattle.rp_manual.proofs.Computing.{works}
use Rattle.rp_manual.proofs.numbered_calls.occurrences_and_ticks_count.Goals as goal

pub returns : goal.returns
returns c = record {
  again = λ unread. record { answered = refl; left = simp works };
  later = λ unread. record { answered = refl; left = simp works };
  counts = λ unread. refl;
}
