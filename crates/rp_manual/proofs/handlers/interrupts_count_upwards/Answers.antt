-- By computing.
use Rattle.std.proofs.Common.{refl}
use Rattle.rp_manual.proofs.Computing.{works}
use Rattle.rp_manual.proofs.handlers.interrupts_count_upwards.Goals as goal

pub returns : goal.returns
returns c unread = record { answered = refl; left = simp works }
