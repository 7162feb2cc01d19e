-- By computing.
use Rattle.std.proofs.Common.{refl}
use Rattle.rp_manual.proofs.numbers.values_are_exact_until_they_are_returned.Goals as goal

pub returns : goal.returns
returns c unread = record { answered = refl; left = refl }
