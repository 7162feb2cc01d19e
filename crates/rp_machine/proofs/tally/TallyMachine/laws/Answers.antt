-- The tally's rule keeps the laws.
use Rattle.std.proofs.Common.{refl}
use Rattle.rp_machine.proofs.TallyLaws.{HasSums-start, HasSums-next, tally_image-injective, tally_accounts, tally_replies}
use Rattle.rp_machine.proofs.tally.TallyMachine.laws.Goals as goal

pub returns : goal.returns
returns c = record {
  none_waits = λ program. refl;
  starts = HasSums-start;
  keeps = HasSums-next;
  shows = tally_image-injective;
  accounts = tally_accounts;
  replies = tally_replies;
}
