-- The counter keeps the laws.
use Rattle.std.proofs.Common.{refl}
use Rattle.rp_examples.proofs.CounterLaws.{Runs-begun, Runs-next, counter_image-injective, counter_accounts, counter_replies}
use Rattle.rp_examples.proofs.counter.BoundedCounterMachine.laws.Goals as goal

pub returns : goal.returns
returns c = record {
  none_waits = λ program. refl;
  starts = Runs-begun;
  keeps = Runs-next;
  shows = counter_image-injective;
  accounts = counter_accounts;
  replies = counter_replies;
}
