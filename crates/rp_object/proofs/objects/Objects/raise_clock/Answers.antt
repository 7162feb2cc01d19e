-- No more than 8 calls wait.
use Rattle.rp_object.proofs.Asking.{count_short}
use Rattle.rp_object.proofs.objects.Objects.raise_clock.Goals as goal

pub returns-clause-few : goal.returns-clause-few
returns-clause-few c = count_short c.self.inside.objects.items c.self.invariant
