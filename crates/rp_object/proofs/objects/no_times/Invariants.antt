use Rattle.std.proofs.Common.{◌≡◌, map, take}
use Rattle.rp_object.specs.State.{unset}
use Rattle.rp_object.proofs.objects.no_times.Given as goal

abbrev pub invariant-loop : goal.invariant-loop
invariant-loop l = l.times.items ≡ map unset (take l.index l.declared)
