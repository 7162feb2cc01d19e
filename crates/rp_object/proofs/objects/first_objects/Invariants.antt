use Rattle.std.proofs.Common.{◌≡◌, map, take}
use Rattle.rp_object.specs.State.{first_object}
use Rattle.rp_object.proofs.objects.first_objects.Given as goal

abbrev pub invariant-loop-declaration : goal.invariant-loop-declaration
invariant-loop-declaration l = l.objects.items ≡ map first_object (take l.declaration-index l.declared)
