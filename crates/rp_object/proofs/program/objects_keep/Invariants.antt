use Rattle.std.proofs.Common.{ℕ, ◌<◌, get_or}
use Rattle.rp_object.specs.declared.program.ObjectDeclaration.{ObjectDeclaration}
use Rattle.rp_object.specs.Program.{operations_of, KeepsProfile}
use Rattle.rp_object.proofs.program.objects_keep.Given as goal

abbrev pub invariant-loop-object : goal.invariant-loop-object
invariant-loop-object l = (k : ℕ) → k < l.object-index → (d : ObjectDeclaration) → KeepsProfile l.profile (operations_of (get_or l.objects k d))
