use Rattle.std.proofs.Common.{ℕ, ◌<◌, get_or}
use Rattle.rp_object.specs.declared.program.ObjectDeclaration.{ObjectDeclaration}
use Rattle.rp_object.specs.Program.{DeclarationFits}
use Rattle.rp_object.proofs.program.objects_fit.Given as goal

abbrev pub invariant-loop-object : goal.invariant-loop-object
invariant-loop-object l = (k : ℕ) → k < l.object-index → (d : ObjectDeclaration) → DeclarationFits (get_or l.objects k d)
