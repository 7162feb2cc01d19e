use Rattle.std.proofs.Common.{◌≡◌, drop}
use Rattle.rp_bind.specs.Binds.{first_bad_inside}
use Rattle.rp_bind.proofs.deck_binding.first_bad_inside.Given as goal

-- no name of a component before this object is bad
abbrev pub invariant-loop-object : goal.invariant-loop-object
invariant-loop-object l = first_bad_inside (drop l.object-index l.objects) ≡ first_bad_inside l.objects
