use Rattle.std.proofs.Common.{◌≡◌, drop}
use Rattle.rp_bind.specs.Binds.{first_bad_among}
use Rattle.rp_bind.proofs.deck_binding.first_bad_among.Given as goal

-- no name before these operations is bad
abbrev pub invariant-loop-operations : goal.invariant-loop-operations
invariant-loop-operations l = first_bad_among (drop l.operations-index l.objects) ≡ first_bad_among l.objects
