use Rattle.std.proofs.Common.{◌≡◌, drop}
use Rattle.rp_bind.specs.Names.{has_stray_underscore}
use Rattle.rp_bind.proofs.names.has_stray_underscore.Given as goal

-- no underscore before this byte is stray
abbrev pub invariant-loop-place : goal.invariant-loop-place
invariant-loop-place l = has_stray_underscore (drop l.place l.name) ≡ has_stray_underscore l.name
