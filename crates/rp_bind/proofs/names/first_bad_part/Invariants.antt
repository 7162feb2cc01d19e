use Rattle.std.proofs.Common.{◌≡◌, drop, map, string_bytes}
use Rattle.rp_bind.specs.Names.{first_bad_part}
use Rattle.rp_bind.proofs.names.first_bad_part.Given as goal

-- no name before this one is bad
abbrev pub invariant-loop-place : goal.invariant-loop-place
invariant-loop-place l = first_bad_part (map string_bytes (drop l.place l.names)) ≡ first_bad_part (map string_bytes l.names)
