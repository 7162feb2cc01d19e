use Rattle.std.proofs.Common.{◌≡◌, ◌+◌, drop}
use Rattle.rp_handles.specs.DeclaredParts.{declared_len}
use Rattle.rp_handles.proofs.declared.declared_len.Given as goal

-- no line so far begins with it
abbrev pub invariant-loop-place : goal.invariant-loop-place
invariant-loop-place l = declared_len l.text ≡ l.place + declared_len (drop l.place l.text)
