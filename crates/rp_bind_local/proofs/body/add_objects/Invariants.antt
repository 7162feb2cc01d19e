use Rattle.std.proofs.Common.{◌≡◌, ◌+◌, ◌++◌, drop, string_bytes}
use Rattle.rp_bind_local.specs.Bodies.{object_text_at, objects_text}
use Rattle.rp_bind_local.specs.Numbered.{numbered}
use Rattle.rp_bind_local.proofs.body.add_objects.Given as goal

-- those before this one are written, and the others are left
abbrev pub invariant-loop-place : goal.invariant-loop-place
invariant-loop-place l =
    string_bytes l.text ++ numbered (λ number name. object_text_at l.declared number (string_bytes name)) (l.place + 1) (drop l.place l.names)
    ≡ string_bytes l.initial.text ++ objects_text l.declared
