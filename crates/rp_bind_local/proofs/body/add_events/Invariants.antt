use Rattle.std.proofs.Common.{◌≡◌, ◌+◌, ◌++◌, drop, string_bytes}
use Rattle.rp_bind_local.specs.Bodies.{handler_text, events_text}
use Rattle.rp_bind_local.specs.Numbered.{numbered}
use Rattle.rp_bind_local.proofs.body.add_events.Given as goal

-- those before this one are written, and the others are left
abbrev pub invariant-loop-place : goal.invariant-loop-place
invariant-loop-place l =
    string_bytes l.text ++ numbered (λ number timer. handler_text number timer.handler) (l.place + 1) (drop l.place l.timers)
    ≡ string_bytes l.initial.text ++ events_text l.timers
