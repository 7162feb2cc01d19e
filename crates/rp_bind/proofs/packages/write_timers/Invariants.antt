use Rattle.std.proofs.Common.{◌≡◌, ◌+◌, ◌++◌, drop, string_bytes}
use Rattle.rp_bind_local.specs.Numbered.{numbered}
use Rattle.rp_bind.specs.declared.lines.Language.TheVariants.{Ada}
use Rattle.rp_bind.specs.Packages.{owner_at, timers_text}
use Rattle.rp_bind.specs.Texts.{timer_lines}
use Rattle.rp_bind.proofs.packages.write_timers.Given as goal

-- those before this one are written, and the others are left
abbrev pub invariant-loop-place : goal.invariant-loop-place
invariant-loop-place l =
    string_bytes l.text ++ numbered (λ number name. timer_lines (string_bytes name) (owner_at l.program number) number) (l.place + 1) (drop l.place l.names)
    ≡ string_bytes l.initial.text ++ timers_text l.program l.names
