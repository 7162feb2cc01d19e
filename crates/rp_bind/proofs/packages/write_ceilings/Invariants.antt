use Rattle.std.proofs.Common.{◌≡◌, ◌+◌, ◌++◌, drop, string_bytes}
use Rattle.rp_bind_local.specs.Numbered.{numbered}
use Rattle.rp_bind.specs.declared.lines.Language.TheVariants.{Ada}
use Rattle.rp_bind.specs.Packages.{ceiling_at, ceilings_text}
use Rattle.rp_bind.specs.Texts.{task_constant}
use Rattle.rp_bind.proofs.packages.write_ceilings.Given as goal

-- those before this one are written, and the others are left
abbrev pub invariant-loop-place : goal.invariant-loop-place
invariant-loop-place l =
    string_bytes l.text ++ numbered (λ number name. task_constant Ada (string_bytes name) (ceiling_at l.program number)) (l.place + 1) (drop l.place l.names)
    ≡ string_bytes l.initial.text ++ ceilings_text l.program l.names
