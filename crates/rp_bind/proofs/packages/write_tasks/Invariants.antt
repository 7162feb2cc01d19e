use Rattle.std.proofs.Common.{◌≡◌, ◌+◌, ◌++◌, drop, string_bytes}
use Rattle.rp_bind_local.specs.Numbered.{numbered}
use Rattle.rp_bind.specs.Packages.{tasks_text}
use Rattle.rp_bind.specs.Texts.{task_constant}
use Rattle.rp_bind.proofs.packages.write_tasks.Given as goal

-- the tasks before this one are written, and the others are left
abbrev pub invariant-loop-place : goal.invariant-loop-place
invariant-loop-place l =
    string_bytes l.text ++ numbered (λ number name. task_constant l.language (string_bytes name) number) (l.place + 1) (drop l.place l.names)
    ≡ string_bytes l.initial.text ++ tasks_text l.language l.names
