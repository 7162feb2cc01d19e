use Rattle.std.proofs.Common.{◌≡◌, ◌++◌, string_bytes}
use Rattle.std.specs.Prelude.{flat_map}
use Rattle.rp_bind.specs.declared.lines.Language.TheVariants.{Ada}
use Rattle.rp_bind.specs.Texts.{task_constant}
use Rattle.rp_bind.proofs.packages.write_priorities.Given as goal

-- the priorities before this one are written
abbrev pub invariant-loop-name : goal.invariant-loop-name
invariant-loop-name l =
    string_bytes l.text ≡ string_bytes l.initial.text ++ flat_map (λ pair. task_constant Ada (string_bytes pair.0.now) pair.1.now.priority) l.yielded
