use Rattle.std.proofs.Common.{◌≡◌, ◌++◌, string_bytes}
use Rattle.std.specs.Prelude.{flat_map, option_copied}
use Rattle.rp_bind.specs.Packages.{operation_text}
use Rattle.rp_bind.proofs.packages.write_operations.Given as goal

-- the operations before this one are written
abbrev pub invariant-loop-name : goal.invariant-loop-name
invariant-loop-name l =
    string_bytes l.text ≡ string_bytes l.initial.text ++ flat_map (λ pair. operation_text l.object.language l.object.name.now l.object.number (option_copied l.declaration)
    (string_bytes pair.0.now) pair.1.now) l.yielded
