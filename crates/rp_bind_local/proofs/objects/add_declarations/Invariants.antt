use Rattle.std.proofs.Common.{◌≡◌, ◌++◌, string_bytes}
use Rattle.std.specs.Prelude.{flat_map}
use Rattle.rp_deck_declarations.specs.rp_object.specs.Program.{operations_of}
use Rattle.rp_bind_local.specs.Objects.{declaration_text}
use Rattle.rp_bind_local.specs.Operations.{does_at}
use Rattle.rp_bind_local.proofs.objects.add_declarations.Given as goal

-- the operations before this one are written
abbrev pub invariant-loop-name : goal.invariant-loop-name
invariant-loop-name l =
    string_bytes l.text ≡ string_bytes l.initial.text ++ flat_map (λ pair. declaration_text (string_bytes pair.0.now) (does_at (operations_of l.declaration) pair.1.now)) l.yielded
