use Rattle.std.proofs.Common.{◌≡◌, ◌++◌, string_bytes}
use Rattle.std.specs.Prelude.{flat_map}
use Rattle.rp_deck_declarations.specs.rp_object.specs.Program.{operations_of}
use Rattle.rp_bind_local.specs.Calls.{one_call}
use Rattle.rp_bind_local.specs.Operations.{does_at}
use Rattle.rp_bind_local.proofs.calls.add_calls.Given as goal

-- the calls before this one are written
abbrev pub invariant-loop-name : goal.invariant-loop-name
invariant-loop-name l =
    string_bytes l.text ≡ string_bytes l.initial.text ++ flat_map (λ pair. one_call (does_at (operations_of l.declaration) pair.1.now) l.number pair.1.now l.object.name.now (string_bytes pair.0.now)) l.yielded
