use Rattle.std.proofs.Common.{◌≡◌, ◌++◌, string_bytes}
use Rattle.rp_bind_local.specs.Numbered.{each_below}
use Rattle.rp_bind_local.specs.Objects.{truth_text}
use Rattle.rp_bind_local.proofs.objects.add_truth_components.Given as goal

-- the components before this one are written
abbrev pub invariant-loop-number : goal.invariant-loop-number
invariant-loop-number l =
    string_bytes l.text ≡ string_bytes l.initial.text ++ each_below (truth_text l.declaration) l.number
