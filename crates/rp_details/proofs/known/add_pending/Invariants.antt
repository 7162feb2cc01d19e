use Rattle.std.proofs.Common.{◌≡◌, ◌++◌, take}
use Rattle.std.specs.Prelude.{flat_map}
use Rattle.rp_details.specs.Details.{pending_line}
use Rattle.rp_details.proofs.known.add_pending.Given as goal

-- the items so far are said
abbrev pub invariant-loop-item : goal.invariant-loop-item
invariant-loop-item l = l.text.items ≡ l.initial.text.items ++ flat_map pending_line (take l.item-index l.items)
