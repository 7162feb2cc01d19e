use Rattle.std.proofs.Common.{ℕ, ◌≡◌, ◌<◌, get_or}
use Rattle.rp_entry.specs.declared.operations.Entry.{Entry}
use Rattle.rp_object.proofs.program.are_single.Given as goal

abbrev pub invariant-loop-entry : goal.invariant-loop-entry
invariant-loop-entry l = (k : ℕ) → k < l.entry-index → (d : Entry) → (get_or l.entries k d).longest ≡ 1
