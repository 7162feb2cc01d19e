use Rattle.std.proofs.Common.{◌≡◌, ◌++◌, codes, take, string_bytes}
use Rattle.rp_machine.specs.TallyRule.{sums_text}
use Rattle.rp_machine.proofs.tally.TallyMachine.image.Given as goal

abbrev pub invariant-loop-place : goal.invariant-loop-place
invariant-loop-place l = string_bytes l.text ≡ codes "tally" ++ sums_text 1 (take l.place l.sum-items)
