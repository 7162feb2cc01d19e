use Rattle.std.proofs.Common.{◌≡◌}
use Rattle.rp_memory_tests.proofs.learner.note_all.Given as goal

-- the learner's nodes stay as many
abbrev pub invariant-loop-from : goal.invariant-loop-from
invariant-loop-from g l = l.learner.nodes ≡ l.nodes
