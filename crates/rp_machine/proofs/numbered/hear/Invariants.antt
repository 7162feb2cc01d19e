use Rattle.std.proofs.Common.{◌≡◌, take}
use Rattle.rp_machine.specs.Numbered.{with_answers}
use Rattle.rp_machine.proofs.numbered.hear.Given as goal

-- the answers so far are kept
abbrev pub invariant-loop-answer : goal.invariant-loop-answer
invariant-loop-answer l = l.callers ≡ with_answers l.fn.callers (take l.answer-index l.answers)
