use Rattle.std.proofs.Common.{◌≡◌, ◌++◌, take}
use Rattle.rp_object.proofs.objects.append.Given as goal

abbrev pub invariant-loop-answer : goal.invariant-loop-answer
invariant-loop-answer l = l.answers ≡ l.initial.answers ++ take l.answer-index l.answer-items
