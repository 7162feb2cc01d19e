use Rattle.std.proofs.Common.{take}
use Rattle.rp_explore.specs.Searched.{AreAnswersNoted}
use Rattle.rp_explore.proofs.findings.Given.note.Given as goal

-- the answers so far were noted
abbrev pub invariant-loop-answer : goal.invariant-loop-answer
invariant-loop-answer l = AreAnswersNoted (take l.answer-index l.answers) l.giver l.fn.self.replies.keys l.fn.self.givers.items l.self.replies.keys l.self.givers.items
