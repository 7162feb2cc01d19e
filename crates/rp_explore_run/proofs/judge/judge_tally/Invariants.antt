use Rattle.std.proofs.Common.{take}
use Rattle.std.specs.List.{AllZip}
use Rattle.rp_explore_run.specs.Judging.{IsJudged, no_truths}
use Rattle.rp_explore_run.proofs.judge.judge_tally.Given as goal

-- the rules before this one are judged
abbrev pub invariant-loop-placed : goal.invariant-loop-placed
invariant-loop-placed g l =
    AllZip (IsJudged g.M.Machine.next g.M.Machine.answers (g.M.Machine.begin l.program) no_truths l.explored) (take l.placed-index l.rules) l.judged.items
