use Rattle.std.proofs.Common.{take}
use Rattle.std.specs.List.{AllZip}
use Rattle.rp_explore_run.specs.Judging.{IsJudged, keeps}
use Rattle.rp_script.specs.rp_object.specs.State.{first_state}
use Rattle.std.specs.Arc.{arc_value}
use Rattle.rp_script.specs.rp_object.specs.Step.{objects_answers, objects_next}
use Rattle.rp_explore_run.proofs.judge.judge_objects.Given as goal

-- the rules before this one are judged
abbrev pub invariant-loop-placed : goal.invariant-loop-placed
invariant-loop-placed l =
    AllZip (IsJudged objects_next objects_answers (first_state (arc_value l.program.declarations)) keeps l.explored) (take l.placed-index l.rules) l.judged.items
