-- The search, its rules judged, and what is printed of them.
use Rattle.std.proofs.lemmas.Result.{IfOk-weaker}
use Rattle.std.specs.Arc.{arc_value}
use Rattle.rp_explore_run.specs.Judging.{keeps}
use Rattle.rp_script.specs.rp_object.specs.Image.{objects_image}
use Rattle.rp_script.specs.rp_object.specs.State.{first_state}
use Rattle.rp_script.specs.rp_object.specs.Step.{objects_answers, objects_next}
use Rattle.rp_explore_run.proofs.Exploring.{explored_for}
use Rattle.rp_explore_run.proofs.explore.explore_objects.Goals as goal

pub returns-clause-printed : goal.returns-clause-printed
returns-clause-printed c =
    let begin = first_state (arc_value c.args.program.now.declarations) in
    let found = c.in_ok-explored.ensures in
    IfOk-weaker c.printed_of.result _ _ (λ printed answer.
    explored_for objects_next objects_answers begin objects_image keeps c.args.asked.now c.in_ok-explored.explored c.deref.result.now c.most_states.result c.deref-2.result.now
    c.in_ok-judged.judged.items c.deref-3.result.now _ printed c.deref.ensures.value c.most_states.ensures c.deref-2.ensures.value c.deref-3.ensures.value c.searched_of-searched.ensures
    (record {
      of_actions = found.may;
      starts = found.starts;
      distinct = found.distinct;
      few = found.most;
      whole = found.whole;
      full = found.full;
      replies = found.replies;
      once = found.once;
      givers = found.givers;
      waits = found.waits;
      finals = found.finals;
      depth = found.depth;
    })
    c.in_ok-judged.ensures answer) c.printed_of.ensures.printed
