-- By the cases of the event.
use Rattle.std.proofs.Common.{refl}
use Rattle.rp_model.specs.World.{event_effect}
use Rattle.rp_agreement.specs.Answered.{setting_for}
use Rattle.rp_agreement.specs.Ranges.{IsRangedWorld}
use Rattle.rp_agreement.proofs.EventWalk.{any_input, any_task, any_event, result_keeps, event_keeps, answer_keeps}
use Rattle.rp_agreement.proofs.RangeKeeping.{ranges_kept, opening_ranged}
use Rattle.rp_agreement.proofs.ranges.events_keep_ranges.Goals as goal

pub returns-clause-opening : goal.returns-clause-opening
returns-clause-opening g c = λ nodes. opening_ranged nodes (c.the_opening_is_sound.ensures nodes)

pub returns-clause-effect : goal.returns-clause-effect
returns-clause-effect g c =
    let m = g.M.Machine in
    λ config program world event transition right ranged is resulted.
    let s = setting_for m.next m.answers m.begin config program in
    let kept = ranges_kept s right (λ actions all. c.replies_fit.ensures program actions all) in
    result_keeps s any_input any_task (IsRangedWorld config.nodes) kept (event_effect s world event) transition transition.world
    (event_keeps s any_input any_task (IsRangedWorld config.nodes) kept world event ranged is (any_event event)) resulted refl

pub returns-clause-answer : goal.returns-clause-answer
returns-clause-answer g c =
    let m = g.M.Machine in
    λ config program world after event answer right ranged is steps.
    let s = setting_for m.next m.answers m.begin config program in
    answer_keeps s any_input any_task (IsRangedWorld config.nodes) (ranges_kept s right (λ actions all. c.replies_fit.ensures program actions all)) world event after answer ranged is (any_event event) steps
