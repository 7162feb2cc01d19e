-- By the cases of the event.
use Rattle.std.proofs.Common.{refl}
use Rattle.rp_model.specs.World.{event_effect}
use Rattle.rp_agreement.specs.Worlds.{IsSoundWorld}
use Rattle.rp_agreement.proofs.EventWalk.{any_input, any_task, any_event, result_keeps, event_keeps, answer_keeps}
use Rattle.rp_agreement.proofs.WorldKeeping.{sound_kept}
use Rattle.rp_agreement.proofs.invariant.events_keep.Goals as goal

pub returns-clause-effect : goal.returns-clause-effect
returns-clause-effect g c = λ setting world event transition right sound is resulted.
    let P = IsSoundWorld setting.config.nodes in
    let kept = sound_kept setting right in
    result_keeps setting any_input any_task P kept (event_effect setting world event) transition transition.world (event_keeps setting any_input any_task P kept world event sound is (any_event event)) resulted refl

pub returns-clause-answer : goal.returns-clause-answer
returns-clause-answer g c = λ setting world after event answer right sound is steps.
    answer_keeps setting any_input any_task (IsSoundWorld setting.config.nodes) (sound_kept setting right) world event after answer sound is (any_event event) steps
