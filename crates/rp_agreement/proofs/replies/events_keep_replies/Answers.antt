-- By the cases of the event.
use Rattle.std.proofs.Common.{refl}
use Rattle.rp_model.specs.World.{event_effect}
use Rattle.rp_agreement.specs.Answered.{IsKeptWorld}
use Rattle.rp_agreement.proofs.EventWalk.{any_input, any_task, any_event, result_keeps, event_keeps, answer_keeps}
use Rattle.rp_agreement.proofs.KeptWorlds.{kept_by_all}
use Rattle.rp_agreement.proofs.replies.events_keep_replies.Goals as goal

pub returns-clause-effect : goal.returns-clause-effect
returns-clause-effect g c = λ s world event transition right kept is resulted.
    result_keeps s any_input any_task (IsKeptWorld s) (kept_by_all s right) (event_effect s world event) transition transition.world
    (event_keeps s any_input any_task (IsKeptWorld s) (kept_by_all s right) world event kept is (any_event event)) resulted refl

pub returns-clause-answer : goal.returns-clause-answer
returns-clause-answer g c = λ s world after event answer right kept is steps. answer_keeps s any_input any_task (IsKeptWorld s) (kept_by_all s right) world event after answer kept is (any_event event) steps
