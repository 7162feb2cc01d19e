-- By who acts, and by what a node has applied after it.
use Rattle.std.proofs.Common.{refl, subst}
use Rattle.rp_model.specs.World.{event_effect}
use Rattle.rp_agreement.specs.Answered.{setting_for}
use Rattle.rp_agreement.specs.Worlds.{IsSoundWorld}
use Rattle.rp_agreement.proofs.EventWalk.{any_input, any_task, any_event, result_keeps, event_keeps}
use Rattle.rp_agreement.proofs.WorldKeeping.{sound_kept}
use Rattle.rp_agreement.proofs.EventLists.{history_sound}
use Rattle.rp_agreement.proofs.LogKeeping.{NodesInLog, log_kept, history_in_log}
use Rattle.rp_agreement.proofs.FewPackets.{IsFewAfterIf, event_few, few_sent}
use Rattle.rp_agreement.proofs.ranges.few_packets_are_sent.Goals as goal

pub returns : goal.returns
returns g c =
    let m = g.M.Machine in
    λ config program events world event transition history is resulted.
    let s = setting_for m.next m.answers m.begin config program in
    let sound = history_sound s (c.the_opening_is_sound.ensures s.config.nodes) events world history in
    few_sent s history.config (λ actions right. c.answers_are_few.ensures program actions right) transition
    (result_keeps s any_input any_task (IsSoundWorld s.config.nodes) (sound_kept s history.config) (event_effect s world event) transition transition.world
    (event_keeps s any_input any_task (IsSoundWorld s.config.nodes) (sound_kept s history.config) world event sound is (any_event event)) resulted refl)
    (result_keeps s any_input any_task (NodesInLog s.config.max_positions) (log_kept s) (event_effect s world event) transition transition.world
    (event_keeps s any_input any_task (NodesInLog s.config.max_positions) (log_kept s) world event (history_in_log s events world history) is (any_event event)) resulted refl)
    (subst (IsFewAfterIf s) resulted (event_few s world event))
