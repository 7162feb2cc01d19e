-- By the walk over the events.
use Rattle.rp_agreement.specs.Answered.{setting_for}
use Rattle.rp_agreement.specs.Ranges.{IsRangedWorld}
use Rattle.rp_agreement.specs.rp_model.specs.World.{opening_world}
use Rattle.rp_agreement.proofs.EventWalk.{any_input, any_task, any_event, history_keeps}
use Rattle.rp_agreement.proofs.RangeKeeping.{ranges_kept, opening_ranged}
use Rattle.rp_installations.proofs.pending_steps.histories_keep_ranges.Goals as goal

pub returns : goal.returns
returns g c =
    let m = g.M.Machine in
    λ config program events world history.
    let s = setting_for m.next m.answers m.begin config program in
    history_keeps s any_input any_task (IsRangedWorld config.nodes) (ranges_kept s history.config (λ actions right. c.replies_fit.ensures program actions right)) (opening_world config.nodes) events world
    (opening_ranged config.nodes (c.the_opening_is_sound.ensures config.nodes)) history.right (λ event _. any_event event) history.happened
