-- By what is declared, and whether the timing event was set.
use Rattle.std.proofs.Common.{Some, None, pos, true, false}
use Rattle.rp_object.specs.rp_base.specs.declared.action.Operation.TheVariants.{SetTimer, CancelTimer}
use Rattle.rp_object.specs.rp_base.specs.declared.reply.Reply.TheVariants.{Value, Truth}
use Rattle.rp_object.specs.Step.{called}
use Rattle.rp_manual.proofs.Calling.{is_timer_of, sets_timer, cancels_timer}
use Rattle.rp_manual.proofs.programs.timing_events_are_set_and_cancelled.Goals as goal

pub returns : goal.returns
returns c = record {
  set = λ running call object number priority timer was task_is timer_is its there.
      is_timer_of running call number was (Some call.arg) (Value (pos 0)) (called running.program running.state call object (SetTimer number)) there
      (sets_timer running.program running.state call object number priority timer task_is timer_is its);
  cancelled = λ running call object number priority timer time task_is timer_is its there.
      is_timer_of running call number (Some time) None (Truth true) (called running.program running.state call object (CancelTimer number)) there
      (cancels_timer running.program running.state call object number priority timer task_is timer_is its (Some time) there);
  was_not_set = λ running call object number priority timer task_is timer_is its there.
      is_timer_of running call number None None (Truth false) (called running.program running.state call object (CancelTimer number)) there
      (cancels_timer running.program running.state call object number priority timer task_is timer_is its None there);
}
