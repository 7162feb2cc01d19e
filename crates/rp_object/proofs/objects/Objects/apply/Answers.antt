-- No call of the task waits.
use Rattle.std.proofs.Common.{subst}
use Rattle.rp_machine.specs.Calls.{MayApply}
use Rattle.rp_object.specs.Step.{objects_waiting}
use Rattle.rp_object.proofs.Asking.{task_free}
use Rattle.rp_object.proofs.objects.Objects.apply.Goals as goal

pub call-done-requires : goal.call-done-requires
call-done-requires c =
    let waiting = objects_waiting c.args.self.now in
    record { free = task_free waiting c.in-Call.task c.in-Call.number c.in-Call.object c.in-Call.operation c.in-Call.arg (subst (MayApply waiting) c.in-Call.is c.requires.free) }
