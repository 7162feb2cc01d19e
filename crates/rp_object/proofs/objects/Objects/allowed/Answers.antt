use Rattle.std.proofs.Common.{◌≡◌, subst}
use Rattle.std.specs.Prelude.{IsTrue}
use Rattle.rp_base.specs.declared.action.Operation.{Operation}
use Rattle.rp_object.specs.InMemory.{AreObjects}
use Rattle.rp_object.specs.Program.{is_declared}
use Rattle.rp_object.specs.State.{Running}
use Rattle.rp_object.proofs.Declared.{object_there, timer_there}
use Rattle.rp_object.proofs.objects.Objects.allowed.Goals as goal

pub function-requires : goal.function-requires
function-requires c =
    let now = c.args.self.now in
    let held : AreObjects now.program now.state.objects now.state.timers = subst (λ (r : Running). AreObjects r.program r.state.objects r.state.timers) c.self.view_is c.self.invariant in
    let there = object_there now.program now.state.objects now.state.timers held _ _ _
    (subst (λ (operation : Operation). IsTrue (is_declared now.program c.args.call.task c.args.object operation)) c.in-Function.is c.requires.declared) in
    record { there = there.0; declared = there.1 }

pub procedure-requires : goal.procedure-requires
procedure-requires c =
    let now = c.args.self.now in
    let held : AreObjects now.program now.state.objects now.state.timers = subst (λ (r : Running). AreObjects r.program r.state.objects r.state.timers) c.self.view_is c.self.invariant in
    let there = object_there now.program now.state.objects now.state.timers held _ _ _
    (subst (λ (operation : Operation). IsTrue (is_declared now.program c.args.call.task c.args.object operation)) c.in-Procedure.is c.requires.declared) in
    record { there = there.0; declared = there.1 }

pub entry-requires : goal.entry-requires
entry-requires c =
    let now = c.args.self.now in
    let held : AreObjects now.program now.state.objects now.state.timers = subst (λ (r : Running). AreObjects r.program r.state.objects r.state.timers) c.self.view_is c.self.invariant in
    let there = object_there now.program now.state.objects now.state.timers held _ _ _
    (subst (λ (operation : Operation). IsTrue (is_declared now.program c.args.call.task c.args.object operation)) c.in-Entry.is c.requires.declared) in
    record { there = there.0; declared = there.1; free = c.requires.free }

pub set_timer-requires : goal.set_timer-requires
set_timer-requires c =
    let now = c.args.self.now in
    let held : AreObjects now.program now.state.objects now.state.timers = subst (λ (r : Running). AreObjects r.program r.state.objects r.state.timers) c.self.view_is c.self.invariant in
    let there = timer_there now.program now.state.objects now.state.timers held _ _ _
    (subst (λ (operation : Operation). IsTrue (is_declared now.program c.args.call.task c.args.object operation)) c.in-SetTimer.is c.requires.declared) in
    record { there = there.0; declared = there.1 }

pub set_timer-was_set-requires : goal.set_timer-was_set-requires
set_timer-was_set-requires c =
    let now = c.args.self.now in
    let held : AreObjects now.program now.state.objects now.state.timers = subst (λ (r : Running). AreObjects r.program r.state.objects r.state.timers) c.self.view_is c.self.invariant in
    let there = timer_there now.program now.state.objects now.state.timers held _ _ _
    (subst (λ (operation : Operation). IsTrue (is_declared now.program c.args.call.task c.args.object operation)) c.in-CancelTimer.is c.requires.declared) in
    record { there = there.0; declared = there.1 }
