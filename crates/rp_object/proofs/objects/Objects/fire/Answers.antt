-- The handler that runs is the timing event's.
use Rattle.std.proofs.Common.{◌≡◌, ◌≤◌, ◌-◌, ℕ, length, get_or, Option, None, Some, option_map, sym, ◌∙◌, ap, subst, arith, length-set}
use Rattle.rp_entry.specs.Actions.{event}
use Rattle.rp_object.specs.declared.program.TimingEvent.{TimingEvent}
use Rattle.rp_object.specs.declared.program.Declarations.{Declarations}
use Rattle.rp_object.specs.State.{Running}
use Rattle.rp_object.specs.Program.{timer_handler}
use Rattle.rp_object.specs.Step.{asks, handled, with_timer}
use Rattle.rp_object.proofs.Asking.{of_number}
use Rattle.rp_object.proofs.objects.Objects.fire.Goals as goal

pub returns-clause-action : goal.returns-clause-action
returns-clause-action c =
    let cleared = c.set_timer.ensures.timer in
    let program : c.deref.result.now ≡ c.args.self.now.program = c.deref.ensures ∙ ap (λ (r : Running). r.program) (c.self.view_is ∙ cleared) in
    let timers : length c.self.inside.timers.items ≡ length c.args.self.now.state.timers = ap (λ (r : Running). length r.state.timers) (c.self.view_is ∙ cleared) ∙ length-set c.args.self.now.state.timers (c.args.number - 1) None in
    let all : length c.deref.result.now.timers.items ≡ length c.self.inside.timers.items = ap (λ (p : Declarations). length p.timers.items) c.deref.ensures ∙ sym c.self.invariant.all_timers in
    let within : c.args.number ≤ length c.deref.result.now.timers.items = omega (arith, c.requires.declared, timers, all) in
    let place : c.from.result - 1 ≡ c.args.number - 1 = ap (λ (n : ℕ). n - 1) c.from.ensures in
    let read : c.index.result.now ≡ get_or c.deref.result.now.timers.items (c.args.number - 1) c.index.result.now = subst (λ (n : ℕ). c.index.result.now ≡ get_or c.deref.result.now.timers.items n c.index.result.now) place c.index.ensures in
    let found = of_number c.deref.result.now.timers.items c.args.number c.index.result.now c.requires.there within read in
    let handler : timer_handler c.args.self.now.program c.args.number ≡ Some c.index.result.now.handler =
    ap (λ (p : Declarations). timer_handler p c.args.number) (sym program) ∙ ap (λ (o : Option TimingEvent). option_map (λ (t : TimingEvent). t.handler) o) found in
    ap (handled (with_timer c.args.self.now.state c.args.number None)) handler
    ∙ ap (λ (r : Running). asks r.state c.index.result.now.handler.object (event c.index.result.now.handler.procedure)) (sym cleared) ∙ c.handle.ensures.action
