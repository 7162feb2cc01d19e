use Rattle.std.proofs.Common.{◌<◌, Bool, true, false, drop, length, sym, ◌∙◌, arith}
use Rattle.rp_base.specs.declared.action.Action.{Action}
use Rattle.rp_base.specs.declared.action.Action.TheVariants.{Noop}
use Rattle.rp_machine.specs.Numbered.{outcome}
use Rattle.rp_model.specs.Pending.{stays}
use Rattle.rp_server.proofs.Staying.{room_again, turned, has_first}
use Rattle.rp_server.proofs.pending.Pending.settle_each.Goals.{in-Some+then-stays, in-Some+else-stays, in_default}
use Rattle.rp_server.proofs.pending.Pending.settle_each.Goals as goal

pub push-requires : goal.push-requires
push-requires g c =
    let r = outcome g.M.Machine.next g.M.Machine.answers c.args.machine.now in
    let test : Action → Bool = stays r.kept r.given (drop c.args.before c.args.log.now.taken) in
    let below : c.loop.counter < length c.args.self.now = omega (arith, c.loop-test.true, c.loop.invariant.0) in
    let room = room_again test c.args.self.now c.loop.self c.pop.new.self c.loop.counter c.in-Some.item below c.loop.invariant.2 (sym c.pop.ensures.first ∙ c.in-Some.is) c.pop.ensures.rest in
    omega (arith, room, c.loop.invariant.0, c.loop.invariant.1)

pub loop-preserved : goal.loop-preserved
loop-preserved g c =
    let r = outcome g.M.Machine.next g.M.Machine.answers c.args.machine.now in
    let test : Action → Bool = stays r.kept r.given (drop c.args.before c.args.log.now.taken) in
    let p = c.loop.counter in
    let old = c.args.self.now in
    let below : p < length old = omega (arith, c.loop-test.true, c.loop.invariant.0) in
    elim c.match-pop.branch [
      | in-Some+then-stays w ↦ (
        c.loop.invariant.0,
        c.loop.invariant.1,
        turned test old c.loop.self c.pop.new.self p w.in-Some.item below c.loop.invariant.2 (sym c.pop.ensures.first ∙ w.in-Some.is) c.pop.ensures.rest c.match-pop.self true
            (sym w.stays.ensures ∙ w.if-stays.true) (w.self-is ∙ w.push.ensures),
      )
      | in-Some+else-stays w ↦ (
        c.loop.invariant.0,
        c.loop.invariant.1,
        turned test old c.loop.self c.pop.new.self p w.in-Some.item below c.loop.invariant.2 (sym c.pop.ensures.first ∙ w.in-Some.is) c.pop.ensures.rest c.match-pop.self false
            (sym w.stays.ensures ∙ w.if-stays.false) w.self-is,
      )
      | in_default w ↦ absurd (w.in_default.not-Some _ (c.pop.ensures.first ∙ has_first test old c.loop.self p below c.loop.invariant.2 Noop))
    ]
