use Rattle.std.proofs.Common.{◌≡◌, ◌<◌, length, get_or, sym, ◌∙◌, arith}
use Rattle.rp_server.specs.Ticks.{is_tick}
use Rattle.rp_base.specs.declared.action.Action.TheVariants.{Noop}
use Rattle.rp_server.proofs.Taken.{taken_at, read_at, found_here, not_here}
use Rattle.rp_server.proofs.pending.has_taken_a_tick.Goals.{in-Some+else-is_tick, in_default}
use Rattle.rp_server.proofs.pending.has_taken_a_tick.Goals as goal

pub returns-then-is_tick : goal.returns-then-is_tick
returns-then-is_tick c =
    let log = c.args.log.now in
    let place = c.loop-place.place in
    let action = c.in-Some.taken in
    let within : place < length log.taken = omega (arith, c.loop-place-test.true, c.loop-place.invariant.0) in
    let read : get_or log.taken place action ≡ action = read_at log place c.position_at.result action c.applied-place-end.ensures.in_order within c.position_at.ensures c.in-Some.ensures in
    sym (found_here is_tick log.taken place action within read (sym c.is_tick.ensures ∙ c.if-is_tick.true)) ∙ c.loop-place.invariant.1

pub loop-place-preserved : goal.loop-place-preserved
loop-place-preserved c =
    let log = c.args.log.now in
    let place = c.loop-place.place in
    let ordered = c.applied-place-end.ensures.in_order in
    let within : place < length log.taken = omega (arith, c.loop-place-test.true, c.loop-place.invariant.0) in
    elim c.match-get.branch [
      | in-Some+else-is_tick w ↦ (
        c.loop-place.invariant.0,
        not_here is_tick log.taken place w.in-Some.taken within
            (read_at log place c.position_at.result w.in-Some.taken ordered within c.position_at.ensures w.in-Some.ensures)
            (sym w.is_tick.ensures ∙ w.if-is_tick.false)
            ∙ c.loop-place.invariant.1,
      )
      | in_default w ↦ absurd (w.in_default.not-Some _ (c.get.ensures ∙ taken_at log place c.position_at.result Noop ordered within c.position_at.ensures))
    ]
