-- One timing event more.
use Rattle.std.proofs.Common.{◌≡◌, ◌+◌, ◌<◌, ℕ, ℤ, List, length, take, Option, Some, rules, sym, ◌∙◌, ap, subst, arith, FitsSigned, w64}
use Rattle.std.proofs.lemmas.Int.{to_z-of_z}
use Rattle.std.proofs.lemmas.List.{take_all}
use Rattle.rp_object.specs.State.{Running}
use Rattle.rp_object.proofs.Timing.{IsBest, Best, step_unset, step_earlier, step_later, step_first, step_none, best_first}
use Rattle.rp_object.proofs.objects.Objects.next_due.Goals.{in-Some+then-is_next, in-Some-next, in-None, in-Some+else-is_next, in_default}
use Rattle.rp_object.proofs.objects.Objects.next_due.Goals as goal

pub loop-timer-preserved : goal.loop-timer-preserved
loop-timer-preserved c =
    let items = c.deref-timer-items.result.now in
    let i = c.loop-timer.timer-index in
    let clock = c.self.inside.clock in
    let place = c.loop-timer.invariant.number in
    let best = c.loop-timer.invariant.best in
    let below : i < length items = omega arith in
    record {
      number = ap (λ n. n + 1) place;
      best = elim c.match-timer.branch [
        | in-Some+then-is_next w ↦
            let time : FitsSigned w64 w.in-Some.time = search rules in
            elim w.match-next.branch [
              | in-Some-next v ↦
                  let earliest : FitsSigned w64 v.in-Some-next.earliest = search rules in
                  step_earlier clock items i below c.loop-timer.next c.match-timer.next w.in-Some.time _ v.in-Some-next.earliest _ v.in-Some-next.field-0-1 c.loop-timer.number w.match-next.is_next w.in-Some.is (to_z-of_z w64 w.in-Some.time time) (to_z-of_z w64 v.in-Some-next.earliest earliest) v.in-Some-next.is place best v.is_next-is w.if-is_next.true w.next-is
              | in-None v ↦ step_first clock items i below c.loop-timer.next c.match-timer.next w.in-Some.time _ _ c.loop-timer.number w.match-next.is_next w.in-Some.is (to_z-of_z w64 w.in-Some.time time) (to_z-of_z w64 v.from.result (record { sfits = v.from.type_inv }) ∙ v.from.ensures) v.in-None.is place best v.is_next-is w.if-is_next.true w.next-is
            ]
        | in-Some+else-is_next w ↦
            let time : FitsSigned w64 w.in-Some.time = search rules in
            elim w.match-next.branch [
              | in-Some-next v ↦
                  let earliest : FitsSigned w64 v.in-Some-next.earliest = search rules in
                  step_later clock items i below c.loop-timer.next c.match-timer.next w.in-Some.time _ v.in-Some-next.earliest _ v.in-Some-next.field-0-1 w.match-next.is_next w.in-Some.is (to_z-of_z w64 w.in-Some.time time) (to_z-of_z w64 v.in-Some-next.earliest earliest) v.in-Some-next.is best v.is_next-is w.if-is_next.false w.next-is
              | in-None v ↦ step_none clock items i below c.loop-timer.next c.match-timer.next w.in-Some.time _ _ w.match-next.is_next w.in-Some.is (to_z-of_z w64 w.in-Some.time time) (to_z-of_z w64 v.from.result (record { sfits = v.from.type_inv }) ∙ v.from.ensures) v.in-None.is best v.is_next-is w.if-is_next.false w.next-is
            ]
        | in_default w ↦ subst (IsBest clock (take (i + 1) items)) (sym w.next-is) (step_unset clock items i below c.loop-timer.next w.in_default.is best)
      ];
    }

pub returns-clause-first : goal.returns-clause-first
returns-clause-first c =
    let now = c.args.self.now.state in
    let whole : take c.loop-timer.timer-index c.deref-timer-items.result.now ≡ now.timers =
    take_all c.loop-timer.timer-index c.deref-timer-items.result.now c.loop-timer-test.false ∙ c.deref-timer-items.ensures.value ∙ ap (λ (r : Running). r.state.timers) c.self.view_is in
    let clock : c.self.inside.clock ≡ now.clock = ap (λ (r : Running). r.state.clock) c.self.view_is in
    let best : IsBest c.self.inside.clock (take c.loop-timer.timer-index c.deref-timer-items.result.now) (Some (c.in_ok-number.field-0-0, c.in_ok-number.number)) =
    subst (IsBest c.self.inside.clock (take c.loop-timer.timer-index c.deref-timer-items.result.now)) c.in_ok-number.was c.loop-timer.invariant.best in
    best_first now.clock now.timers c.in_ok-number.field-0-0 c.in_ok-number.number
    (subst (λ (n : ℕ). Best n now.timers c.in_ok-number.field-0-0 c.in_ok-number.number) clock (subst (λ (l : List (Option ℤ)). Best c.self.inside.clock l c.in_ok-number.field-0-0 c.in_ok-number.number) whole best))
