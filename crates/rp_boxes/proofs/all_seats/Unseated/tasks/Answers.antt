-- One more task has a seat.
use Rattle.std.proofs.Common.{◌≡◌, ◌+◌, length, [], ◌∷◌, refl, ap, arith}
use Rattle.std.proofs.lemmas.List.{length-append}
use Rattle.rp_actors.proofs.Moving.{at_if}
use Rattle.rp_boxes.proofs.Seating.{after_one, with_one}
use Rattle.rp_boxes.proofs.all_seats.Unseated.tasks.Goals as goal

pub loop-number-preserved : goal.loop-number-preserved
loop-number-preserved g c =
    let old = c.args.self.now in
    let seats = c.loop-number.seats.items in
    let seat = c.in_ok-task.field-0 in
    let grown = c.in_ok-push.ensures.items in
    let self = c.loop-number.self in
    let same = c.loop-number.invariant.same in
    let task = c.unwrap-task.result in
    let number = at_if (λ id. id ≡ c.loop-number.number) c.new.result c.unwrap-task.result c.unwrap-task.ensures c.new.ensures.value in
    let stated = c.in_ok-task.ensures in
    let count = c.loop-number.invariant.count in
    record {
      same = after_one old self seats same c.task.new.self c.push.new.self.items seat stated.rest grown;
      count = omega (arith, ap length grown, length-append seats (seat ∷ []), c.loop-number.invariant.count);
      seats = with_one old self seats same 8 [] c.push.new.self.items seat task (7 + task) 0 c.loop-number.invariant.seats grown stated.ok (omega (arith, number, count)) (omega (arith, number, count)) refl;
    }
