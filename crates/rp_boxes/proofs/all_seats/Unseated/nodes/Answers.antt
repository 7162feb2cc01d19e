-- One more node has a seat.
use Rattle.std.proofs.Common.{◌≡◌, ℕ, suc, length, drop, All, [], ◌∷◌, sym, ap, subst, ◌∙◌, arith}
use Rattle.std.proofs.lemmas.List.{length-append}
use Rattle.rp_actors.proofs.Fresh.{first_of, rest_of}
use Rattle.rp_boxes.specs.FirstSeats.{AreFirstSeats, failures_of}
use Rattle.rp_boxes.proofs.Seating.{after_none, after_one, at_drop, with_one}
use Rattle.rp_boxes.proofs.all_seats.Unseated.nodes.Goals as goal

pub loop-device-init : goal.loop-device-init
loop-device-init g c =
    let disk = g.D.Device.disk in
    let devices = c.into_iter-device-iterator.ensures.into_iter_gives.0 in
    let failures = failures_of disk c.args.devices.items in
    let old = c.args.self.now in
    record {
      same = after_none old c.new-seats.result.items c.new-seats.ensures.items;
      count = omega (arith, ap length c.new-seats.ensures.items, ap length devices, c.requires.count);
      seats = subst (AreFirstSeats old.table old.config old.program 1 failures) (sym c.new-seats.ensures.items) (λ place. tt);
      left = ap (failures_of disk) devices ∙ ap (λ (n : ℕ). drop n failures) (sym (ap length c.new-seats.ensures.items));
      empty = subst (All (λ device. (disk device).contents ≡ [])) (sym devices) c.requires.empty;
    }

pub node-requires-clause-empty : goal.node-requires-clause-empty
node-requires-clause-empty g c =
    first_of (λ device. (g.D.Device.disk device).contents ≡ []) c.loop-device.device-iterator.rest.items c.in-Some.device c.next.new.self.rest.items c.in-Some.ensures.steps.0 c.loop-device.invariant.empty

pub loop-device-preserved : goal.loop-device-preserved
loop-device-preserved g c =
    let disk = g.D.Device.disk in
    let old = c.args.self.now in
    let seats = c.loop-device.seats.items in
    let seat = c.in_ok-node.field-0 in
    let grown = c.in_ok-push.ensures.items in
    let steps = c.in-Some.ensures.steps.0 in
    let self = c.loop-device.self in
    let same = c.loop-device.invariant.same in
    let device = c.in-Some.device in
    let failures = failures_of disk c.args.devices.items in
    let here = at_drop failures (length seats) (disk device).failures (failures_of disk c.next.new.self.rest.items) (sym c.loop-device.invariant.left ∙ ap (failures_of disk) steps) in
    let one : suc (length seats) ≡ length c.push.new.self.items = omega (arith, ap length grown, length-append seats (seat ∷ [])) in
    let number : self.next ≡ suc (length seats) = omega (arith, ap (λ unseated. unseated.next) same, c.requires.next) in
    record {
      same = after_one old self seats same c.node.new.self c.push.new.self.items seat c.in_ok-node.ensures.rest grown;
      count = omega (arith, ap length grown, length-append seats (seat ∷ []), ap length steps, c.loop-device.invariant.count);
      seats = with_one old self seats same 1 failures c.push.new.self.items seat self.next self.next (disk device).failures c.loop-device.invariant.seats grown c.in_ok-node.ensures.ok number
          (omega (arith, number)) (sym here.0);
      left = sym here.1 ∙ ap (λ (n : ℕ). drop n failures) one;
      empty = rest_of (λ device. (disk device).contents ≡ []) c.loop-device.device-iterator.rest.items c.in-Some.device c.next.new.self.rest.items steps c.loop-device.invariant.empty;
    }
