-- Seats are made where the questions have their answers.
use Rattle.std.proofs.Common.{◌≡◌, [], All, length, subst, arith}
use Rattle.rp_base.specs.Config.{IsRightConfig}
use Rattle.rp_boxes.proofs.all_seats.seats.Goals as goal

pub returns-clause-refused : goal.returns-clause-refused
returns-clause-refused g c =
    let right : IsRightConfig c.args.config = c.is_right.ensures.0 c.if-not-is_right.false in
    let count : length c.args.devices.items ≡ c.args.config.nodes = omega (arith, c.if-len-from.false, c.len.ensures, c.from.ensures, c.args.devices.ok.0) in
    let empty = subst (λ devices. All (λ device. (g.D.Device.disk device).contents ≡ []) devices) c.deref.ensures.value (c.are_empty.ensures.0 c.if-not-are_empty.false) in
    (λ stated. absurd cc, λ none. absurd (none (right, count, empty)))
