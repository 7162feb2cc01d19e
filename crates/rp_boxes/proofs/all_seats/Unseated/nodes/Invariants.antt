-- The seats so far, and the devices that are left.
use Rattle.std.proofs.Common.{◌≡◌, ◌+◌, length, drop, All, []}
use Rattle.rp_boxes.specs.FirstSeats.{AreFirstSeats, after_seats, failures_of}
use Rattle.rp_boxes.proofs.all_seats.Unseated.nodes.Given as goal

abbrev pub invariant-loop-device : goal.invariant-loop-device
invariant-loop-device g l = record {
  same : l.self ≡ after_seats (length l.seats.items) l.initial.self;
  count : length l.seats.items + length l.device-iterator.rest.items ≡ l.initial.self.config.nodes;
  seats : AreFirstSeats l.initial.self.table l.initial.self.config l.initial.self.program 1 (failures_of g.D.Device.disk l.fn.devices.items) l.seats.items;
  left : failures_of g.D.Device.disk l.device-iterator.rest.items ≡ drop (length l.seats.items) (failures_of g.D.Device.disk l.fn.devices.items);
  empty : All (λ device. (g.D.Device.disk device).contents ≡ []) l.device-iterator.rest.items;
}
