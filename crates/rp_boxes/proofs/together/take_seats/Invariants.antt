-- The seats so far are taken in.
use Rattle.std.proofs.Common.{◌≡◌, ◌++◌, All, map}
use Rattle.rp_boxes.proofs.together.take_seats.Given as goal

abbrev pub invariant-loop-seat : goal.invariant-loop-seat
invariant-loop-seat g l = record {
  table : l.all.table_id ≡ l.fn.all.table_id;
  out : l.all.me.1 ≡ l.fn.all.me.1;
  knows : l.all.me.0 ++ map g.S.Leaves.known l.seat-iterator.rest.items ≡ l.fn.all.me.0 ++ map g.S.Leaves.known l.fn.seats.items;
  left : All (λ seat. g.S.Leaves.at seat ≡ l.slots.table_id) l.seat-iterator.rest.items;
}
