-- The box is claimed, its packet taken out, and it is cleared.
use Rattle.std.proofs.Common.{◌<◌, ◌≤◌, Some, refl, ◌∙◌, arith}
use Rattle.rp_board.specs.Parts.{part_in, box_of, emptying}
use Rattle.rp_board.specs.Seats.{table_setting}
use Rattle.rp_board.proofs.Emptying.{clear_allows}
use Rattle.rp_board.proofs.Sights.{sees_written, out_with}
use Rattle.rp_board.proofs.boxes.empty.Goals as goal

pub claim_full-requires : goal.claim_full-requires
claim_full-requires g c = record {
  same = c.requires.table;
  sized = c.requires.sized;
  less = (c.requires.from, c.requires.to);
  place = c.requires.place;
  free = c.requires.free;
  follows = λ table moment word. record { table = table; moment = moment; word = word };
}

pub exchange-packet-requires : goal.exchange-packet-requires
exchange-packet-requires g c =
    let taken = c.claim_full.ensures.hit c.if-not-claim_full.false in
    (c.claim_full.ensures.table ∙ c.requires.table, (Some taken.1, out_with c.args.to (box_of c.args.from c.args.to) _ (Some taken.1) _ taken.3))

pub store-requires : goal.store-requires
store-requires g c =
    let table = c.args.slots.now.table_id in
    let b = box_of c.args.from c.args.to in
    let p = part_in c.args.place.now.me.0 in
    let inside : b < table.words = rw c.requires.sized.0 (omega (arith, c.requires.from, c.requires.to)) in
    let buffer : 256 ≤ table.slots = rw c.requires.sized.1 (omega arith) in
    let taken = c.claim_full.ensures.hit c.if-not-claim_full.false in
    let here = sees_written c.args.to b (emptying b taken.0 p) (Some taken.1) c.spare-left.result _ _ taken.3 c.exchange-packet.ensures.3 in (
      c.exchange-packet.ensures.0 ∙ (c.claim_full.ensures.table ∙ c.requires.table),
      inside,
      clear_allows (table_setting g.M.Machine c.args.slots.now.key) table.slots c.exchange-packet.new.seat.id c.args.from c.args.to (emptying b taken.0 p) c.requires.from c.requires.to buffer _
          c.spare-left.result here refl c.spare-left.ensures,
    )

pub look-requires-clause-follows : goal.look-requires-clause-follows
look-requires-clause-follows g c = λ parts world. (parts, world)
