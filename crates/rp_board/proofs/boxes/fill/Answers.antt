-- The box is claimed, and the packet put there.
use Rattle.std.proofs.Common.{◌≡◌, ℕ, List, [], refl, sym, ap, subst, ◌∙◌}
use Rattle.rp_base.specs.Sets.{Has}
use Rattle.rp_board.specs.Moments.{WasFull}
use Rattle.rp_board.specs.Parts.{Part, box_of, part_in}
use Rattle.rp_board.specs.Plays.{IsPutBy, Sight}
use Rattle.rp_board.specs.Seats.{table_setting}
use Rattle.rp_board.proofs.boxes.fill.Goals as goal

pub claim_empty-requires : goal.claim_empty-requires
claim_empty-requires g c = record {
  same = c.requires.table;
  sized = c.requires.sized;
  less = (c.requires.from, c.requires.to);
  place = c.requires.place;
  free = c.requires.free;
  follows = λ table moment word. record { table = table; moment = moment; word = word };
}

pub deliver-requires-clause-packet : goal.deliver-requires-clause-packet
deliver-requires-clause-packet g c =
    let packet = c.requires.packet in
    let sent = subst (λ (me : Sight). Has packet.0 (part_in me.0).sent) (sym (c.claim_empty.ensures.hit c.if-not-claim_empty.false).2) packet.1 in (
      packet.0,
      sent,
      packet.2,
      λ table moment full inside. (
        record { packet = packet.0; sent = sent; carried = packet.2; is = refl },
        record { table = table; moment = moment; full = full; text = c.args.packet; inside = inside; is = refl },
      ),
    )

pub returns-clause-put : goal.returns-clause-put
returns-clause-put g c =
    let p = part_in c.args.place.now.me.0 in
    let free : record (part_in c.claim_empty.new.place.me.0) { fills = [] } ≡ p =
    ap (λ (me : Sight). record (part_in me.0) { fills = [] }) (c.claim_empty.ensures.hit c.if-not-claim_empty.false).2 ∙ ap (λ (fills : List ℕ). record p { fills = fills }) (sym c.requires.free) in
    subst (λ (q : Part). IsPutBy c.args.from c.args.to c.args.packet.items q (part_in c.deliver.new.place.me.0)) free c.deliver.ensures.picked.0

pub returns-clause-full : goal.returns-clause-full
returns-clause-full g c =
    let s = table_setting g.M.Machine c.args.slots.now.key in
    subst (λ (me : Sight). WasFull s me.0 (box_of c.args.from c.args.to) c.args.packet.items) (sym c.deliver.ensures.place) c.deliver.ensures.picked.1
