-- The text of the first packet is split off and put, as long as there is one.
use Rattle.std.proofs.Common.{◌≡◌, ℕ, ◌+◌, ◌<◌, ◌≤◌, List, take, drop, length, ◌∙◌, sym, ap, subst, arith}
use Rattle.rp_codec.specs.declared.packet.Party.TheVariants.{Node}
use Rattle.rp_board.specs.Seats.{SeatState, IsSentText}
use Rattle.rp_threads.specs.Turns.{AreSentTexts, HasFate, is_lost, is_uncopied, one_if}
use Rattle.rp_threads.proofs.Cuts.{begins, is_first, none_left, some_left}
use Rattle.rp_threads.proofs.Offers.{IsPartOffered, all_offered, fewer_left, none_offered, one_at_most, one_if_is, one_less, one_more_offered, part_puts, still_sent_text}
use Rattle.rp_threads.proofs.sends.put_each.Goals as goal

pub packets-init : goal.packets-init
packets-init g c =
    let m = g.M.Machine in
    let seat = c.args.seat.now in
    record { texts = c.requires; offered = none_offered m.next m.answers m.begin (Node seat.setup.number) seat c.args.texts.now; few = omega arith; fewer = omega arith }

pub text_len-requires : goal.text_len-requires
text_len-requires g c =
    begins c.args.seat.now.part c.packets.rest.now c.sends_packets.ensures c.packets.invariant.texts (some_left c.packets.rest.now c.is_empty.result c.is_empty.ensures c.packets-test.true)

pub split_at-requires : goal.split_at-requires
split_at-requires g c =
    (is_first c.args.seat.now.part c.packets.rest.now c.text_len.result c.sends_packets.ensures c.packets.invariant.texts (some_left c.packets.rest.now c.is_empty.result c.is_empty.ensures c.packets-test.true) c.text_len.ensures).within

pub put_copy-fate-requires : goal.put_copy-fate-requires
put_copy-fate-requires g c =
    let m = g.M.Machine in
    let seat = c.args.seat.now in
    let rest = c.packets.rest.now in
    let inv = c.packets.invariant in
    let first = is_first seat.part rest c.text_len.result c.sends_packets.ensures inv.texts (some_left rest c.is_empty.result c.is_empty.ensures c.packets-test.true) c.text_len.ensures in
    let puts = part_puts m.next m.answers m.begin (Node seat.setup.number) seat c.packets.seat c.args.texts.now rest c.packets.lost c.packets.uncopied inv.offered in
    still_sent_text seat c.packets.seat c.split_at.result.0.now puts (subst (IsSentText seat.part) (sym c.split_at.ensures.front) first.text)

pub packets-preserved : goal.packets-preserved
packets-preserved g c =
    let m = g.M.Machine in
    let seat = c.args.seat.now in
    let texts = c.args.texts.now in
    let rest = c.packets.rest.now in
    let len = c.text_len.result in
    let between = c.packets.seat in
    let now = c.put_copy-fate.new.seat in
    let fate = c.put_copy-fate.result in
    let inv = c.packets.invariant in
    let first = is_first seat.part rest len c.sends_packets.ensures inv.texts (some_left rest c.is_empty.result c.is_empty.ensures c.packets-test.true) c.text_len.ensures in
    let puts = part_puts m.next m.answers m.begin (Node seat.setup.number) seat between texts rest c.packets.lost c.packets.uncopied inv.offered in
    let number = ap (λ (s : SeatState g.row.M-Program.Denot). s.setup.number) puts.after in
    let offered : HasFate m.next m.answers m.begin (Node seat.setup.number) (take len rest) between now fate =
    subst (λ (n : ℕ). HasFate m.next m.answers m.begin (Node n) (take len rest) between now fate) number
    (subst (λ (text : List ℕ). HasFate m.next m.answers m.begin (Node between.setup.number) text between now fate) c.split_at.ensures.front c.put_copy-fate.ensures) in
    let more = one_more_offered m.next m.answers m.begin (Node seat.setup.number) seat between now texts rest len c.packets.lost c.packets.uncopied fate inv.offered first.text offered in
    let lost : c.from-lost.result ≡ one_if (is_lost fate) = c.from-lost.ensures ∙ one_if_is c.is_lost.result ∙ ap one_if c.is_lost.ensures in
    let uncopied : c.from-uncopied.result ≡ one_if (is_uncopied fate) = c.from-uncopied.ensures ∙ one_if_is c.is_uncopied.result ∙ ap one_if c.is_uncopied.ensures in
    record {
      texts = subst (AreSentTexts seat.part) (sym c.split_at.ensures.back) first.others;
      offered = subst (λ (left : List ℕ). IsPartOffered m.next m.answers m.begin (Node seat.setup.number) seat now texts left (c.packets.lost + c.from-lost.result) (c.packets.uncopied + c.from-uncopied.result)) (sym c.split_at.ensures.back)
          (subst (λ (n : ℕ). IsPartOffered m.next m.answers m.begin (Node seat.setup.number) seat now texts (drop len rest) (c.packets.lost + n) (c.packets.uncopied + c.from-uncopied.result)) (sym lost)
          (subst (λ (n : ℕ). IsPartOffered m.next m.answers m.begin (Node seat.setup.number) seat now texts (drop len rest) (c.packets.lost + one_if (is_lost fate)) (c.packets.uncopied + n)) (sym uncopied) more));
      few = subst (λ (left : List ℕ). c.packets.lost + c.from-lost.result + length left ≤ length texts) (sym c.split_at.ensures.back)
          (one_less rest len c.packets.lost c.from-lost.result (length texts) first.some first.within (subst (λ (n : ℕ). n ≤ 1) (sym lost) (one_at_most (is_lost fate))) inv.few);
      fewer = subst (λ (left : List ℕ). c.packets.uncopied + c.from-uncopied.result + length left ≤ length texts) (sym c.split_at.ensures.back)
          (one_less rest len c.packets.uncopied c.from-uncopied.result (length texts) first.some first.within (subst (λ (n : ℕ). n ≤ 1) (sym uncopied) (one_at_most (is_uncopied fate))) inv.fewer);
    }

pub packets-smaller : goal.packets-smaller
packets-smaller g c =
    let rest = c.packets.rest.now in
    let first = is_first c.args.seat.now.part rest c.text_len.result c.sends_packets.ensures c.packets.invariant.texts (some_left rest c.is_empty.result c.is_empty.ensures c.packets-test.true) c.text_len.ensures in
    subst (λ (left : List ℕ). length left < length rest) (sym c.split_at.ensures.back) (fewer_left rest c.text_len.result first.some first.within)

pub returns : goal.returns
returns g c =
    let m = g.M.Machine in
    let seat = c.args.seat.now in
    let inv = c.packets.invariant in
    let none = none_left c.packets.rest.now c.is_empty.result c.is_empty.ensures c.packets-test.false in
    all_offered m.next m.answers m.begin (Node seat.setup.number) seat c.packets.seat c.args.texts.now c.packets.rest.now c.packets.lost c.packets.uncopied inv.offered none
