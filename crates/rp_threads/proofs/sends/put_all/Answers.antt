-- Where there is none nothing is put. One packet alone is put as it is, and of several each is copied.
use Rattle.std.proofs.Common.{◌≡◌, ◌≤◌, ◌≢◌, ℕ, List, Bool, ◌∙◌, sym, ap, subst, arith}
use Rattle.rp_board.specs.Seats.{SeatState}
use Rattle.rp_codec.specs.declared.packet.Party.TheVariants.{Node}
use Rattle.rp_threads.specs.Turns.{AreTextsOffered, IsAllOffered, one_if}
use Rattle.rp_threads.proofs.Offers.{sent_alone, none_is_offered, one_if_is, one_is_offered, all_are_offered}
use Rattle.rp_threads.proofs.sends.put_all.Goals as goal

pub returns-then-sent-eq0-clause-offered : goal.returns-then-sent-eq0-clause-offered
returns-then-sent-eq0-clause-offered g c =
    let m = g.M.Machine in
    let old = c.args.seat.now in
    let sent = c.args.sent in
    subst (λ (s : SeatState g.row.M-Program.Denot). IsAllOffered m.next m.answers m.begin (Node old.setup.number) sent old s 0 0) (sym c.lend.ensures)
    (none_is_offered m.next m.answers m.begin (Node old.setup.number) sent old c.if-sent-eq0.true)

pub put_text-fate-requires : goal.put_text-fate-requires
put_text-fate-requires g c = sent_alone c.args.seat.now.part c.args.sent c.requires c.if-sent-eq1.true

pub returns-then-sent-eq1-clause-offered : goal.returns-then-sent-eq1-clause-offered
returns-then-sent-eq1-clause-offered g c =
    let m = g.M.Machine in
    let old = c.args.seat.now in
    let put = c.put_text-fate in
    subst (λ (n : ℕ). IsAllOffered m.next m.answers m.begin (Node old.setup.number) c.args.sent old put.new.seat n 0) (sym (c.from.ensures ∙ one_if_is c.is_lost.result ∙ ap one_if c.is_lost.ensures))
    (one_is_offered m.next m.answers m.begin (Node old.setup.number) c.args.sent old put.new.seat put.result put.ensures.copied c.if-sent-eq1.true put.ensures.fate)

pub returns-clause-offered : goal.returns-clause-offered
returns-clause-offered g c =
    let m = g.M.Machine in
    let old = c.args.seat.now in
    let new = c.put_each-losses.new.seat in
    let sent = c.args.sent in
    let losses = c.put_each-losses.result in
    let texts = subst (λ (bytes : List ℕ). AreTextsOffered m.next m.answers m.begin (Node old.setup.number) bytes old new losses.lost losses.uncopied) c.as_slice.ensures.value c.put_each-losses.ensures in
    subst (λ (s : SeatState g.row.M-Program.Denot). IsAllOffered m.next m.answers m.begin (Node old.setup.number) sent old s losses.lost losses.uncopied) (sym c.lend-2.ensures)
    (all_are_offered m.next m.answers m.begin (Node old.setup.number) c.one_text.ensures sent old new c.sends_packets.ensures losses.lost losses.uncopied texts)

few_not : (n : ℕ) → n ≢ 0 → n ≢ 1 → n ≤ 1 → ⊥
few_not n some other few = omega (arith, some, other, few)

pub returns-clause-alone : goal.returns-clause-alone
returns-clause-alone g c = λ few. absurd (few_not c.args.sent.packets c.if-sent-eq0.false c.if-sent-eq1.false few)
