-- The bytes are the text of the one packet, if there is one.
use Rattle.std.proofs.Common.{◌≡◌, ◌≢◌, ◌≤◌, ℕ, ◌∙◌, sym, subst, arith}
use Rattle.rp_codec.specs.declared.packet.Party.TheVariants.{Task}
use Rattle.rp_threads.specs.Turns.{IsAllOffered}
use Rattle.rp_threads.proofs.Offers.{sent_alone, none_is_offered, one_if_is, one_is_put}
use Rattle.rp_threads.proofs.tasks.put_sent.Goals as goal

pub put_text-requires : goal.put_text-requires
put_text-requires g c = sent_alone c.args.seat.now.part c.args.sent c.requires.sent c.if-sent-eq1.true

pub returns-then-sent-eq1 : goal.returns-then-sent-eq1
returns-then-sent-eq1 g c =
    let m = g.M.Machine in
    let old = c.args.seat.now in
    let new = c.put_text.new.seat in
    subst (λ (n : ℕ). IsAllOffered m.next m.answers m.begin (Task old.setup.number) c.args.sent old new n 0) (sym (c.from.ensures ∙ one_if_is c.put_text.result))
    (one_is_put m.next m.answers m.begin (Task old.setup.number) c.args.sent old new c.put_text.result c.if-sent-eq1.true c.put_text.ensures)

none_of : (n : ℕ) → n ≤ 1 → n ≢ 1 → n ≡ 0
none_of n few other = omega (arith, few, other)

pub returns : goal.returns
returns g c =
    let m = g.M.Machine in
    let old = c.args.seat.now in
    none_is_offered m.next m.answers m.begin (Task old.setup.number) c.args.sent old (none_of c.args.sent.packets c.requires.few c.if-sent-eq1.false)
