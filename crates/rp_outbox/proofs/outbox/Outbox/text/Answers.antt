use Rattle.std.proofs.Common.{length, take, sym, ap, ◌∙◌, arith}
use Rattle.std.specs.Prelude.{slice_get, option_map}
use Rattle.std.proofs.lemmas.Option.{slice_get_past}
use Rattle.rp_model.specs.rp_codec.specs.Text.{text_of}
use Rattle.rp_outbox.specs.Packets.{Sending, packets_in}
use Rattle.rp_outbox.proofs.Joined.{run_again, right_at}
use Rattle.rp_outbox.proofs.outbox.Outbox.text.Goals as goal

pub returns-then-place-len-clause-text : goal.returns-then-place-len-clause-text
returns-then-place-len-clause-text c =
    let ms = packets_in (length c.self.inside.ends.items) (take c.self.inside.used c.self.inside.bytes.items) in
    let size = (run_again (take c.self.inside.used c.self.inside.bytes.items) c.self.inside.ends.items c.self.invariant.1).2 in
    ap (option_map text_of) (sym (slice_get_past ms c.args.place (omega (arith, c.if-place-len.true, size, c.len.ensures, c.self.inside.ends.ok.0))))
    ∙ ap (λ (s : Sending). option_map text_of (slice_get s.sent c.args.place)) c.self.view_is

pub returns-then-place-len-clause-right : goal.returns-then-place-len-clause-right
returns-then-place-len-clause-right c = λ m at.
    right_at (packets_in (length c.self.inside.ends.items) (take c.self.inside.used c.self.inside.bytes.items)) c.args.place m (run_again (take c.self.inside.used c.self.inside.bytes.items) c.self.inside.ends.items c.self.invariant.1).0
    (ap (λ (s : Sending). slice_get s.sent c.args.place) c.self.view_is ∙ at)

pub returns-clause-right : goal.returns-clause-right
returns-clause-right c = λ m at.
    right_at (packets_in (length c.self.inside.ends.items) (take c.self.inside.used c.self.inside.bytes.items)) c.args.place m (run_again (take c.self.inside.used c.self.inside.bytes.items) c.self.inside.ends.items c.self.invariant.1).0
    (ap (λ (s : Sending). slice_get s.sent c.args.place) c.self.view_is ∙ at)
