use Rattle.std.proofs.Common.{◌-◌, List, ℕ, length, get_or, ap, ◌∙◌, arith}
use Rattle.rp_outbox.specs.Packets.{packets_in}
use Rattle.rp_outbox.proofs.Joined.{again, start_at}
use Rattle.rp_outbox.proofs.outbox.start_between.Goals as goal

pub returns-else-place-eq0 : goal.returns-else-place-eq0
returns-else-place-eq0 c =
    let ms = packets_in (length c.args.ends.now) c.args.bytes.now in
    let texts = again c.args.bytes.now (length c.args.ends.now) c.requires.run.texts in
    ap (λ (l : List ℕ). get_or l (c.args.place - 1) 0) c.requires.run.ends_are
    ∙ start_at ms c.args.place 0 texts.0 c.if-place-eq0.false (omega (arith, c.requires.place, texts.2))
