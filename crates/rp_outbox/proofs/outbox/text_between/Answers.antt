use Rattle.std.proofs.Common.{◌≡◌, ◌-◌, suc, List, ℕ, Some, length, drop, get_or, sym, ap, ◌∙◌, arith}
use Rattle.std.specs.Prelude.{option_map}
use Rattle.rp_model.specs.rp_codec.specs.Text.{text_of}
use Rattle.rp_outbox.specs.Packets.{packets_in}
use Rattle.rp_outbox.proofs.Joined.{again, next_of, ends_at, text_within, text_is}
use Rattle.rp_outbox.proofs.outbox.text_between.Goals as goal

pub split_at-requires : goal.split_at-requires
split_at-requires c =
    let ms = packets_in (length c.args.ends.now) c.args.bytes.now in
    let texts = again c.args.bytes.now (length c.args.ends.now) c.requires.run.texts in
    let n = next_of ms c.args.place texts.0 (omega (arith, c.requires.place, texts.2)) in
    omega (arith, text_within ms c.args.place n, c.start_between-from.ensures, ap length texts.1)

pub overflow_sub-ends : goal.overflow_sub-ends
overflow_sub-ends c =
    let ms = packets_in (length c.args.ends.now) c.args.bytes.now in
    let texts = again c.args.bytes.now (length c.args.ends.now) c.requires.run.texts in
    let n = next_of ms c.args.place texts.0 (omega (arith, c.requires.place, texts.2)) in
    let end = ap (λ (l : List ℕ). get_or l c.args.place 0) c.requires.run.ends_are ∙ ends_at 0 ms c.args.place 0 n.m (drop (suc c.args.place) ms) n.rest in
    omega (arith, end, c.start_between-from.ensures)

pub split_at-requires-2 : goal.split_at-requires-2
split_at-requires-2 c =
    let ms = packets_in (length c.args.ends.now) c.args.bytes.now in
    let texts = again c.args.bytes.now (length c.args.ends.now) c.requires.run.texts in
    let n = next_of ms c.args.place texts.0 (omega (arith, c.requires.place, texts.2)) in
    let end = ap (λ (l : List ℕ). get_or l c.args.place 0) c.requires.run.ends_are ∙ ends_at 0 ms c.args.place 0 n.m (drop (suc c.args.place) ms) n.rest in
    omega (arith, end, c.start_between-from.ensures, text_within ms c.args.place n, ap length texts.1, c.split_at.ensures.back_len)

pub returns : goal.returns
returns c =
    let ms = packets_in (length c.args.ends.now) c.args.bytes.now in
    let texts = again c.args.bytes.now (length c.args.ends.now) c.requires.run.texts in
    let n = next_of ms c.args.place texts.0 (omega (arith, c.requires.place, texts.2)) in
    let end = ap (λ (l : List ℕ). get_or l c.args.place 0) c.requires.run.ends_are ∙ ends_at 0 ms c.args.place 0 n.m (drop (suc c.args.place) ms) n.rest in
    let len : get_or c.args.ends.now c.args.place 0 - c.start_between-from.result ≡ length (text_of n.m) = omega (arith, end, c.start_between-from.ensures) in
    let text = text_is c.args.bytes.now c.split_at.result.1.now c.split_at-2.result.0.now ms c.args.place c.start_between-from.result (get_or c.args.ends.now c.args.place 0 - c.start_between-from.result) n
    texts.1 c.start_between-from.ensures c.split_at.ensures.back len c.split_at-2.ensures.front in
    ap Some text ∙ ap (option_map text_of) (sym n.got)
