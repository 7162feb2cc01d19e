-- Each kind's text is as long as the bytes say that were read.
use Rattle.std.proofs.Common.{◌+◌, ℕ, ap, ◌∙◌}
use Rattle.rp_codec.proofs.LengthLaws.{stated, kind_empty, kind_voted, within, voted_within}
use Rattle.rp_codec.proofs.lengths.text_len.Goals as goal

pub bounds-bytes-14 : goal.bounds-bytes-14
bounds-bytes-14 c = within 3 c.args.bytes.now c.in-3.is c.requires.0 c.requires.1 c.requires.3.0 c.requires.3.2

pub bounds-bytes-23 : goal.bounds-bytes-23
bounds-bytes-23 c = voted_within c.args.bytes.now c.in-3.is c.if-bytes-eq0.false c.requires.0 c.requires.1 c.requires.3.0 c.requires.3.2

pub bounds-bytes-14-in-4 : goal.bounds-bytes-14-in-4
bounds-bytes-14-in-4 c = within 4 c.args.bytes.now c.in-4.is c.requires.0 c.requires.1 c.requires.3.0 c.requires.3.2

pub bounds-bytes-14-in-5 : goal.bounds-bytes-14-in-5
bounds-bytes-14-in-5 c = within 5 c.args.bytes.now c.in-5.is c.requires.0 c.requires.1 c.requires.3.0 c.requires.3.2

pub bounds-bytes-6 : goal.bounds-bytes-6
bounds-bytes-6 c = within 6 c.args.bytes.now c.in-6.is c.requires.0 c.requires.1 c.requires.3.0 c.requires.3.2

pub bounds-bytes-8 : goal.bounds-bytes-8
bounds-bytes-8 c = within 9 c.args.bytes.now c.in-9.is c.requires.0 c.requires.1 c.requires.3.0 c.requires.3.2

pub returns-in-1 : goal.returns-in-1
returns-in-1 c = λ p rest packet text. stated 1 c.args.bytes.now c.in-1.is p rest packet text

pub returns-in-2 : goal.returns-in-2
returns-in-2 c = λ p rest packet text. stated 2 c.args.bytes.now c.in-2.is p rest packet text

pub returns-in-3 : goal.returns-in-3
returns-in-3 c = λ p rest packet text. kind_empty c.args.bytes.now c.in-3.is c.if-bytes-eq0.true p rest packet text

pub returns-in-3-2 : goal.returns-in-3-2
returns-in-3-2 c = λ p rest packet text. ap (λ (n : ℕ). 23 + n) c.action_len.ensures ∙ kind_voted c.args.bytes.now c.in-3.is c.if-bytes-eq0.false p rest packet text

pub returns-in-4 : goal.returns-in-4
returns-in-4 c = λ p rest packet text. ap (λ (n : ℕ). 14 + n) c.action_len-in-4.ensures ∙ stated 4 c.args.bytes.now c.in-4.is p rest packet text

pub returns-in-5 : goal.returns-in-5
returns-in-5 c = λ p rest packet text. ap (λ (n : ℕ). 14 + n) c.action_len-in-5.ensures ∙ stated 5 c.args.bytes.now c.in-5.is p rest packet text

pub returns-in-6 : goal.returns-in-6
returns-in-6 c = λ p rest packet text. ap (λ (n : ℕ). 6 + n) c.action_len-in-6.ensures ∙ stated 6 c.args.bytes.now c.in-6.is p rest packet text

pub returns-in-7 : goal.returns-in-7
returns-in-7 c = λ p rest packet text. stated 7 c.args.bytes.now c.in-7.is p rest packet text

pub returns-in-8 : goal.returns-in-8
returns-in-8 c = λ p rest packet text. stated 8 c.args.bytes.now c.in-8.is p rest packet text

pub returns-in-9 : goal.returns-in-9
returns-in-9 c = λ p rest packet text. ap (λ (n : ℕ). 8 + n) c.reply_len.ensures ∙ stated 9 c.args.bytes.now c.in-9.is p rest packet text

pub returns-in-12 : goal.returns-in-12
returns-in-12 c = λ p rest packet text. stated 12 c.args.bytes.now c.in-12.is p rest packet text

pub returns-in_default : goal.returns-in_default
returns-in_default c = λ p rest packet text.
    let whole = c.packet_len.ensures.value p rest packet text in
    let len = c.unwrap.ensures in
    cc
