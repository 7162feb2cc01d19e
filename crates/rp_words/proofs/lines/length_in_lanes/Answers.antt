use Rattle.std.proofs.Common.{◌≡◌, ◌==◌, ◌∙◌, length, take, drop, eqb, w8, sym, ap, arith}
use Rattle.std.proofs.lemmas.Simd.{bitmask_splat, leading_from_mask_l, trailing_mask_l, length-chunk}
use lib.Count.{count_trailing_zeros}
use Rattle.rp_words.proofs.lines.length_in_lanes.Goals as goal

pub returns-then-feeds-eq0 : goal.returns-then-feeds-eq0
returns-then-feeds-eq0 c =
    let lanes = take 16 (drop c.args.from c.args.bytes.now) in
    let long : length lanes ≡ 16 = length-chunk c.args.from 16 c.args.bytes.now c.requires in
    let mask = bitmask_splat w8 eqb lanes 16 10 long (omega arith) in
    sym (leading_from_mask_l (λ byte. byte == 10) lanes (sym mask ∙ c.if-feeds-eq0.true) ∙ long)

pub returns-else-feeds-eq0 : goal.returns-else-feeds-eq0
returns-else-feeds-eq0 c =
    let lanes = take 16 (drop c.args.from c.args.bytes.now) in
    let long : length lanes ≡ 16 = length-chunk c.args.from 16 c.args.bytes.now c.requires in
    let mask = bitmask_splat w8 eqb lanes 16 10 long (omega arith) in
    ap (count_trailing_zeros 64) mask ∙ trailing_mask_l (λ byte. byte == 10) 64 lanes (omega arith) (omega (arith, mask, c.if-feeds-eq0.false))
