use Rattle.std.proofs.Common.{◌≡◌, ◌+◌, ap, arith, drop, false, get_or, length, length-drop, nat_lt, rules, take_all, ◌∙◌, ◌-◌}
use Rattle.std.specs.List.{prefix_len}
use Rattle.rp_words.specs.Words.{is_blank}
use Rattle.rp_words.proofs.WordsLemmas.{word_in_parts, word_goes_on}
use Rattle.rp_words.proofs.words.length_of_word.Goals as goal

pub loop-end-init : goal.loop-end-init
loop-end-init c = record {
  within = search rules;
  word = rw c.length_above_space-end.ensures.value (word_in_parts c.args.bytes.now);
}

pub loop-end-preserved : goal.loop-end-preserved
loop-end-preserved c =
    let bytes = c.args.bytes.now in
    let end = c.loop-end.end in
    let other : is_blank (get_or bytes end 0) ≡ false = search rules in
    let rest = take_all (length bytes - (end + 1)) (drop (end + 1) bytes) (omega (arith, length-drop (end + 1) bytes)) in
    let passed = c.length_above_space.ensures.value ∙ ap (prefix_len (nat_lt 32)) rest in
    let on = word_goes_on bytes end c.length_above_space.result c.loop-end-test.true other passed in
    record {
      within = omega (arith, c.length_above_space.ensures.within, length-drop (end + 1) bytes);
      word = omega (arith, c.loop-end.invariant.word, on);
    }
