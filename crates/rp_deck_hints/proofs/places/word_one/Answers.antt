-- The first word of what is left of the text after the lines above.
use Rattle.std.proofs.Common.{◌∙◌, ◌-◌, ℕ, List, ap, not, take}
use Rattle.std.specs.List.{prefix_len}
use Rattle.rp_deck.specs.rp_words.specs.Words.{is_blank, without_blanks}
use Rattle.rp_deck_hints.specs.Places.{after_lines, first_line}
use Rattle.rp_deck_hints.proofs.LinesAt.{line_after}
use Rattle.rp_deck_hints.proofs.places.word_one.Goals as goal

abbrev up_to_blank : List ℕ → List ℕ
up_to_blank bytes = take (prefix_len (λ byte. not (is_blank byte)) bytes) bytes

pub returns : goal.returns
returns c =
    let above = c.after_lines.ensures.value ∙ ap (after_lines c.args.text.now) c.saturating_sub.ensures in
    let line = c.first_line-line.ensures.value ∙ ap first_line above ∙ line_after c.args.text.now (c.args.line - 1) in
    c.split_word.ensures.word ∙ ap up_to_blank (c.from_word.ensures.value ∙ ap without_blanks line)
