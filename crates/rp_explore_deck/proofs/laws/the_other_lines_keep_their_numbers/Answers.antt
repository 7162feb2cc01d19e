use Rattle.rp_explore_deck.proofs.PlainLemmas.{others_are_kept, end_is_kept}
use Rattle.rp_explore_deck.proofs.laws.the_other_lines_keep_their_numbers.Goals as goal

pub returns-clause-lines : goal.returns-clause-lines
returns-clause-lines c added text = others_are_kept added text

pub returns-clause-end : goal.returns-clause-end
returns-clause-end c added text = end_is_kept added text
