use Rattle.rp_deck_laws.proofs.ExpressionTextLemmas.{cond_line_back}
use Rattle.rp_deck_laws.proofs.texts.conditions_are_read_back.Goals as goal

pub returns : goal.returns
returns c = cond_line_back
