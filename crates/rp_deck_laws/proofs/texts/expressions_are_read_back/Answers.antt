use Rattle.rp_deck_laws.proofs.ExpressionTextLemmas.{expr_line_back}
use Rattle.rp_deck_laws.proofs.texts.expressions_are_read_back.Goals as goal

pub returns : goal.returns
returns c = expr_line_back
