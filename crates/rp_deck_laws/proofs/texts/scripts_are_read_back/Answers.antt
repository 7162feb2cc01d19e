use Rattle.rp_deck_laws.proofs.TextsLemmas.{script_text_back}
use Rattle.rp_deck_laws.proofs.texts.scripts_are_read_back.Goals as goal

pub returns : goal.returns
returns c = script_text_back
