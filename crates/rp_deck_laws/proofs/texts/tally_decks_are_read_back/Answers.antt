use Rattle.rp_deck_laws.proofs.TallyTextLemmas.{tally_back_whole}
use Rattle.rp_deck_laws.proofs.texts.tally_decks_are_read_back.Goals as goal

pub returns : goal.returns
returns c = tally_back_whole
