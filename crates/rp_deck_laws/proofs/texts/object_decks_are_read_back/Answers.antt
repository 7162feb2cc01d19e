use Rattle.rp_deck_laws.proofs.ObjectDeckLemmas.{objects_back_whole}
use Rattle.rp_deck_laws.proofs.texts.object_decks_are_read_back.Goals as goal

pub returns : goal.returns
returns c = objects_back_whole
