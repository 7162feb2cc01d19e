use Rattle.rp_deck_laws.proofs.WholeLemmas.{means_it}
use Rattle.rp_deck_laws.proofs.meanings.decks_mean_what_they_say.Goals as goal

pub returns : goal.returns
returns c = means_it c.object_decks_are_read_back.ensures
