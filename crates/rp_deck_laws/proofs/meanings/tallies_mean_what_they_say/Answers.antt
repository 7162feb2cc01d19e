use Rattle.rp_deck_laws.proofs.TallyLemmas.{tally_means_it}
use Rattle.rp_deck_laws.proofs.meanings.tallies_mean_what_they_say.Goals as goal

pub returns : goal.returns
returns c = tally_means_it c.tally_decks_are_read_back.ensures
