use Rattle.rp_deck_laws.proofs.PartTextLemmas.{parts_declare}
use Rattle.rp_deck_laws.proofs.texts.objects_are_read_back.Goals as goal

pub returns : goal.returns
returns c = parts_declare
