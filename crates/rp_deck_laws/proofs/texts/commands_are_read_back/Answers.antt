use Rattle.rp_deck_laws.proofs.ScriptTextLemmas.{command_back}
use Rattle.rp_deck_laws.proofs.texts.commands_are_read_back.Goals as goal

pub returns : goal.returns
returns c = command_back
