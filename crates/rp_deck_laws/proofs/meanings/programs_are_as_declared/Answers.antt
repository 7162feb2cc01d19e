use Rattle.rp_deck_laws.proofs.ProgramLemmas.{program_is}
use Rattle.rp_deck_laws.proofs.meanings.programs_are_as_declared.Goals as goal

pub returns : goal.returns
returns c = program_is
