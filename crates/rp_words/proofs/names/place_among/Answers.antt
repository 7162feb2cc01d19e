use Rattle.std.proofs.Common.{◌∙◌}
use Rattle.rp_words.proofs.TablesLemmas.{same_place}
use Rattle.rp_words.proofs.names.place_among.Goals as goal

pub returns-clause-place : goal.returns-clause-place
returns-clause-place c = c.first_equal.ensures.place ∙ same_place c.args.name.now c.args.names.now
