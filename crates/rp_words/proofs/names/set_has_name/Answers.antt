use Rattle.std.proofs.Common.{◌∙◌}
use Rattle.rp_words.proofs.TablesLemmas.{among_is_declared}
use Rattle.rp_words.proofs.names.set_has_name.Goals as goal

pub returns : goal.returns
returns c = c.contains.ensures ∙ among_is_declared c.args.name.now c.args.names.now.keys
