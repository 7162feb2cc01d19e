use Rattle.std.proofs.Common.{◌∙◌}
use Rattle.rp_words.proofs.TablesLemmas.{found_is_declared}
use Rattle.rp_words.proofs.names.map_has_name.Goals as goal

pub returns : goal.returns
returns g c = c.contains_key.ensures ∙ found_is_declared c.args.name.now c.args.table.now.entries
