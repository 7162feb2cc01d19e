use Rattle.std.proofs.Common.{◌∙◌}
use Rattle.rp_words.proofs.TablesLemmas.{found_itself}
use Rattle.rp_deck_bodies.proofs.expressions.find_component.Goals as goal

pub returns : goal.returns
returns c = c.copied.ensures ∙ c.get.ensures.value ∙ found_itself c.args.name.now c.args.names.now.entries
