use Rattle.std.proofs.Common.{◌∙◌, ap}
use Rattle.std.specs.Prelude.{option_map}
use Rattle.rp_deck_declarations.specs.rp_deck_objects.specs.ObjectViews.{operation_of}
use Rattle.rp_words.proofs.TablesLemmas.{found_is}
use Rattle.rp_explore_deck.proofs.rules.operation_named.Goals as goal

pub returns : goal.returns
returns c = ap (option_map operation_of) (c.copied.ensures ∙ c.get.ensures.value) ∙ found_is operation_of c.args.name.now c.args.names.now.entries
