use Rattle.rp_deck_laws.proofs.ExampleLemmas.{example_is, example_written}
use Rattle.rp_deck_laws.proofs.meanings.an_example_is_right.Goals as goal

pub returns-clause-right : goal.returns-clause-right
returns-clause-right c = example_is

pub returns-clause-text : goal.returns-clause-text
returns-clause-text c = example_written
