use Rattle.rp_words.specs.indexmap.specs.IndexMap.{values}
use Rattle.rp_deck_bodies.proofs.statements.BodyDraft.read_rest.Goals as goal

pub read_statement-requires : goal.read_statement-requires
read_statement-requires c = c.in_ok-count-in-Statement.ensures.limits (values c.args.names.now) c.requires

pub returns-in_ok-turn-in-Else-clause-limits : goal.returns-in_ok-turn-in-Else-clause-limits
returns-in_ok-turn-in-Else-clause-limits c = c.in_ok-turn-in-Else.ensures.limits (values c.args.names.now) c.requires

pub returns-in_ok-close-in-End-clause-limits : goal.returns-in_ok-close-in-End-clause-limits
returns-in_ok-close-in-End-clause-limits c = c.in_ok-close-in-End.ensures.limits (values c.args.names.now) c.requires
