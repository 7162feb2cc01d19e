use Rattle.rp_words.specs.indexmap.specs.IndexMap.{values}
use Rattle.rp_deck_bodies.proofs.statements.BodyDraft.read_if.Goals as goal

pub returns-clause-limits : goal.returns-clause-limits
returns-clause-limits c = c.in_ok-begin_if.ensures.limits (values c.args.names.now) c.requires c.in_ok-cond.ensures.fits
