use Rattle.std.proofs.Common.{arith}
use Rattle.rp_deck_bodies.proofs.statements.BodyDraft.into_statements.Goals as goal

pub returns-clause-limits : goal.returns-clause-limits
returns-clause-limits c = λ declared k limits counted. record { count = omega (arith, k.count); depth = omega (arith, k.depth); fits = k.fit limits counted }
