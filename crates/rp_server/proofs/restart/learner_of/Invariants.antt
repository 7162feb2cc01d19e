use Rattle.std.proofs.Common.{[], take}
use Rattle.rp_server.specs.Invariant.{IsLearner}
use Rattle.rp_server.proofs.restart.learner_of.Given as goal

abbrev pub invariant-loop-rec : goal.invariant-loop-rec
invariant-loop-rec l = IsLearner l.fn.config (take l.rec-index l.records) 0 l.learner []
