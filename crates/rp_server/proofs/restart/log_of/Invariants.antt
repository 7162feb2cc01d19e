use Rattle.std.proofs.Common.{◌≡◌, [], take}
use Rattle.rp_log.specs.Recorded.{LearnedAlike}
use Rattle.rp_server.proofs.restart.log_of.Given as goal

abbrev pub invariant-loop-rec : goal.invariant-loop-rec
invariant-loop-rec l = LearnedAlike (take l.rec-index l.records) l.log × (l.log.taken ≡ [])
