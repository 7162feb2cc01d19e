use Rattle.rp_server.proofs.FreePlaces.{NoneFree}
use Rattle.rp_server.proofs.server.Roles.least_free.Given as goal

-- none was free so far
abbrev pub invariant-loop-number : goal.invariant-loop-number
invariant-loop-number g l = NoneFree l.self.config.nodes l.self.records l.self.running.proposals l.first l.number
