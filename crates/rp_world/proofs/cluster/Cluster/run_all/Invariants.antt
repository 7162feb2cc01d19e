use Rattle.std.proofs.Common.{◌≡◌, take}
use Rattle.rp_agreement.specs.Order.{AllSent}
use Rattle.rp_world.specs.Runs.{LeadsTo}
use Rattle.rp_world.proofs.cluster.Cluster.run_all.Given as goal

-- the events so far happened, and what was sent before them is still sent
abbrev pub invariant-loop-place : goal.invariant-loop-place
invariant-loop-place g l =
    let m = g.M.Machine in
    record {
      setup : l.self.setup ≡ l.initial.self.setup;
      failures : l.self.failures ≡ l.initial.self.failures;
      so_far : LeadsTo m.next m.answers m.begin l.initial.self (take l.place l.events) l.self.world;
      sent : AllSent l.initial.self.world.sent l.self.world.sent;
    }
