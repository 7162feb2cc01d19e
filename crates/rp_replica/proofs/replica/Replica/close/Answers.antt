use Rattle.std.proofs.Common.{◌≡◌, sym, ap, subst, ◌∙◌}
use Rattle.rp_store.specs.Disk.{Disk}
use Rattle.rp_model.specs.Effect.{stop_part}
use Rattle.rp_replica.specs.State.{ReplicaState, part_of}
use Rattle.rp_replica.specs.Invariant.{IsOnDisk}
use Rattle.rp_replica.specs.Kept.{HoldsPart, HoldsOnly}
use Rattle.rp_replica.proofs.Cuts.{replica_now, stop_holds, stops_with}
use Rattle.rp_replica.proofs.replica.Replica.close.Goals as goal

pub returns-clause-holds : goal.returns-clause-holds
returns-clause-holds g c = λ working.
    let h = c.args.self in
    let same : h.disk ≡ g.D.Device.disk c.close.result = sym (ap g.D.Device.disk c.close.ensures ∙ ap (λ (k : ReplicaState g.row.M.Denot). k.disk) c.self.view_is) in
    subst (λ (d : Disk). HoldsPart h.config.max_positions d (stop_part (part_of h))) same
    (stop_holds h.config.max_positions h.disk (part_of h)
    (replica_now h (subst (λ (k : ReplicaState g.row.M.Denot). IsOnDisk k.config.max_positions k.disk k.failed k.records) c.self.view_is c.self.invariant) working))

pub returns-clause-only : goal.returns-clause-only
returns-clause-only g c = λ working only.
    let h = c.args.self in
    let same : h.disk ≡ g.D.Device.disk c.close.result = sym (ap g.D.Device.disk c.close.ensures ∙ ap (λ (k : ReplicaState g.row.M.Denot). k.disk) c.self.view_is) in
    subst (λ (d : Disk). HoldsOnly d (stop_part (part_of h))) same
    (stops_with h (subst (λ (k : ReplicaState g.row.M.Denot). IsOnDisk k.config.max_positions k.disk k.failed k.records) c.self.view_is c.self.invariant) working only)
