-- How a run goes on after an event (no public clause names it).
use Rattle.std.specs.Prelude.{◌≡◌, ℕ, Result, IfErr, OnOk}
use Rattle.rp_base.specs.declared.fault.Fault.{Fault}
use Rattle.rp_world.specs.rp_actors.specs.Steps.{ClusterState}
use Rattle.rp_run.specs.Faults.{IsDeviceRunFault}
use Rattle.rp_run.specs.Runs.{HasParts}

-- It goes on from a cluster to one that has its n nodes and its tasks, and no device has failed; or
-- a fault ends it.
pub record RunGoesOn {P : Type 0} (nodes : ℕ) (before after : ClusterState P)
    (result : Result Unit Fault) : Type 0 where
  pub parts : OnOk result (HasParts nodes after)
  pub counts : OnOk result (after.failures ≡ before.failures)
  pub fault : IfErr result (IsDeviceRunFault before.failures after.failures)
