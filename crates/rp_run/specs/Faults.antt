-- Which faults end a run over devices.
use Rattle.std.specs.Prelude.{◌≡◌, ◌⊎◌, ℕ, List}
use Rattle.rp_base.specs.declared.fault.Fault.{Fault}
use Rattle.rp_base.specs.declared.fault.Fault.TheVariants.{Device}
use Rattle.rp_output.specs.Faults.{IsRunFault}
use Rattle.rp_world.specs.rp_actors.specs.Failures.{RisesAt}

-- A fault that ends a run over devices, with the counts of their failures before and after: one
-- that ends a run in memory, or one of a device, whose count is then higher.
abbrev pub IsDeviceRunFault : List ℕ → List ℕ → Fault → Type 0
IsDeviceRunFault before after fault =
    IsRunFault fault ⊎ ((fault ≡ Device) × (node : ℕ) × RisesAt node before after)
