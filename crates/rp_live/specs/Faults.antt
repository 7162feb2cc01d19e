-- What ends a run before it is through.
use Rattle.std.specs.Prelude.{◌≡◌}
use Rattle.rp_threads.specs.rp_base.specs.declared.fault.Fault.{Fault}
use Rattle.rp_threads.specs.rp_base.specs.declared.fault.Fault.TheVariants.{OutOfMemory}

-- memory ran out, or no thread could be started
abbrev pub IsLiveFault : Fault → Type 0
IsLiveFault fault = fault ≡ OutOfMemory
