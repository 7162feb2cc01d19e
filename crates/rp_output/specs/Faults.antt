-- Which faults end a run in memory.
use Rattle.rp_model.specs.rp_base.specs.declared.fault.Fault.{Fault}
use Rattle.rp_model.specs.rp_base.specs.declared.fault.Fault.TheVariants.{OutOfMemory, Device}
use Rattle.rp_model.specs.rp_base.specs.declared.fault.Fault.TheVariants.{Failed, BadPacket}
use Rattle.rp_model.specs.rp_base.specs.declared.fault.Fault.TheVariants.{NotRunning, BallotsSpent}
use Rattle.rp_model.specs.rp_base.specs.declared.fault.Fault.TheVariants.{LogFull}
use Rattle.rp_model.specs.rp_base.specs.declared.fault.Fault.TheVariants.{NoSuchMessage, TaskBusy}
use Rattle.rp_model.specs.rp_base.specs.declared.fault.Fault.TheVariants.{NumbersSpent}
use Rattle.rp_model.specs.rp_base.specs.declared.fault.Fault.TheVariants.{BadDeck, BadConfig, Io}

-- a fault that ends a run in memory: memory ran out, or a write failed
abbrev pub IsRunFault : Fault → Type 0
IsRunFault OutOfMemory = Unit {0}
IsRunFault Device = ⊥
IsRunFault Failed = ⊥
IsRunFault (BadPacket reason) = ⊥
IsRunFault NotRunning = ⊥
IsRunFault BallotsSpent = ⊥
IsRunFault LogFull = ⊥
IsRunFault NoSuchMessage = ⊥
IsRunFault TaskBusy = ⊥
IsRunFault NumbersSpent = ⊥
IsRunFault (BadDeck line reason) = ⊥
IsRunFault BadConfig = ⊥
IsRunFault Io = Unit {0}
