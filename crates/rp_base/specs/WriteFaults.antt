-- Why a record is not written, as a fault.
use Rattle.rp_base.specs.declared.fault.Fault.{Fault}
use Rattle.rp_base.specs.declared.fault.Fault.TheVariants.{OutOfMemory, Device, Failed}
use Rattle.rp_base.specs.declared.fault.WriteFault.{WriteFault}
use Rattle.rp_base.specs.declared.fault.WriteFault.TheVariants as writes

abbrev pub fault_of : WriteFault → Fault
fault_of writes.OutOfMemory = OutOfMemory
fault_of writes.Device = Device
fault_of writes.Failed = Failed
