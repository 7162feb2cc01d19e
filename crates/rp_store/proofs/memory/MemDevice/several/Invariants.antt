-- The devices so far hold nothing.
use Rattle.std.proofs.Common.{◌≡◌, All, length}
use Rattle.rp_store.specs.Disk.{disk_of, empty_disk}
use Rattle.rp_store.proofs.memory.MemDevice.several.Given as goal

abbrev pub invariant-loop : goal.invariant-loop
invariant-loop l = record { count : length l.devices.items ≡ l.counter; empty : All (λ device. disk_of device ≡ empty_disk) l.devices.items }
