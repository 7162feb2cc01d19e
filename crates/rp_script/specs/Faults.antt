-- Which faults end the program.
use Rattle.std.specs.Prelude.{◌⊎◌}
use Rattle.rp_deck.specs.rp_base.specs.declared.fault.Fault.{Fault}
use Rattle.rp_deck.specs.rp_base.specs.declared.fault.Fault.TheVariants.{OutOfMemory, Device}
use Rattle.rp_deck.specs.rp_base.specs.declared.fault.Fault.TheVariants.{Failed, BadPacket}
use Rattle.rp_deck.specs.rp_base.specs.declared.fault.Fault.TheVariants.{NotRunning, BallotsSpent}
use Rattle.rp_deck.specs.rp_base.specs.declared.fault.Fault.TheVariants.{LogFull}
use Rattle.rp_deck.specs.rp_base.specs.declared.fault.Fault.TheVariants.{NoSuchMessage, TaskBusy}
use Rattle.rp_deck.specs.rp_base.specs.declared.fault.Fault.TheVariants.{NumbersSpent}
use Rattle.rp_deck.specs.rp_base.specs.declared.fault.Fault.TheVariants.{BadDeck, BadConfig, Io}
use Rattle.rp_output.specs.Faults.{IsRunFault}

-- the deck is bad
abbrev pub IsBadDeck : Fault → Type 0
IsBadDeck OutOfMemory = ⊥
IsBadDeck Device = ⊥
IsBadDeck Failed = ⊥
IsBadDeck (BadPacket reason) = ⊥
IsBadDeck NotRunning = ⊥
IsBadDeck BallotsSpent = ⊥
IsBadDeck LogFull = ⊥
IsBadDeck NoSuchMessage = ⊥
IsBadDeck TaskBusy = ⊥
IsBadDeck NumbersSpent = ⊥
IsBadDeck (BadDeck line reason) = Unit {0}
IsBadDeck BadConfig = ⊥
IsBadDeck Io = ⊥

-- a fault that ends the program: a bad deck, or one that ends a run
abbrev pub IsProgramFault : Fault → Type 0
IsProgramFault fault = IsBadDeck fault ⊎ IsRunFault fault
