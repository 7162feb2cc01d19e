-- What is so where an answer fails.
use Rattle.std.proofs.Common.{ℕ, Option, List, Result, Ok, Err}
use Rattle.std.specs.Prelude.{OnErr}
use Rattle.rp_deck.specs.rp_base.specs.declared.fault.Fault.{Fault}
use Rattle.rp_deck.specs.rp_base.specs.declared.fault.Fault.TheVariants.{OutOfMemory, Device, Failed, BadPacket, NotRunning, BallotsSpent, LogFull, NoSuchMessage, TaskBusy, NumbersSpent, BadDeck, BadConfig, Io}
use Rattle.rp_deck.specs.declared.deck.Mode.{Mode}
use Rattle.rp_output.specs.Faults.{IsRunFault}
use Rattle.rp_script.specs.Given.{IsMeant}

-- what is so is so on a failure
pub on_err : {A E : Type 0} (answer : Result A E) (P : Type 0) → P → OnErr answer P
on_err (Ok done) P p = tt
on_err (Err fault) P p = p

-- a fault of a run says nothing of the deck
pub meant_run : (mode : Mode) (given : Option (List ℕ)) (fault : Fault) → IsRunFault fault → IsMeant mode given fault
meant_run mode given OutOfMemory is = tt
meant_run mode given Device is = tt
meant_run mode given Failed is = tt
meant_run mode given (BadPacket reason) is = tt
meant_run mode given NotRunning is = tt
meant_run mode given BallotsSpent is = tt
meant_run mode given LogFull is = tt
meant_run mode given NoSuchMessage is = tt
meant_run mode given TaskBusy is = tt
meant_run mode given NumbersSpent is = tt
meant_run mode given (BadDeck line reason) is = absurd is
meant_run mode given BadConfig is = tt
meant_run mode given Io is = tt
