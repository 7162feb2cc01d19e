-- The faults of a search over a deck.
use Rattle.std.proofs.Common.{◌≡◌, ℕ, Option, List, Result, Ok, Err, inr, sym, subst}
use Rattle.std.specs.Prelude.{IfErr, IsErrAnd}
use Rattle.rp_script.specs.rp_base.specs.declared.fault.Fault.{Fault}
use Rattle.rp_script.specs.rp_base.specs.declared.fault.Fault.TheVariants.{OutOfMemory, Device, Failed, BadPacket, NotRunning, BallotsSpent, LogFull, NoSuchMessage, TaskBusy, NumbersSpent, BadDeck, BadConfig, Io}
use Rattle.rp_explore_run.specs.Explores.{FailsExplore, IsPlanMeant}
use Rattle.rp_script.specs.rp_output.specs.Faults.{IsRunFault}
use Rattle.rp_script.specs.rp_output.specs.Stream.{IsWriteFault}
use Rattle.rp_script.specs.Faults.{IsBadDeck}

-- a fault of a run says nothing of the deck, and is no bad deck
meant_run : (given : Option (List ℕ)) (fault : Fault) → IsRunFault fault → IsPlanMeant given fault
meant_run given OutOfMemory is = tt
meant_run given Device is = tt
meant_run given Failed is = tt
meant_run given (BadPacket reason) is = tt
meant_run given NotRunning is = tt
meant_run given BallotsSpent is = tt
meant_run given LogFull is = tt
meant_run given NoSuchMessage is = tt
meant_run given TaskBusy is = tt
meant_run given NumbersSpent is = tt
meant_run given (BadDeck line reason) is = absurd is
meant_run given BadConfig is = tt
meant_run given Io is = tt

no_bad_deck : (P : Type 0) (fault : Fault) → IsRunFault fault → IsBadDeck fault → P
no_bad_deck P OutOfMemory is bad = absurd bad
no_bad_deck P Device is bad = absurd bad
no_bad_deck P Failed is bad = absurd bad
no_bad_deck P (BadPacket reason) is bad = absurd bad
no_bad_deck P NotRunning is bad = absurd bad
no_bad_deck P BallotsSpent is bad = absurd bad
no_bad_deck P LogFull is bad = absurd bad
no_bad_deck P NoSuchMessage is bad = absurd bad
no_bad_deck P TaskBusy is bad = absurd bad
no_bad_deck P NumbersSpent is bad = absurd bad
no_bad_deck P (BadDeck line reason) is bad = absurd is
no_bad_deck P BadConfig is bad = absurd bad
no_bad_deck P Io is bad = absurd bad

pub fails_run : (given old new : Option (List ℕ)) (fault : Fault) → IsRunFault fault → FailsExplore given old new fault
fails_run given old new fault is = record { meant = meant_run given fault is; unwritten = no_bad_deck (new ≡ old) fault is; known = inr is }

-- a write that failed ends a run
pub ends_run : (fault : Fault) → IsWriteFault fault → IsRunFault fault
ends_run OutOfMemory is = tt
ends_run Device is = is
ends_run Failed is = is
ends_run (BadPacket reason) is = is
ends_run NotRunning is = is
ends_run BallotsSpent is = is
ends_run LogFull is = is
ends_run NoSuchMessage is = is
ends_run TaskBusy is = is
ends_run NumbersSpent is = is
ends_run (BadDeck line reason) is = is
ends_run BadConfig is = is
ends_run Io is = tt

pub faulted : {A : Type 0} (Q : Fault → Type 0) (fault : Fault) (answer : Result A Fault) → IsErrAnd answer (λ e. e ≡ fault) → Q fault → IfErr answer Q
faulted {A = A} Q fault (Ok done) is q = tt
faulted {A = A} Q fault (Err other) is q = subst Q (sym is) q
