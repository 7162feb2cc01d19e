-- The faults of printing packages.
use Rattle.std.proofs.Common.{◌≡◌, ℕ, Option, List, Result, Ok, Err, inl, inr, refl, sym, subst}
use Rattle.std.specs.Prelude.{IfErr, IsErrAnd}
use Rattle.rp_script.specs.rp_base.specs.declared.fault.Fault.{Fault}
use Rattle.rp_script.specs.rp_base.specs.declared.fault.Fault.TheVariants.{OutOfMemory, Device, Failed, BadPacket, NotRunning, BallotsSpent, LogFull, NoSuchMessage, TaskBusy, NumbersSpent, BadDeck, BadConfig, Io}
use Rattle.rp_bind_run.specs.Prints.{FailsBinding, IsBindMeant}
use Rattle.rp_script.specs.Given.{AreGiven}
use Rattle.rp_script.specs.rp_output.specs.Faults.{IsRunFault}
use Rattle.rp_script.specs.rp_output.specs.Stream.{IsWriteFault}
use Rattle.rp_script.specs.Faults.{IsBadDeck, IsProgramFault}
use Rattle.rp_bind.specs.rp_words.specs.LineFaults.{IsDeckFault, Refuses}
use Rattle.rp_bind.specs.Binds.{declared_in}

-- a fault of a run says nothing of the deck, and is no bad deck
meant_run : (given : Option (List ℕ)) (fault : Fault) → IsRunFault fault → IsBindMeant given fault
meant_run given OutOfMemory is = tt
meant_run given Device is = tt
meant_run given Failed is = tt
meant_run given (BadPacket reason) is = tt
meant_run given NotRunning is = tt
meant_run given BallotsSpent is = tt
meant_run given LogFull is = tt
meant_run given NoSuchMessage is = tt
meant_run given TaskBusy is = tt
meant_run given NumbersSpent is = tt
meant_run given (BadDeck line reason) is = absurd is
meant_run given BadConfig is = tt
meant_run given Io is = tt

no_bad_deck : (P : Type 0) (fault : Fault) → IsRunFault fault → IsBadDeck fault → P
no_bad_deck P OutOfMemory is bad = absurd bad
no_bad_deck P Device is bad = absurd bad
no_bad_deck P Failed is bad = absurd bad
no_bad_deck P (BadPacket reason) is bad = absurd bad
no_bad_deck P NotRunning is bad = absurd bad
no_bad_deck P BallotsSpent is bad = absurd bad
no_bad_deck P LogFull is bad = absurd bad
no_bad_deck P NoSuchMessage is bad = absurd bad
no_bad_deck P TaskBusy is bad = absurd bad
no_bad_deck P NumbersSpent is bad = absurd bad
no_bad_deck P (BadDeck line reason) is bad = absurd is
no_bad_deck P BadConfig is bad = absurd bad
no_bad_deck P Io is bad = absurd bad

pub fails_run : (given old new : Option (List ℕ)) (fault : Fault) → IsRunFault fault → FailsBinding given old new fault
fails_run given old new fault is = record { meant = meant_run given fault is; unwritten = no_bad_deck (new ≡ old) fault is; known = inr is }

-- a write that failed ends a run
pub ends_run : (fault : Fault) → IsWriteFault fault → IsRunFault fault
ends_run OutOfMemory is = tt
ends_run Device is = is
ends_run Failed is = is
ends_run (BadPacket reason) is = is
ends_run NotRunning is = is
ends_run BallotsSpent is = is
ends_run LogFull is = is
ends_run NoSuchMessage is = is
ends_run TaskBusy is = is
ends_run NumbersSpent is = is
ends_run (BadDeck line reason) is = is
ends_run BadConfig is = is
ends_run Io is = tt

pub faulted : {A : Type 0} (Q : Fault → Type 0) (fault : Fault) (answer : Result A Fault) → IsErrAnd answer (λ e. e ≡ fault) → Q fault → IfErr answer Q
faulted {A = A} Q fault (Ok done) is q = tt
faulted {A = A} Q fault (Err other) is q = subst Q (sym is) q

-- a fault of the declarations is that of the bytes
meant_deck : (given : Option (List ℕ)) (bytes : List ℕ) (fault : Fault) → AreGiven given bytes → Refuses fault (declared_in bytes) → IsBindMeant given fault
meant_deck given bytes OutOfMemory are refused = tt
meant_deck given bytes (BadDeck line reason) are refused = (bytes, are, refused)
meant_deck given bytes _ are refused = absurd refused

deck_known : (fault : Fault) → IsDeckFault fault → IsProgramFault fault
deck_known OutOfMemory is = inr tt
deck_known (BadDeck line reason) is = inl tt
deck_known _ is = absurd is

pub fails_deck : (given output : Option (List ℕ)) (bytes : List ℕ) (fault : Fault) → AreGiven given bytes → Refuses fault (declared_in bytes) → IsDeckFault fault → FailsBinding given output output fault
fails_deck given output bytes fault are refused is = record { meant = meant_deck given bytes fault are refused; unwritten = λ bad. refl; known = deck_known fault is }
