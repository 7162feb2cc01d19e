-- The faults of the lines of a deck.
use Rattle.std.specs.Prelude.{◌≡◌, ℕ, Result, Ok, Err}
use Rattle.rp_base.specs.declared.fault.DeckReason.{DeckReason}
use Rattle.rp_base.specs.declared.fault.Fault.{Fault}
use Rattle.rp_base.specs.declared.fault.Fault.TheVariants as fault
use Rattle.rp_words.specs.declared.line_error.LineError.{LineError}
use Rattle.rp_words.specs.declared.line_error.LineError.TheVariants.{OutOfMemory, Bad}

-- the fault of a line that was not read
abbrev pub fault_at : ℕ → LineError → Fault
fault_at line OutOfMemory = fault.OutOfMemory
fault_at line (Bad reason) = fault.BadDeck line reason

-- memory ran out, or the deck is bad
abbrev pub IsDeckFault : Fault → Type 0
IsDeckFault fault.OutOfMemory = Unit {0}
IsDeckFault (fault.BadDeck line reason) = Unit {0}
IsDeckFault _ = ⊥

-- a bad line, by its number, and its first reason
pub record BadLine : Type 0 where
  pub line : ℕ
  pub reason : DeckReason

-- what reading some lines returned, seen by view, is what they say, unless memory ran out
abbrev pub Refuses : {Y : Type 0} → Fault → Result Y BadLine → Type 0
Refuses fault.OutOfMemory read = Unit {0}
Refuses (fault.BadDeck line reason) read = read ≡ Err (record { line = line; reason = reason })
Refuses _ read = ⊥

abbrev pub Reads : {X Y : Type 0} → (X → Y) → Result X Fault → Result Y BadLine → Type 0
Reads view (Ok x) read = read ≡ Ok (view x)
Reads view (Err e) read = Refuses e read
