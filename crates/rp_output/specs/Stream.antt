-- What is written, and the faults of reading and writing.
use Rattle.std.specs.Prelude.{◌≡◌, ℕ, Option, Result, Ok, Err, List, ◌++◌}
use Rattle.std.specs.Io.KnownBytes.{Appends}
use Rattle.rp_model.specs.rp_base.specs.declared.fault.Fault.{Fault}
use Rattle.rp_model.specs.rp_base.specs.declared.fault.Fault.TheVariants.{OutOfMemory, Io}

-- a write failed
abbrev pub IsWriteFault : Fault → Type 0
IsWriteFault Io = Unit {0}
IsWriteFault _ = ⊥

-- a read or a write failed, or memory ran out
abbrev pub IsReadFault : Fault → Type 0
IsReadFault OutOfMemory = Unit {0}
IsReadFault Io = Unit {0}
IsReadFault _ = ⊥

-- what was written is the text without this rest
pub record WroteBefore (old new : Option (List ℕ)) (rest text : List ℕ) : Type 0 where
  pub front : List ℕ
  pub parts : text ≡ front ++ rest
  pub written : Appends old new front

-- what was written is a prefix of the text
abbrev pub Begins : Option (List ℕ) → Option (List ℕ) → List ℕ → Type 0
Begins old new text = (rest : List ℕ) × WroteBefore old new rest text

-- The text was written, or a prefix of it if something failed.
abbrev pub Writes : Option (List ℕ) → Option (List ℕ) → List ℕ → Result Unit Fault → Type 0
Writes old new text (Ok done) = Appends old new text
Writes old new text (Err fault) = Begins old new text
