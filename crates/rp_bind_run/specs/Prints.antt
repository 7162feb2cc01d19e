-- The packages of the deck that a reader holds.
use Rattle.std.specs.Prelude.{◌≡◌, ◌⊎◌, ℕ, List, Option, Some, None, Err}
use Rattle.std.specs.Prelude.{String, string_bytes}
use Rattle.std.specs.Io.KnownBytes.{Appends}
use Rattle.std.specs.declared.alloc.Global.{Global}
use Rattle.rp_script.specs.rp_base.specs.declared.fault.Fault.{Fault}
use Rattle.rp_script.specs.rp_base.specs.declared.fault.Fault.TheVariants.{BadDeck}
use Rattle.rp_bind.specs.Binds.{BindsText, declared_in}
use Rattle.rp_bind.specs.declared.deck_binding.Binding.{Binding}
use Rattle.rp_bind.specs.declared.deck_binding.Binding.TheVariants.{Packages, Refused}
use Rattle.rp_bind.specs.declared.lines.Language.{Language}
use Rattle.rp_script.specs.rp_output.specs.Stream.{Begins}
use Rattle.rp_script.specs.Faults.{IsBadDeck, IsProgramFault}
use Rattle.rp_script.specs.Given.{AreGiven}

-- they are bound by this
pub record BindsBytes (language : Language) (given : Option (List ℕ)) (binding : Binding)
    : Type 0 where
  pub bytes : List ℕ
  pub are_given : AreGiven given bytes
  pub binds : BindsText language bytes binding

-- without a fault the packages are written, or nothing where a name is refused
abbrev pub PrintsBinding : Language → Option (List ℕ) → Option (List ℕ) → Option (List ℕ)
    → Option (String Global) → Type 0
PrintsBinding language given old new None =
    (text : String Global) × Appends old new (string_bytes text)
    × BindsBytes language given (Packages text)
PrintsBinding language given old new (Some line) =
    (new ≡ old) × BindsBytes language given (Refused line)

-- what was written if a fault ended it: nothing, or a prefix of the packages
abbrev pub BindingBegins : Language → Option (List ℕ) → Option (List ℕ) → Option (List ℕ) → Type 0
BindingBegins language given old new =
    (new ≡ old) ⊎ ((text : String Global) × BindsBytes language given (Packages text)
    × Begins old new (string_bytes text))

-- the line and the reason of a bad deck are the first bad line of these bytes and the first reason
-- on it
abbrev pub IsBindMeant : Option (List ℕ) → Fault → Type 0
IsBindMeant given (BadDeck line reason) = (bytes : List ℕ) × AreGiven given bytes
    × (declared_in bytes ≡ Err (record { line = line; reason = reason }))
IsBindMeant given _ = Unit {0}

-- The fault. If the bytes declare nothing, it has the first bad line and the first reason on it, and
-- nothing was written.
pub record FailsBinding (given output output_after : Option (List ℕ)) (fault : Fault) : Type 0 where
  pub meant : IsBindMeant given fault
  pub unwritten : IsBadDeck fault → output_after ≡ output
  pub known : IsProgramFault fault
