-- A reader, field by field: what it took from the front, or the fault of a field.
use Rattle.std.proofs.Common.{◌≡◌, ℕ, ◌<◌, Bool, true, false, cond, List, ◌++◌, get_or, Result, Ok, Err, refl}
use Rattle.rp_base.specs.declared.fault.PacketReason.{PacketReason}
use Rattle.rp_base.specs.declared.fault.PacketReason.TheVariants.{Short, Long, Version, Kind, Field}
use Rattle.rp_codec.specs.Reading.{◌>>=◌, ruled}

abbrev pub IsBytes : List ℕ → Type 0
IsBytes bytes = (i : ℕ) → get_or bytes i 0 < 256

-- a reason that a field alone can have
abbrev pub IsFieldFault : PacketReason → Type 0
IsFieldFault Short = Unit {0}
IsFieldFault Long = ⊥
IsFieldFault Version = ⊥
IsFieldFault Kind = ⊥
IsFieldFault Field = Unit {0}

-- a value of which P holds, or the fault of a field
abbrev pub Yields : {A : Type 0} → (A → Type 0) → Result A PacketReason → Type 0
Yields P (Ok x) = P x
Yields P (Err e) = IsFieldFault e

-- x is a right value and the bytes after its text
pub record Took {A : Type 0} (text : A → List ℕ) (IsRight : A → Type 0) (bytes : List ℕ) (x : A × List ℕ) : Type 0 where
  pub parts : bytes ≡ text x.0 ++ x.1
  pub rest : IsBytes x.1
  pub right : IsRight x.0

pub then : {A B : Type 0} (P : A → Type 0) (Q : B → Type 0) (r : Result A PacketReason) (f : A → Result B PacketReason) → Yields P r → ((x : A) → P x → Yields Q (f x)) → Yields Q (r >>= f)
then P Q (Ok x) f h next = next x h
then P Q (Err e) f h next = h

pub when : {A : Type 0} (Q : A → Type 0) (b : Bool) (x y : Result A PacketReason) → (b ≡ true → Yields Q x) → (b ≡ false → Yields Q y) → Yields Q (cond b x y)
when Q true x y first second = first refl
when Q false x y first second = second refl

pub keeps : {A : Type 0} (Q : A → Type 0) (b : Bool) (x : A) → (b ≡ true → Q x) → Yields Q (ruled b x)
keeps Q true x right = right refl
keeps Q false x right = tt

pub weaker : {A : Type 0} (P Q : A → Type 0) (r : Result A PacketReason) → ((x : A) → P x → Q x) → Yields P r → Yields Q r
weaker P Q (Ok x) step h = step x h
weaker P Q (Err e) step h = h

-- a test between two fields
pub guarded : {A B : Type 0} (Q : B → Type 0) (b : Bool) (x : A) (f : A → Result B PacketReason) → (b ≡ true → Yields Q (f x)) → Yields Q (ruled b x >>= f)
guarded Q true x f next = next refl
guarded Q false x f next = tt
