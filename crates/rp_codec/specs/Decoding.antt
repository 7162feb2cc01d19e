-- What bytes are read as: the packet of which they are a text, all of them, or why there is none.
use Rattle.std.specs.Prelude.{◌≡◌, ◌≢◌, ◌↔◌, ℕ, List, [], ◌∷◌, Result, Ok, Err, IfOk}
use Rattle.rp_base.specs.declared.fault.PacketReason.{PacketReason}
use Rattle.rp_base.specs.declared.fault.PacketReason.TheVariants.{Long, Version as UnknownVersion}
use Rattle.rp_base.specs.declared.fault.PacketReason.TheVariants.{Kind as UnknownKind}
use Rattle.rp_codec.specs.declared.packet.Body.{Body}
use Rattle.rp_codec.specs.declared.packet.Body.TheVariants.{Report, PromiseRange}
use Rattle.rp_codec.specs.Message.{Message, IsPacket}
use Rattle.rp_codec.specs.declared.version.Version.{Version}
use Rattle.rp_codec.specs.Version.{version_number}
use Rattle.rp_codec.specs.Text.{IsTextOf, IsTextBefore}
use Rattle.rp_codec.specs.Kind.{IsKind}
use Rattle.rp_codec.specs.Reading.{all_of}

-- a first byte that is neither 1 nor 2
abbrev pub HasOtherVersion : List ℕ → Type 0
HasOtherVersion bytes = (n : ℕ) × (rest : List ℕ) × (n ≢ 1) × (n ≢ 2) × (bytes ≡ n ∷ rest)

-- a version, and then a byte that is no kind
abbrev pub HasNoKind : List ℕ → Type 0
HasNoKind bytes =
    (version : Version) × (n : ℕ) × (rest : List ℕ) × (¬ IsKind n)
    × (bytes ≡ version_number version ∷ n ∷ rest)

-- a packet's text, and one byte or more
abbrev pub IsTooLong : List ℕ → Type 0
IsTooLong bytes = (p : Message) × (rest : List ℕ) × IsPacket p × (rest ≢ [])
    × IsTextBefore p rest bytes

-- what is read has this text, of one version or the other, what has it is read, and a refusal has
-- its one reason
pub record IsDecoded (bytes : List ℕ) (answer : Result Message PacketReason) : Type 0 where
  pub found : IfOk answer (λ p. IsPacket p × IsTextOf p bytes)
  pub only : (p : Message) → IsPacket p → IsTextOf p bytes → answer ≡ Ok p
  -- the first fault from left to right
  pub exact : answer ≡ all_of bytes
  pub long : (answer ≡ Err Long) ↔ IsTooLong bytes
  pub version : (answer ≡ Err UnknownVersion) ↔ HasOtherVersion bytes
  pub kind : (answer ≡ Err UnknownKind) ↔ HasNoKind bytes

-- bytes that begin with a packet's text
abbrev pub BeginsWithPacket : List ℕ → Type 0
BeginsWithPacket bytes = (p : Message) × (rest : List ℕ) × IsPacket p × IsTextBefore p rest bytes

-- a body that takes memory: a report, or a promise for a range
abbrev pub IsLongBody : Body → Type 0
IsLongBody (Report first applied actions) = Unit {0}
IsLongBody (PromiseRange range ballot votes) = Unit {0}
IsLongBody _ = ⊥

-- bytes that are the text of such a packet
abbrev pub IsLongText : List ℕ → Type 0
IsLongText bytes = (p : Message) × IsPacket p × IsLongBody p.body × IsTextOf p bytes
