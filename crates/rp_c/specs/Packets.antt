-- What the calls on packets return.
use Rattle.std.specs.Prelude.{◌≡◌, ℕ, List, length, Err}
use Rattle.rp_script.specs.rp_base.specs.declared.fault.PacketReason.{PacketReason}
use Rattle.rp_requests.specs.rp_codec.specs.Decoding.{BeginsWithPacket, IsLongText}
use Rattle.rp_requests.specs.rp_codec.specs.Message.{Message, IsPacket}
use Rattle.rp_requests.specs.rp_codec.specs.Reading.{all_of}
use Rattle.rp_requests.specs.rp_codec.specs.Text.{IsTextBefore, IsTextOf, text_of}
use Rattle.rp_c.specs.Status.{reason_code}
use Rattle.rp_c.specs.declared.status.Status.{Status}
use Rattle.rp_c.specs.declared.status.Status.TheVariants.{Done, OutOfMemory, BadPacket, BadDeck, Io}
use Rattle.rp_c.specs.declared.status.Status.TheVariants.{ShortAnswer}

-- The bytes begin with a packet, whose length is written; or with none, and the length is as it
-- was.
abbrev pub PutsLength : List ℕ → ℕ → ℕ → Status → Type 0
PutsLength bytes old new Done =
    (p : Message) × (rest : List ℕ) × IsPacket p × IsTextBefore p rest bytes
    × (new ≡ length (text_of p))
PutsLength bytes old new BadPacket = (¬ BeginsWithPacket bytes) × (new ≡ old)
PutsLength bytes old new _ = ⊥

-- The bytes are the text of one packet; or they are none, for this reason; or memory ran out while
-- a report or a promise for a range was read.
abbrev pub ChecksPacket : List ℕ → ℕ → ℕ → Status → Type 0
ChecksPacket bytes old new Done = (p : Message) × IsPacket p × IsTextOf p bytes × (new ≡ old)
ChecksPacket bytes old new BadPacket =
    (reason : PacketReason) × (all_of bytes ≡ Err reason) × (new ≡ reason_code reason)
ChecksPacket bytes old new OutOfMemory = IsLongText bytes × (new ≡ old)
ChecksPacket bytes old new _ = ⊥
