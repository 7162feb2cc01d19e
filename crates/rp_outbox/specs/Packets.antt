-- Packets that are sent, as memory holds them: their texts in one run of bytes, and the place where
-- each ends.
use Rattle.std.specs.Prelude.{◌≡◌, ℕ, zero, suc, ◌+◌, Ok, Err, List, [], ◌∷◌, ◌++◌, length}
use Rattle.std.specs.List.{AllByRecursion}
use Rattle.rp_model.specs.rp_codec.specs.Message.{Message, IsPacket}
use Rattle.rp_model.specs.rp_codec.specs.Reading.{Read, packet_at}
use Rattle.rp_model.specs.rp_codec.specs.Text.{text_of}

-- the texts of the packets, joined in order
abbrev pub texts_of : List Message → List ℕ
texts_of [] = []
texts_of (m ∷ rest) = text_of m ++ texts_of rest

-- where the text of each packet ends, if the first begins here
abbrev pub ends_of : ℕ → List Message → List ℕ
ends_of from [] = []
ends_of from (m ∷ rest) = (from + length (text_of m)) ∷ ends_of (from + length (text_of m)) rest

-- a packet that was read, and those read after it
abbrev pub with_rest : Read Message → (List ℕ → List Message) → List Message
with_rest (Ok read) others = read.0 ∷ others read.1
with_rest (Err reason) others = []

-- n packets, read from the front of the bytes
abbrev pub packets_in : ℕ → List ℕ → List Message
packets_in zero bytes = []
packets_in (suc count) bytes = with_rest (packet_at bytes) (λ rest. packets_in count rest)

-- the bytes are the text of this packet
abbrev pub IsTextOf : List ℕ → Message → Type 0
IsTextOf bytes m = IsPacket m × (bytes ≡ text_of m)

-- the bytes are the texts of n packets, joined
pub record AreTexts (bytes : List ℕ) (count : ℕ) : Type 0 where
  pub packets : List Message
  pub each : AllByRecursion IsPacket packets
  pub texts : bytes ≡ texts_of packets
  pub counted : count ≡ length packets

-- the bytes are the texts of packets, and these are the places where they end
pub record IsRun (bytes ends : List ℕ) : Type 0 where
  pub texts : AreTexts bytes (length ends)
  pub ends_are : ends ≡ ends_of 0 (packets_in (length ends) bytes)

-- Packets that are sent, in order; for how many bytes of packets that take no memory there is room,
-- and for how many of one more packet.
pub record Sending : Type 0 where
  pub sent : List Message
  pub room : ℕ
  pub room_for_one : ℕ

-- how many bytes the text of a packet has at most, if it takes no memory
abbrev pub longest_text : ℕ
longest_text = 40
