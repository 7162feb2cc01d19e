-- Reading the line of a packet, word by word, as docs/DECK.md lists the kinds of packets under
-- 'Packets'. Nothing here is used to print.
use Rattle.std.specs.Prelude.{◌≢◌, ◌<◌, ◌^◌, ◌==◌, ℕ, Option, Some, None, List, [], ◌∷◌, codes, map}
use Rattle.std.specs.Prelude.{if◌then◌else◌}
use Rattle.std.specs.Str.Parse.{digits_value}
use Rattle.rp_output.specs.rp_base.specs.declared.action.Action.{Action}
use Rattle.rp_output.specs.rp_base.specs.declared.action.Action.TheVariants as actions
use Rattle.rp_output.specs.rp_codec.specs.declared.packet.Body.{Body}
use Rattle.rp_output.specs.rp_codec.specs.declared.packet.Body.TheVariants.{Call, Prepare, Promise}
use Rattle.rp_output.specs.rp_codec.specs.declared.packet.Body.TheVariants.{Accept}
use Rattle.rp_output.specs.rp_codec.specs.declared.packet.Body.TheVariants.{Accepted, Decided, Ask}
use Rattle.rp_output.specs.rp_codec.specs.declared.packet.Body.TheVariants.{Nack, Reply}
use Rattle.rp_output.specs.rp_codec.specs.declared.packet.Body.TheVariants.{Report, PrepareRange}
use Rattle.rp_output.specs.rp_codec.specs.declared.packet.Body.TheVariants.{PromiseRange}
use Rattle.rp_printed_texts.specs.Reading.{words_in}

-- the number of the packet, its sender and its receiver as they are named, its kind, and the numbers
-- that follow
pub record PacketRead : Type 0 where
  pub number : ℕ
  pub from : List ℕ
  pub to : List ℕ
  pub kind : List ℕ
  pub numbers : List ℕ

-- what is before the mark `>`, and what is after it
abbrev pub before_mark : List ℕ → List ℕ
before_mark [] = []
before_mark (byte ∷ rest) = if byte == 62 then [] else byte ∷ before_mark rest

abbrev pub after_mark : List ℕ → List ℕ
after_mark [] = []
after_mark (byte ∷ rest) = if byte == 62 then rest else after_mark rest

-- a word without its first letter
abbrev pub without_first : List ℕ → List ℕ
without_first [] = []
without_first (byte ∷ rest) = rest

abbrev pub packet_in : List (List ℕ) → Option PacketRead
packet_in (number ∷ parties ∷ kind ∷ rest) = Some (record {
  number = digits_value 10 (without_first number);
  from = before_mark parties;
  to = after_mark parties;
  kind = kind;
  numbers = map (digits_value 10) rest;
})
packet_in _ = None

-- what the line of a packet says, if anything
abbrev pub read_packet : List ℕ → Option PacketRead
read_packet text = packet_in (words_in text)

-- the number of a call
abbrev pub call_stated : Action → ℕ
call_stated (actions.Call task number object operation arg) = number
call_stated _ = 0

-- the kind of a packet, and the numbers that its line states
abbrev pub stated_of : Body → List ℕ × List ℕ
stated_of (Call action) = (codes "call", call_stated action ∷ [])
stated_of (Prepare position ballot) = (codes "prepare", position ∷ ballot ∷ [])
stated_of (Promise position ballot last) = (codes "promise", position ∷ ballot ∷ [])
stated_of (Nack position ballot bound) = (codes "nack", position ∷ ballot ∷ [])
stated_of (PrepareRange range ballot) =
    (codes "prepare_range", range.first ∷ range.count ∷ ballot ∷ [])
stated_of (PromiseRange range ballot votes) =
    (codes "promise_range", range.first ∷ range.count ∷ ballot ∷ [])
stated_of (Accept position ballot action) = (codes "accept", position ∷ ballot ∷ [])
stated_of (Accepted position ballot action) = (codes "accepted", position ∷ ballot ∷ [])
stated_of (Decided position action) = (codes "decided", position ∷ [])
stated_of (Ask position) = (codes "ask", position ∷ [])
stated_of (Reply number reply) = (codes "reply", number ∷ [])
stated_of (Report first applied actions) = (codes "report", first ∷ [])

-- each number has 64 bits
abbrev pub AreNumbers : List ℕ → Type 0
AreNumbers [] = Unit {0}
AreNumbers (number ∷ rest) = (number < 2 ^ 64) × AreNumbers rest

-- no byte of the text is a space or the mark `>`
abbrev pub IsPartyName : List ℕ → Type 0
IsPartyName [] = Unit {0}
IsPartyName (byte ∷ rest) = (byte ≢ 32) × (byte ≢ 62) × IsPartyName rest
