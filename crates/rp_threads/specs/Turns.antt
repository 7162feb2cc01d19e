-- The result of a turn of a node.
use Rattle.std.specs.Prelude.{◌≡◌, ◌⊎◌, ℕ, ◌+◌, ◌≤◌, Bool, true, false, Option, Some, None, List, []}
use Rattle.std.specs.Prelude.{◌∷◌, ◌++◌, length, if◌then◌else◌}
use Rattle.rp_base.specs.declared.action.Action.{Action}
use Rattle.rp_base.specs.declared.fault.Fault.{Fault}
use Rattle.rp_base.specs.declared.fault.Fault.TheVariants.{OutOfMemory}
use Rattle.rp_base.specs.declared.reply.Answer.{Answer}
use Rattle.rp_base.specs.Sets.{Has}
use Rattle.rp_codec.specs.Message.{Message}
use Rattle.rp_codec.specs.Text.{text_of}
use Rattle.rp_codec.specs.declared.packet.Party.{Party}
use Rattle.rp_codec.specs.declared.packet.Party.TheVariants.{Node}
use Rattle.rp_replica.specs.rp_outbox.specs.Packets.{texts_of}
use Rattle.rp_replica.specs.rp_rules.specs.declared.input.Input.{Input}
use Rattle.rp_replica.specs.rp_rules.specs.declared.input.Input.TheVariants.{Receive, Lead}
use Rattle.rp_replica.specs.rp_rules.specs.declared.input.Input.TheVariants.{LeadRange, Interrupt}
use Rattle.rp_replica.specs.rp_rules.specs.declared.input.Input.TheVariants.{Tick, Report, Ask}
use Rattle.rp_replica.specs.declared.sent.Sent.{Sent}
use Rattle.rp_tasks.specs.Line.{Line}
use Rattle.rp_board.specs.Moments.{WasPut, WasInUse, WasNotFull}
use Rattle.rp_board.specs.Parts.{Part}
use Rattle.rp_board.specs.Seats.{SeatState, IsFetched, IsPut}
use Rattle.rp_boxes.specs.NodeSeats.{IsTurn, IsCutTurn, IsNoTurn}
use Rattle.rp_threads.specs.Lines.{line_with, given_on, line_after}
use Rattle.rp_threads.specs.declared.sends.Fate.{Fate}
use Rattle.rp_threads.specs.declared.sends.Fate.TheVariants.{Put, InUse, NoMemory}
use Rattle.rp_threads.specs.declared.turns.Turn.{Turn}
use Rattle.rp_threads.specs.declared.turns.Turn.TheVariants.{Received, Led, Idle}
use Rattle.rp_threads.specs.declared.turns.PacketCounts.{PacketCounts}
use Rattle.rp_threads.specs.declared.turns.TurnResult.{TurnResult}

-- ---- what arrives

module _ {S P : Type 0} (next : S → Action → S) (answers : S → Action → List Answer)
    (begin : P → S) where
  -- a packet with this text was fetched; or none was, and the box was not full
  abbrev pub MayFetch : Option (List ℕ) → Party → Party → SeatState P → SeatState P → Type 0
  MayFetch None from to old new = (new ≡ old) × WasNotFull next answers begin from to new
  MayFetch (Some text) from to old new = IsFetched from to text old new

  -- The link took the packet that was fetched, if one was.
  pub record IsBrought (from to : Party) (old new : SeatState P) (line after : Line) : Type 0 where
    pub fetched : Option (List ℕ)
    pub fetch : MayFetch fetched from to old new
    pub takes : after ≡ line_with fetched line

-- A packet was fetched, and the link was out of memory for it: the packet is lost, and the link
-- does not change.
pub record IsLost {P : Type 0} (from to : Party) (old new : SeatState P) (line after : Line)
    (fault : Fault) : Type 0 where
  pub packet : List ℕ
  pub fetch : IsFetched from to packet old new
  pub memory : fault ≡ OutOfMemory
  pub stays : after ≡ line

-- ---- what is done

-- nothing was sent
abbrev pub no_packets : PacketCounts
no_packets = record { sent = 0; lost = 0; uncopied = 0 }

-- the node receives the packet that the link passes on; if there is none, it leads if it is to
abbrev pub turn_of : Option (List ℕ) → Bool → Turn
turn_of (Some text) lead = Received
turn_of None true = Led
turn_of None false = Idle

-- the input is a packet with this text
abbrev pub IsReceipt : List ℕ → Input → Type 0
IsReceipt text (Receive bytes) = bytes.now ≡ text
IsReceipt text (Lead choice) = ⊥
IsReceipt text (LeadRange range) = ⊥
IsReceipt text (Interrupt source occurrence) = ⊥
IsReceipt text (Tick now) = ⊥
IsReceipt text (Report first) = ⊥
IsReceipt text (Ask to) = ⊥

-- the input is the command to lead at the least position that is free for it
abbrev pub IsLead : Input → Type 0
IsLead input = input ≡ Lead None

-- The bytes are the texts of packets that the actor sent, one after the other.
pub record AreSentTexts (part : Part) (bytes : List ℕ) : Type 0 where
  pub packets : List Message
  pub texts : bytes ≡ texts_of packets
  pub sent : (m : Message) → Has m packets → Has m part.sent

-- These are the packets that a step returned, all of which the actor sent.
pub record AreGivenOut (part : Part) (sent : Sent) (packets : List Message) : Type 0 where
  pub texts : sent.bytes.items ≡ texts_of packets
  pub count : sent.packets ≡ length packets
  pub sent_all : (m : Message) → Has m packets → Has m part.sent

-- the actor sent all packets that a step returned
abbrev pub AreSent : Part → Sent → Type 0
AreSent part sent = (packets : List Message) × AreGivenOut part sent packets

-- ---- what becomes of a packet

-- it is lost: it did not go into its box
abbrev pub is_lost : Fate → Bool
is_lost Put = false
is_lost InUse = true
is_lost NoMemory = true

-- it is lost because there was no memory for a copy of it
abbrev pub is_uncopied : Fate → Bool
is_uncopied Put = false
is_uncopied InUse = false
is_uncopied NoMemory = true

-- how many packets that is, of one
abbrev pub one_if : Bool → ℕ
one_if holds = if holds then 1 else 0

module _ {S P : Type 0} (next : S → Action → S) (answers : S → Action → List Answer)
    (begin : P → S) where
  -- the packet with this text went from the seat of a party into its box; or that box was in use,
  -- and the packet is lost, which changes nothing at the seat
  abbrev pub IsOfferedToBox : Party → List ℕ → SeatState P → SeatState P → Bool → Type 0
  IsOfferedToBox from text old new false = IsPut text old new × WasPut next answers begin from text new
  IsOfferedToBox from text old new true = (new ≡ old) × WasInUse next answers begin from text new

  -- what became of the packet with this text: it went into its box or found that in use, or there
  -- was no memory for a copy of it, which changes nothing at the seat
  abbrev pub HasFate : Party → List ℕ → SeatState P → SeatState P → Fate → Type 0
  HasFate from text old new Put = IsOfferedToBox from text old new false
  HasFate from text old new InUse = IsOfferedToBox from text old new true
  HasFate from text old new NoMemory = new ≡ old

  -- each of these packets had its fate, one after the other; n of them are lost, and m of these had
  -- no memory for a copy
  abbrev pub AreOffered : Party → List Message → SeatState P → SeatState P → ℕ → ℕ → Type 0
  AreOffered from [] old new lost uncopied = (new ≡ old) × (lost ≡ 0) × (uncopied ≡ 0)
  AreOffered from (m ∷ others) old new lost uncopied =
      (fate : Fate) × (more : ℕ) × (without : ℕ) × (between : SeatState P)
      × HasFate from (text_of m) old between fate × AreOffered from others between new more without
      × (lost ≡ one_if (is_lost fate) + more) × (uncopied ≡ one_if (is_uncopied fate) + without)

  -- The bytes are the texts of packets that the party sent; each of these had its fate, and n are
  -- lost, m of them without a copy.
  pub record AreTextsOffered (from : Party) (bytes : List ℕ) (old new : SeatState P)
      (lost uncopied : ℕ) : Type 0 where
    pub are : AreSentTexts old.part bytes
    pub offered : AreOffered from are.packets old new lost uncopied

  -- each packet that a step returned had its fate
  abbrev pub IsAllOffered : Party → Sent → SeatState P → SeatState P → ℕ → ℕ → Type 0
  IsAllOffered from sent old new lost uncopied =
      (packets : List Message) → AreGivenOut old.part sent packets
      → AreOffered from packets old new lost uncopied

  -- One event, with such an input; then each of its packets went into its box, found that in use,
  -- or had no memory for a copy, and the counts say how many were sent and how many of these are
  -- lost. A single packet is put as it is, so it needs no copy.
  pub record IsEventBy (Is : Input → Type 0) (old new : SeatState P) (packets : PacketCounts)
      : Type 0 where
    pub input : Input
    pub is : Is input
    pub stepped : SeatState P
    pub sent : Sent
    pub turn : IsTurn next answers begin old input stepped sent
    pub stated : packets.sent ≡ sent.packets
    pub offered : AreOffered (Node stepped.setup.number) turn.done.sends stepped new packets.lost
        packets.uncopied
    pub alone : packets.sent ≤ 1 → packets.uncopied ≡ 0

  -- The step with such an input was cut, or was no event.
  pub record IsStopBy (Is : Input → Type 0) (old new : SeatState P) (fault : Fault) : Type 0 where
    pub input : Input
    pub is : Is input
    pub why : IsCutTurn next answers begin old input new fault
        ⊎ IsNoTurn next answers begin old input new fault

  -- the effect of the turn on the seat, by what the link passes on and whether the node is to lead
  abbrev pub Works : Option (List ℕ) → Bool → SeatState P → SeatState P → PacketCounts → Type 0
  Works (Some text) lead old new packets = IsEventBy (IsReceipt text) old new packets
  Works None true old new packets = IsEventBy IsLead old new packets
  Works None false old new packets = (new ≡ old) × (packets ≡ no_packets)

  -- how it fails
  abbrev pub Fails : Option (List ℕ) → Bool → SeatState P → SeatState P → Fault → Type 0
  Fails (Some text) lead old new fault = IsStopBy (IsReceipt text) old new fault
  Fails None true old new fault = IsStopBy IsLead old new fault
  Fails None false old new fault = ⊥

  -- One event or none: the link takes what is fetched, and the node receives what the link then
  -- passes on. If the link is empty, the node leads if it is to, and idles otherwise.
  pub record IsNodeTurn (from : Party) (lead : Bool) (old new : SeatState P) (line after : Line)
      (turned : TurnResult) : Type 0 where
    pub between : SeatState P
    pub full : Line
    pub brought : IsBrought next answers begin from (Node old.setup.number) old between line full
    pub turn : turned.turn ≡ turn_of (given_on full) lead
    pub works : Works (given_on full) lead between new turned.packets
    pub gives : after ≡ line_after full

  -- The step after that was cut, or was no event; the packet that the link passed on is lost.
  pub record IsStoppedTurn (from : Party) (lead : Bool) (old new : SeatState P)
      (line after : Line) (fault : Fault) : Type 0 where
    pub between : SeatState P
    pub full : Line
    pub brought : IsBrought next answers begin from (Node old.setup.number) old between line full
    pub fails : Fails (given_on full) lead between new fault
    pub gives : after ≡ line_after full
