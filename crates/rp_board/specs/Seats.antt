-- How contracts see a seat, and the results of its calls.
use Rattle.std.specs.Prelude.{◌≡◌, ℕ, ◌<◌, List, []}
use Rattle.atomic_table.specs.Seated.{TableId}
use Rattle.rp_base.specs.Sets.{Has}
use Rattle.rp_base.specs.declared.action.Action.{Action}
use Rattle.rp_base.specs.declared.config.Config.{Config}
use Rattle.rp_base.specs.declared.reply.Answer.{Answer}
use Rattle.rp_codec.specs.Message.{Message, IsPacket}
use Rattle.rp_codec.specs.Text.{text_of}
use Rattle.rp_codec.specs.declared.packet.Party.{Party}
use Rattle.rp_model.specs.Effect.{Setting}
use Rattle.rp_model.specs.rp_machine.specs.declared.machine.Machine.{Ghosts}
use Rattle.rp_agreement.specs.Answered.{setting_for}
use Rattle.rp_board.specs.declared.board.Setup.{Setup}
use Rattle.rp_board.specs.Parts.{Part, part_in, with_put, with_got}
use Rattle.rp_board.specs.Rule.{HasOwnPackets}
use Rattle.rp_board.specs.Plays.{Sight, IsSized, alone}

-- What never changes at a seat: its table, what all nodes of that table share, and the number of the
-- seat's node or task (0 for the audit).
pub record SeatSetup (P : Type 0) : Type 0 where
  pub table : TableId
  pub config : Config
  pub program : P
  pub number : ℕ

-- The seat's setup, how many calls of its device have failed (0 if it has none), and what the seat
-- knows of its actor.
pub record SeatState (P : Type 0) : Type 0 where
  pub setup : SeatSetup P
  pub failures : ℕ
  pub part : Part

-- what the nodes at a table share, from its setup
abbrev pub table_setting : {S P : Type 0} → Ghosts S P → Setup S P → Setting S
table_setting machine setup =
    setting_for machine.next machine.answers machine.begin setup.config setup.program.value

-- what the nodes at a seat's table share, from the seat's state
abbrev pub setting_at : {S P : Type 0} → (S → Action → S) → (S → Action → List Answer) → (P → S)
    → SeatState P → Setting S
setting_at next answers begin seat_state =
    setting_for next answers begin seat_state.setup.config seat_state.setup.program

-- The place of a seat that knows one actor and holds no box.
pub record IsAtTable (table mine : TableId) (actor : ℕ) (me : Sight) : Type 0 where
  pub same : mine ≡ table
  pub sized : IsSized table
  pub small : actor < 16
  pub place : me ≡ alone actor (part_in me.0)
  pub fills : (part_in me.0).fills ≡ []
  pub takes : (part_in me.0).takes ≡ []
  pub own : HasOwnPackets actor (part_in me.0)

-- An event of the seat's party happened, and this fact holds of its part.
pub record IsNoted {P : Type 0} (says : Part → Type 0) (old new : SeatState P) : Type 0 where
  pub after : new ≡ record old { part = new.part }
  pub picked : says new.part

-- ---- packets

-- the bytes are the text of a packet that the actor sent
abbrev pub IsSentText : Part → List ℕ → Type 0
IsSentText part bytes = (m : Message) × Has m part.sent × (bytes ≡ text_of m)

-- the bytes are the text of a packet that the actor got
abbrev pub IsGotText : Part → List ℕ → Type 0
IsGotText part bytes = (m : Message) × Has m part.got × (bytes ≡ text_of m)

-- The packet with this text went into its box.
pub record IsPut {P : Type 0} (bytes : List ℕ) (old new : SeatState P) : Type 0 where
  pub packet : Message
  pub right : IsPacket packet
  pub text : bytes ≡ text_of packet
  pub after : new ≡ record old { part = with_put packet old.part }

-- A packet from one party to another was taken out of their box, and its receiver got it; these
-- bytes are its text.
pub record IsFetched {P : Type 0} (from to : Party) (bytes : List ℕ) (old new : SeatState P)
    : Type 0 where
  pub packet : Message
  pub right : IsPacket packet
  pub text : bytes ≡ text_of packet
  pub sender : packet.from ≡ from
  pub receiver : packet.to ≡ to
  pub after : new ≡ record old { part = with_got packet old.part }
