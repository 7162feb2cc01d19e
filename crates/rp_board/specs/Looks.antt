-- What a seat learns from a look at the table.
use Rattle.std.specs.Prelude.{◌≡◌, ℕ, ◌<◌, List, [], ◌∷◌}
use Rattle.rp_base.specs.Sets.{Has}
use Rattle.rp_base.specs.declared.action.Action.{Action}
use Rattle.rp_base.specs.declared.reply.Answer.{Answer}
use Rattle.rp_codec.specs.Message.{Message}
use Rattle.rp_codec.specs.Text.{text_of}
use Rattle.rp_codec.specs.declared.packet.Party.{Party}
use Rattle.rp_model.specs.Effect.{Setting}
use Rattle.rp_board.specs.Parts.{Part, View, actor_of}
use Rattle.rp_board.specs.Rule.{IsGotInOrder, IsWorld}
use Rattle.rp_board.specs.Seats.{SeatState, setting_at}

-- A world that satisfies the rule and contains a view.
pub record IsWorldOf {S : Type 0} (s : Setting S) (view : View) (parts : ℕ → Part) : Type 0 where
  pub is : IsWorld s parts
  pub knows : (k : ℕ) (p : Part) → Has (k, p) view → (parts k ≡ p) × (k < 16)
  pub carries : (x y : ℕ) → x < 16 → y < 16 → IsGotInOrder x y (parts x) (parts y)

-- there is such a world
abbrev pub HasWorld : {S : Type 0} → Setting S → View → Type 0
HasWorld s view = (parts : ℕ → Part) × IsWorldOf s view parts

-- There is a world that satisfies the rule, contains what the seat of one party knows, and in which
-- the other party has sent the packet with this text.
pub record WasSent {S P : Type 0} (next : S → Action → S) (answers : S → Action → List Answer)
    (begin : P → S) (from to : Party) (bytes : List ℕ) (seat : SeatState P) : Type 0 where
  pub parts : ℕ → Part
  pub world : IsWorldOf (setting_at next answers begin seat) ((actor_of to, seat.part) ∷ []) parts
  pub packet : Message
  pub text : bytes ≡ text_of packet
  pub sent : Has packet (parts (actor_of from)).sent
