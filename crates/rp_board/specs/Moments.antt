-- What a seat learns about the table from a step at a box, at the moment of the step.
use Rattle.std.specs.Prelude.{◌≡◌, ◌≢◌, ℕ, ◌<◌, Vec, Some, List, [], ◌∷◌, slice_index}
use Rattle.std.specs.declared.alloc.Global.{Global}
use mathlib.Core.Option.{some}
use lib.ListN.{get_elem?}
use Rattle.atomic_table.specs.Table.{State}
use Rattle.atomic_table.specs.Seated.{TableId}
use Rattle.rp_base.specs.declared.action.Action.{Action}
use Rattle.rp_base.specs.declared.reply.Answer.{Answer}
use Rattle.rp_codec.specs.Message.{Message}
use Rattle.rp_codec.specs.Text.{text_of}
use Rattle.rp_codec.specs.declared.packet.Party.{Party}
use Rattle.rp_model.specs.Effect.{Setting}
use Rattle.rp_board.specs.Parts.{Part, View, actor_of, box_of, part_in}
use Rattle.rp_board.specs.Plays.{Sight, IsSized, alone}
use Rattle.rp_board.specs.Rule.{Slot, Ruled}
use Rattle.rp_board.specs.Seats.{SeatState, setting_at}

-- The table at a moment: it satisfies the rule, and this view is that of one of its seats.
pub record IsMoment {S : Type 0} (s : Setting S) (view : View) (table : State Slot View)
    : Type 0 where
  pub rule : Ruled s table
  pub seat : ℕ
  pub sees : get_elem? table.views seat ≡ some view

-- The seat of an actor may try to claim the box from one actor to another: it holds no box of this
-- kind, and if the word of the box differs from this one, this fact holds of the part that it
-- knows.
pub record MayClaim {S : Type 0} (s : Setting S) (table mine : TableId) (actor from to : ℕ)
    (me : Sight) (holds : Part → List ℕ) (word : ℕ) (says : Part → Type 0) : Type 0 where
  pub same : mine ≡ table
  pub sized : IsSized table
  pub less : (from < 16) × (to < 16)
  pub place : me ≡ alone actor (part_in me.0)
  pub free : holds (part_in me.0) ≡ []
  pub follows : (t : State Slot View) → IsMoment s me.0 t
      → slice_index t.words (box_of from to) ≢ word → says (part_in me.0)

-- At a moment when a seat had this view, the word of a box satisfied this.
pub record WasWord {S : Type 0} (s : Setting S) (view : View) (b : ℕ) (is : ℕ → Type 0)
    : Type 0 where
  pub table : State Slot View
  pub moment : IsMoment s view table
  pub word : is (slice_index table.words b)

-- At a moment when a seat had this view, a box was full and held these bytes.
pub record WasFull {S : Type 0} (s : Setting S) (view : View) (b : ℕ) (bytes : List ℕ)
    : Type 0 where
  pub table : State Slot View
  pub moment : IsMoment s view table
  pub full : slice_index table.words b ≡ 2
  pub text : Vec ℕ Global
  pub inside : get_elem? table.homes b ≡ some (some (Some text))
  pub is : text.items ≡ bytes

module _ {S P : Type 0} (next : S → Action → S) (answers : S → Action → List Answer)
    (begin : P → S) where
  -- The packet with this text was in the box from the seat's party to its receiver.
  pub record WasPut (from : Party) (bytes : List ℕ) (seat : SeatState P) : Type 0 where
    pub packet : Message
    pub text : bytes ≡ text_of packet
    pub box : WasFull (setting_at next answers begin seat) ((actor_of from, seat.part) ∷ [])
        (box_of (actor_of from) (actor_of packet.to)) bytes

  -- The box from the seat's party to the receiver of the packet with this text was not empty.
  pub record WasInUse (from : Party) (bytes : List ℕ) (seat : SeatState P) : Type 0 where
    pub packet : Message
    pub text : bytes ≡ text_of packet
    pub box : WasWord (setting_at next answers begin seat) ((actor_of from, seat.part) ∷ [])
        (box_of (actor_of from) (actor_of packet.to)) (λ word. word ≢ 0)

  -- The box from a party to the seat's party was not full.
  abbrev pub WasNotFull : Party → Party → SeatState P → Type 0
  WasNotFull from to seat =
      WasWord (setting_at next answers begin seat) ((actor_of to, seat.part) ∷ [])
      (box_of (actor_of from) (actor_of to)) (λ word. word ≢ 2)
