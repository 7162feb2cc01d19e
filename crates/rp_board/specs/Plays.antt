-- What a seat that knows one actor learns from one atomic step.
use Rattle.std.specs.Prelude.{◌≡◌, ◌≢◌, ℕ, ◌<◌, Vec, Some, List, [], ◌∷◌}
use Rattle.std.specs.declared.alloc.Global.{Global}
use Rattle.atomic_table.specs.Table.{Me, rest}
use Rattle.atomic_table.specs.Seated.{TableId}
use Rattle.rp_base.specs.Sets.{Has}
use Rattle.rp_codec.specs.Message.{Message}
use Rattle.rp_board.specs.Parts.{Part, View, actor_in, box_of, on_first, filling, emptying, emptied, part_in, with_put}
use Rattle.rp_board.specs.Rule.{Slot, IsCarried, IsVacant, HasOwnPackets}

-- what a seat knows, and the slots that it has taken out
abbrev pub Sight : Type 0
Sight = Me Slot View

-- the seat knows the part of this actor, and nothing is taken out
abbrev pub alone : ℕ → Part → Sight
alone k p = ((k, p) ∷ [], [])

-- the seat knows this part, and has the box out with what is in it
abbrev pub holding : ℕ → Part → ℕ → Slot → Sight
holding k p b slot = ((k, p) ∷ [], (b, slot) ∷ [])

-- the table has a word for each box and actor, and a slot for each box
abbrev pub IsSized : TableId → Type 0
IsSized table = (table.words ≡ 272) × (table.slots ≡ 256)

-- An empty box is claimed with its slot; any other box is left as it is.
pub record Claimed (b : ℕ) (old : Sight) (found : ℕ) (new : Sight) : Type 0 where
  pub hit : found ≡ 0 → (slot : Slot) × IsVacant slot
      × (new ≡ (on_first (filling b) old.0, (b, slot) ∷ old.1))
  pub miss : found ≢ 0 → new ≡ old

-- The packet was in the box, from one actor to the other, and its text is taken out.
pub record IsTakenOut (b : ℕ) (old new : Sight) : Type 0 where
  pub from : ℕ
  pub to : ℕ
  pub less : (from < 16) × (to < 16)
  pub box : b ≡ box_of from to
  pub packet : Message
  pub text : Vec ℕ Global
  pub carried : IsCarried from to text.items packet
  pub is : new ≡ (on_first (emptying b packet) old.0, (b, Some text) ∷ old.1)

-- A full box is claimed by its receiver; any other box is left as it is.
pub record Took (b : ℕ) (old : Sight) (found : ℕ) (new : Sight) : Type 0 where
  pub hit : found ≡ 2 → IsTakenOut b old new
  pub miss : found ≢ 2 → new ≡ old

-- The box that was filled is released with its slot, and this fact holds of its sender's part.
pub record IsPublished (says : Part → Type 0) (k : ℕ) (old new : Sight) : Type 0 where
  pub part : Part
  pub is : new ≡ ((k, part) ∷ [], rest old.1)
  pub picked : says part

-- A packet that the actor sent, from it to another and of this text, is put.
pub record IsPutBy (from to : ℕ) (bytes : List ℕ) (old new : Part) : Type 0 where
  pub packet : Message
  pub sent : Has packet old.sent
  pub carried : IsCarried from to bytes packet
  pub is : new ≡ with_put packet old

-- the box that was emptied is released with its slot
abbrev pub Cleared : Sight → Sight → Type 0
Cleared old new = new ≡ (on_first emptied old.0, rest old.1)

-- An event of the first actor of this view happened, which holds the boxes that it held, and this
-- fact holds of its part.
pub record IsEventNoted (says : Part → Type 0) (old : View) (new : Sight) : Type 0 where
  pub part : Part
  pub is : new ≡ alone (actor_in old) part
  pub fills : part.fills ≡ (part_in old).fills
  pub takes : part.takes ≡ (part_in old).takes
  pub own : HasOwnPackets (actor_in old) part
  pub picked : says part
