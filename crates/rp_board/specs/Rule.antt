-- The rule of the table: between any two atomic steps there is one world that contains each seat's
-- view.
use Rattle.std.specs.Prelude.{◌≡◌, ◌≢◌, ◌↔◌, ℕ, zero, suc, ◌+◌, ◌%◌, ◌^◌, ◌<◌, ◌≤◌}
use Rattle.std.specs.Prelude.{Vec, Option, Some, IfSome, List, [], ◌∷◌, ◌++◌}
use Rattle.std.specs.Prelude.{length, map, slice_index}
use Rattle.std.specs.declared.alloc.Global.{Global}
use mathlib.Core.Option.{some}
use lib.ListN.{get_elem?}
use Rattle.atomic_table.specs.Table.{State}
use Rattle.rp_base.specs.Config.{IsRightConfig}
use Rattle.rp_base.specs.Sets.{Has, IsSet}
use Rattle.rp_codec.specs.Message.{Message, IsPacket}
use Rattle.rp_codec.specs.Text.{text_of}
use Rattle.rp_model.specs.Effect.{Setting}
use Rattle.rp_model.specs.Parts.{NodePart, TaskPart}
use Rattle.rp_agreement.specs.Answered.{IsKept}
use Rattle.rp_agreement.specs.Ranges.{IsRangedPart}
use Rattle.rp_board.specs.Parts.{Part, View, actor_of, box_of, from_actor, node_of, task_of, to_actor}

-- what a box holds: a packet's text, an empty buffer, or nothing
abbrev pub Slot : Type 0
Slot = Option (Vec ℕ Global)

-- it holds no packet: nothing, or an empty buffer
abbrev pub IsVacant : Slot → Type 0
IsVacant slot = IfSome slot (λ buffer. buffer.items ≡ [])

-- the node and the task of a number, by the parts of the actors
abbrev pub node_among : (ℕ → Part) → ℕ → NodePart
node_among parts x = node_of (parts x).role

abbrev pub task_among : (ℕ → Part) → ℕ → TaskPart
task_among parts t = task_of (parts (7 + t)).role

-- all packets that the first n actors sent
abbrev pub all_sent : (ℕ → Part) → ℕ → List Message
all_sent parts zero = []
all_sent parts (suc k) = all_sent parts k ++ (parts k).sent

-- the invariant of a world: that of agreement with the replies to tasks, and numbers within their
-- ranges
pub record IsGood {S : Type 0} (s : Setting S) (node : ℕ → NodePart) (task : ℕ → TaskPart)
    (sent : List Message) : Type 0 where
  pub kept : IsKept s node task sent
  pub ranged : (x : ℕ) → IsRangedPart (node x)
  pub packets : (m : Message) → Has m sent → IsPacket m

-- it holds of the parts of the actors and of all that they sent
abbrev pub IsGoodAt : {S : Type 0} → Setting S → (ℕ → Part) → Type 0
IsGoodAt s parts = IsGood s (node_among parts) (task_among parts) (all_sent parts 16)

-- the bytes are the text of the packet, which goes from one actor to another
pub record IsCarried (x y : ℕ) (bytes : List ℕ) (m : Message) : Type 0 where
  pub text : bytes ≡ text_of m
  pub packet : IsPacket m
  pub from : actor_of m.from ≡ x
  pub to : actor_of m.to ≡ y

-- The packets that x put for y are those that y got from x, in order, followed by these.
abbrev pub IsCarriedOver : ℕ → ℕ → Part → Part → List Message → Type 0
IsCarriedOver x y sender receiver inside =
    to_actor y sender.put ≡ from_actor x receiver.got ++ inside

-- The packets that y got from x are those that x put for y, in order: all of them, or all but the
-- last.
pub record IsGotInOrder (x y : ℕ) (sender receiver : Part) : Type 0 where
  pub inside : List Message
  pub one : length inside ≤ 1
  pub carried : IsCarriedOver x y sender receiver inside

-- The box from x to y: empty (0), being filled (1), full (2), or being emptied (3). An empty box
-- may hold a buffer, which its receiver left there for the sender. y got every packet that x put
-- for it, except the one in a full box.
pub record IsBox (parts : ℕ → Part) (x y word : ℕ) (home : Slot → Type 0) : Type 0 where
  pub empty : word ≡ 0 → (slot : Slot) × home slot × IsVacant slot
  pub filling : (word ≡ 1) ↔ Has (box_of x y) (parts x).fills
  pub full : word ≡ 2 → (m : Message) × (text : Vec ℕ Global) × home (Some text)
      × IsCarried x y text.items m × IsCarriedOver x y (parts x) (parts y) (m ∷ [])
  pub not_full : word ≢ 2 → IsCarriedOver x y (parts x) (parts y) []
  pub emptying : (word ≡ 3) ↔ Has (box_of x y) (parts y).takes

-- Each seat knows some of the actors with their parts. Each actor is known to exactly one seat.
pub record IsSeating (views : List View) (parts : ℕ → Part) (owner : ℕ → ℕ) : Type 0 where
  pub knows : (id : ℕ) (v : View) → get_elem? views id ≡ some v → (k : ℕ) (p : Part) → Has (k, p) v
      → (owner k ≡ id) × (parts k ≡ p) × (k < 16)
  pub apart : (id : ℕ) (v : View) → get_elem? views id ≡ some v → IsSet (map (λ known. known.0) v)
  pub seated : (k : ℕ) → k < 16 → (v : View) × (get_elem? views (owner k) ≡ some v)
      × Has (k, parts k) v

-- The parts of the actors, and all packets that they sent, are a world that satisfies the
-- invariant. Each packet that an actor sent names it as the sender, each packet that it put into a
-- box is one that it sent, and each packet that it got was sent, with this actor as its receiver.
pub record IsWorld {S : Type 0} (s : Setting S) (parts : ℕ → Part) : Type 0 where
  pub config : IsRightConfig s.config
  pub good : IsGoodAt s parts
  pub sends : (k : ℕ) → k < 16 → (m : Message) → Has m (parts k).sent → actor_of m.from ≡ k
  pub puts : (k : ℕ) → k < 16 → (m : Message) → Has m (parts k).put → Has m (parts k).sent
  pub gets : (k : ℕ) → k < 16 → (m : Message) → Has m (parts k).got → (actor_of m.to ≡ k)
      × Has m (all_sent parts 16)

-- The parts that the seats know are a world. An actor's word is the number of its events modulo
-- 2^64.
pub record Ruled {S : Type 0} (s : Setting S) (t : State Slot View) : Type 0 where
  pub parts : ℕ → Part
  pub owner : ℕ → ℕ
  pub world : IsWorld s parts
  pub long : length t.words ≡ 272
  pub seating : IsSeating t.views parts owner
  pub counted : (k : ℕ) → k < 16 → slice_index t.words (256 + k) ≡ (parts k).events % 2 ^ 64
  pub boxes : (x y : ℕ) → x < 16 → y < 16
      → IsBox parts x y (slice_index t.words (box_of x y))
      (λ slot. get_elem? t.homes (box_of x y) ≡ some (some slot))

-- all packets that an actor sent or got are right, with it as the sender or the receiver, and it
-- sent what it put into boxes
pub record HasOwnPackets (k : ℕ) (p : Part) : Type 0 where
  pub sent : (m : Message) → Has m p.sent → IsPacket m × (actor_of m.from ≡ k)
  pub put : (m : Message) → Has m p.put → Has m p.sent
  pub got : (m : Message) → Has m p.got → IsPacket m × (actor_of m.to ≡ k)
