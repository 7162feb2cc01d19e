-- What a seat knows of an actor, and the numbers of actors and boxes at the table.
--
-- | Actor          | Its number | Its word |
-- | the audit      | 0          | 256      |
-- | node n, 1 to 7 | n          | 256 + n  |
-- | task t, 1 to 8 | 7 + t      | 263 + t  |
--
-- The box from actor x to actor y has the word and the slot 16 x + y.
use Rattle.std.specs.Prelude.{ℕ, zero, suc, ◌+◌, ◌*◌, List, [], ◌∷◌, ◌++◌, filter, nat_eq, nat_lt}
use Rattle.std.specs.Prelude.{if◌then◌else◌}
use Rattle.rp_codec.specs.Message.{Message}
use Rattle.rp_codec.specs.declared.packet.Party.{Party}
use Rattle.rp_codec.specs.declared.packet.Party.TheVariants.{Node, Task, Audit}
use Rattle.rp_model.specs.Parts.{NodePart, TaskPart, fresh_node, fresh_task}

-- the number of an actor
abbrev pub actor_of : Party → ℕ
actor_of (Node n) = n
actor_of (Task t) = 7 + t
actor_of Audit = 0

-- the box from one actor to another
abbrev pub box_of : ℕ → ℕ → ℕ
box_of x y = 16 * x + y

-- the state of an actor in a world: a node's or a task's. The audit has none
pub data Role : Type 0 where
  OfNode : NodePart → Role
  OfTask : TaskPart → Role
  OfAudit : Role

-- What is known of an actor: its state in a world, the number of its events, the packets that it
-- sent, those that it put into boxes and those that it got, and the boxes that it holds while it
-- fills or empties them.
pub record Part : Type 0 where
  pub role : Role
  pub events : ℕ
  pub sent : List Message
  pub put : List Message
  pub got : List Message
  pub fills : List ℕ
  pub takes : List ℕ

-- what a seat knows: some actors, each by its number, with their parts
abbrev pub View : Type 0
View = List (ℕ × Part)

-- the node's part, a fresh one if the actor is no node
abbrev pub node_of : Role → NodePart
node_of (OfNode part) = part
node_of (OfTask part) = fresh_node
node_of OfAudit = fresh_node

-- the task's part, a fresh one if the actor is no task
abbrev pub task_of : Role → TaskPart
task_of (OfNode part) = fresh_task
task_of (OfTask part) = part
task_of OfAudit = fresh_task

-- an actor that did nothing
abbrev pub fresh_part : Role → Part
fresh_part role =
    record { role = role; events = 0; sent = []; put = []; got = []; fills = []; takes = [] }

-- the initial state of the actor with this number
abbrev pub first_role : ℕ → Role
first_role k =
    if nat_eq k 0 then OfAudit else if nat_lt k 8 then OfNode fresh_node else OfTask fresh_task

-- the part of an actor at first
abbrev pub first_part : ℕ → Part
first_part k = fresh_part (first_role k)

-- n actors from a number on, in their initial state
abbrev pub first_from : ℕ → ℕ → View
first_from k zero = []
first_from k (suc more) = (k, first_part k) ∷ first_from (suc k) more

-- the first part of a view
abbrev pub part_in : View → Part
part_in [] = fresh_part OfAudit
part_in (known ∷ rest) = known.1

-- the first actor of a view
abbrev pub actor_in : View → ℕ
actor_in [] = 0
actor_in (known ∷ rest) = known.0

-- the first actor of a view alone, and the others
abbrev pub first_in : View → View
first_in [] = []
first_in (known ∷ others) = known ∷ []

abbrev pub others_in : View → View
others_in [] = []
others_in (known ∷ others) = others

-- the part after an event: the actor has this state, and sent these packets
abbrev pub part_after : Part → Role → List Message → Part
part_after part role sends =
    record part { role = role; events = part.events + 1; sent = part.sent ++ sends }

-- the view with its first part changed
abbrev pub on_first : (Part → Part) → View → View
on_first change [] = []
on_first change (known ∷ rest) = (known.0, change known.1) ∷ rest

-- the packets of a list whose receiver is an actor, and those whose sender it is
abbrev pub to_actor : ℕ → List Message → List Message
to_actor y packets = filter (λ m. nat_eq (actor_of m.to) y) packets

abbrev pub from_actor : ℕ → List Message → List Message
from_actor x packets = filter (λ m. nat_eq (actor_of m.from) x) packets

-- the part after it put a packet into its box, and after it got one
abbrev pub with_put : Message → Part → Part
with_put m part = record part { put = part.put ++ m ∷ [] }

abbrev pub with_got : Message → Part → Part
with_got m part = record part { got = part.got ++ m ∷ [] }

-- the part of a sender while it fills a box, and after it filled the box with this packet
abbrev pub filling : ℕ → Part → Part
filling b part = record part { fills = b ∷ [] }

abbrev pub filled : Message → Part → Part
filled m part = record part { put = part.put ++ m ∷ []; fills = [] }

-- the part of a receiver while it takes this packet out of a box, and after it emptied the box
abbrev pub emptying : ℕ → Message → Part → Part
emptying b m part = record part { got = part.got ++ m ∷ []; takes = b ∷ [] }

abbrev pub emptied : Part → Part
emptied part = record part { takes = [] }
