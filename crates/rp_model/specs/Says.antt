-- What a step of a node results in, and to whom its packets go.
use Rattle.std.specs.Prelude.{ℕ, not, nat_eq, Some, None, List, [], map, filter}
use Rattle.rp_base.specs.declared.record.Rec.{Rec}
use Rattle.rp_codec.specs.Message.{Message}
use Rattle.rp_codec.specs.declared.packet.Party.TheVariants.{Node, Task}
use Rattle.rp_codec.specs.declared.packet.Body.{Body}
use Rattle.rp_machine.specs.Replay.{one_to}
use Rattle.rp_model.specs.Parts.{Running}
use Rattle.rp_model.specs.Parts.{Turn}
use Rattle.rp_model.specs.declared.effect.Dropped.TheVariants.{No}

-- a packet from node to node
abbrev pub says : ℕ → Body → ℕ → Message
says me body to = record { from = Node me; to = Node to; body = body }

-- one to each node, itself too
abbrev pub says_to_all : ℕ → ℕ → Body → List Message
says_to_all nodes me body = map (says me body) (one_to nodes)

-- one to each other node
abbrev pub says_to_others : ℕ → ℕ → Body → List Message
says_to_others nodes me body = map (says me body) (filter (λ k. not (nat_eq k me)) (one_to nodes))

-- a packet from node to task
abbrev pub says_to_task : ℕ → Body → ℕ → Message
says_to_task me body task = record { from = Node me; to = Task task; body = body }

-- the node writes nothing
abbrev pub sends : Running → List Message → Turn
sends running packets = record { written = None; sent = packets; running = running; dropped = No }

-- the node writes and sends nothing
abbrev pub notes : Running → Turn
notes running = sends running []

-- the node writes a record first
abbrev pub writes : Rec → Running → List Message → Turn
writes rec running packets =
    record { written = Some rec; sent = packets; running = running; dropped = No }
