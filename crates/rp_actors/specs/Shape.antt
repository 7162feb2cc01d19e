-- How memory holds a cluster, and what is true of its fields.
use Rattle.std.specs.Prelude.{◌≡◌, ℕ, zero, suc, ◌-◌, Bool, true, false, nat_lt, if◌then◌else◌}
use Rattle.std.specs.Prelude.{IfSome, None, Ok, Err, List, [], ◌∷◌, length, map, slice_get}
use Rattle.rp_base.specs.Config.{IsRightConfig}
use Rattle.rp_base.specs.declared.config.Config.{Config}
use Rattle.rp_base.specs.declared.record.Rec.{Rec}
use Rattle.rp_codec.specs.Reading.{Read}
use Rattle.rp_codec.specs.RecordReading.{record_at}
use Rattle.rp_store.specs.Disk.{Disk}
use Rattle.rp_store.specs.Records.{records_text}
use Rattle.rp_model.specs.Effect.{Setting}
use Rattle.rp_model.specs.Parts.{NodePart, fresh_node, fresh_task, records_in_log}
use Rattle.rp_model.specs.World.{World}
use Rattle.rp_agreement.specs.Answered.{IsKeptWorld}
use Rattle.rp_agreement.specs.Ranges.{IsRangedWorld}
use Rattle.rp_replica.specs.State.{ReplicaState, part_of}
use Rattle.rp_actors.specs.Callers.{Caller}
use Rattle.rp_replica.specs.rp_outbox.specs.Packets.{Sending}
use Rattle.rp_actors.specs.Nodes.{member_of, Represents}
use Rattle.rp_actors.specs.declared.node.ClusterNode.{ClusterNode}
use Rattle.rp_actors.specs.declared.node.ClusterNode.TheVariants.{Running, Stopped}

-- ---- what a device holds of a node that rests

-- the front that is made of bytes
abbrev pub byte_front : List ℕ → List ℕ
byte_front [] = []
byte_front (b ∷ rest) = if nat_lt b 256 then b ∷ byte_front rest else []

-- a record that was read, and those read after it
abbrev pub with_others : Read Rec → (List ℕ → List Rec) → List Rec
with_others (Ok read) others = read.0 ∷ others read.1
with_others (Err reason) others = []

-- the records read from the front of the bytes, at most n
abbrev pub records_read : ℕ → List ℕ → List Rec
records_read zero bytes = []
records_read (suc most) bytes = with_others (record_at bytes) (λ rest. records_read most rest)

-- the records whose texts, joined, are the longest such front of what a device holds
abbrev pub records_on : Disk → List Rec
records_on disk = records_read (length disk.contents) (byte_front disk.contents)

-- the part of a node that rests on it: the records that count, and the torn bytes after them
abbrev pub resting_part : ℕ → Disk → NodePart
resting_part most disk = record {
  records = records_in_log most (records_on disk);
  torn = length disk.contents - length (records_text (records_on disk));
  running = None;
}

-- ---- the world

abbrev pub part_while : {S : Type 0} → ℕ → ReplicaState S → Bool → NodePart
part_while most replica false = part_of replica
part_while most replica true = resting_part most replica.disk

module _ {S D P : Type 0} (disk : D → Disk) (most : ℕ) where
  -- the part of a node: what its replica knows while it runs, else what its device holds
  abbrev pub part_by : ClusterNode S D P → NodePart
  part_by (Running replica) = part_while most replica replica.failed
  part_by (Stopped device) = resting_part most (disk device)

  -- the parts of the nodes and of the tasks, and what was sent
  abbrev pub world_of : List (ClusterNode S D P) → List Caller → Sending → World
  world_of nodes tasks messages =
      record { nodes = map part_by nodes; tasks = map (λ t. t.part) tasks; sent = messages.sent }

-- Each node is one of this cluster, in order, and each of the eight tasks is the one of its number.
pub record IsWorld {S D P : Type 0} (disk : D → Disk) (config : Config) (begin : S)
    (nodes : List (ClusterNode S D P))
    (tasks : List Caller) : Type 0 where
  pub right : IsRightConfig config
  pub size : length nodes ≡ config.nodes
  pub members : (place : ℕ)
      → IfSome (slice_get nodes place)
      (λ node. Represents disk (member_of (suc place) config begin) node
      (part_by disk config.max_positions node))
  pub eight : length tasks ≡ 8
  pub numbered : (place : ℕ) → IfSome (slice_get tasks place) (λ t. t.task ≡ suc place)

-- each node is a fresh one of this cluster, and there are as many as nodes
pub record AreFresh {S D P : Type 0} (disk : D → Disk) (config : Config) (begin : S)
    (nodes : List (ClusterNode S D P))
    : Type 0 where
  pub size : length nodes ≡ config.nodes
  pub each : (place : ℕ)
      → IfSome (slice_get nodes place)
      (λ node. Represents disk (member_of (suc place) config begin) node fresh_node)

-- the eight tasks, which called nothing
pub record AreFreshTasks (tasks : List Caller) : Type 0 where
  pub eight : length tasks ≡ 8
  pub each : (place : ℕ)
      → IfSome (slice_get tasks place)
      (λ t. let fresh : Caller = record { task = suc place; part = fresh_task } in t ≡ fresh)

-- Its world satisfies the invariant by which nodes agree and replies are the order's, and its
-- numbers are within their ranges.
pub record IsCluster {S : Type 0} (s : Setting S) (world : World) : Type 0 where
  pub right : IsRightConfig s.config
  pub kept : IsKeptWorld s world
  pub ranged : IsRangedWorld s.config.nodes world
