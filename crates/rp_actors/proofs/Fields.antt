-- The fields of a world as memory holds them, and the world that they are.
use Rattle.std.proofs.Common.{◌≡◌, ℕ, List, length, map, sym, ap, subst, ◌∙◌}
use Rattle.rp_base.specs.declared.action.Action.{Action}
use Rattle.rp_base.specs.declared.config.Config.{Config}
use Rattle.rp_base.specs.declared.reply.Answer.{Answer}
use Rattle.rp_codec.specs.Message.{Message}
use Rattle.rp_store.specs.Disk.{Disk}
use Rattle.rp_model.specs.Effect.{Setting}
use Rattle.rp_model.specs.Parts.{NodePart, TaskPart}
use Rattle.rp_model.specs.World.{World}
use Rattle.rp_replica.specs.rp_outbox.specs.Packets.{Sending}
use Rattle.rp_actors.specs.Callers.{Caller}
use Rattle.rp_actors.specs.Nodes.{Member, member_of, failures_in}
use Rattle.rp_actors.specs.Shape.{IsWorld, world_of}
use Rattle.rp_actors.specs.Steps.{ClusterState, cluster_setting}
use Rattle.rp_actors.specs.declared.node.ClusterNode.{ClusterNode}

-- a world of these parts and messages
abbrev pub made_of : List NodePart → List TaskPart → List Message → World
made_of nodes tasks sent = record { nodes = nodes; tasks = tasks; sent = sent }

-- the cluster that such fields are
abbrev pub cluster_of : {S D P : Type 0} → (D → Disk) → Config → P → List (ClusterNode S D P) → List Caller → Sending → ClusterState P
cluster_of disk config program nodes tasks messages =
    record { setup = record { config = config; program = program }; world = world_of disk config.max_positions nodes tasks messages; failures = map (failures_in disk) nodes }

-- The fields, the functions of the machine, and the value that the fields are, as the caller saw it.
pub record Fields (S D P : Type 0) : Type 0 where
  pub disk : D → Disk
  pub config : Config
  pub program : P
  pub nodes : List (ClusterNode S D P)
  pub tasks : List Caller
  pub messages : Sending
  pub next : S → Action → S
  pub answers : S → Action → List Answer
  pub start : P → S
  pub kept : IsWorld disk config (start program) nodes tasks
  pub was : ClusterState P
  pub view_is : cluster_of disk config program nodes tasks messages ≡ was

abbrev pub fields_of : {S D P : Type 0} {disk : D → Disk} {config : Config} {program : P} {nodes : List (ClusterNode S D P)} {tasks : List Caller} {was : ClusterState P}
    (next : S → Action → S) (answers : S → Action → List Answer) (start : P → S) (messages : Sending) → IsWorld disk config (start program) nodes tasks
    → cluster_of disk config program nodes tasks messages ≡ was → Fields S D P
fields_of {disk = disk} {config = config} {program = program} {nodes = nodes} {tasks = tasks} {was = was} next answers start messages kept view_is =
    record { disk = disk; config = config; program = program; nodes = nodes; tasks = tasks; messages = messages; next = next; answers = answers; start = start; kept = kept; was = was; view_is = view_is }

module _ {S D P : Type 0} (f : Fields S D P) where
  -- the first state of the machine, and what the nodes share
  abbrev pub begin : S
  begin = f.start f.program

  abbrev pub setting : Setting S
  setting = record { config = f.config; next = f.next; answers = f.answers; begin = begin }

  -- the same of any cluster of this machine
  abbrev pub setting_by : ClusterState P → Setting S
  setting_by v = cluster_setting f.next f.answers f.start v

  -- the node of this number
  abbrev pub member : ℕ → Member S
  member me = member_of me f.config begin

  -- the world of other nodes, tasks and messages, that of the fields, and the counts of failures
  abbrev pub world_with : List (ClusterNode S D P) → List Caller → Sending → World
  world_with nodes tasks messages = world_of f.disk f.config.max_positions nodes tasks messages

  abbrev pub world : World
  world = world_with f.nodes f.tasks f.messages

  abbrev pub counts_of : List (ClusterNode S D P) → List ℕ
  counts_of nodes = map (failures_in f.disk) nodes

  -- the cluster is kept with other nodes and tasks
  abbrev pub IsKept : List (ClusterNode S D P) → List Caller → Type 0
  IsKept nodes tasks = IsWorld f.disk f.config begin nodes tasks

  -- the cluster that the fields are; what is so of it is so of the one that the caller saw
  abbrev pub now : ClusterState P
  now = cluster_of f.disk f.config f.program f.nodes f.tasks f.messages

  pub as_seen : (Q : ClusterState P → Type 0) → Q now → Q f.was
  as_seen Q q = subst Q f.view_is q

  -- the messages, and their number
  pub sent_seen : f.messages.sent ≡ f.was.world.sent
  sent_seen = ap (λ (v : ClusterState P). v.world.sent) f.view_is

  pub first_seen : {first : ℕ} → first ≡ length f.was.world.sent → first ≡ length f.messages.sent
  first_seen first_is = first_is ∙ ap length (sym sent_seen)

  -- the cluster that other nodes, tasks and messages are
  abbrev pub cluster_with : List (ClusterNode S D P) → List Caller → Sending → ClusterState P
  cluster_with nodes tasks messages = cluster_of f.disk f.config f.program nodes tasks messages

  -- the world changed so, and with it the counts of failures
  pub fails_to : (nodes : List (ClusterNode S D P)) (tasks : List Caller) (messages : Sending) {after : World} → world_with nodes tasks messages ≡ after
      → cluster_with nodes tasks messages ≡ record now { world = after; failures = counts_of nodes }
  fails_to nodes tasks messages changed = ap (λ (w : World). let v : ClusterState P = record now { world = w; failures = counts_of nodes } in v) changed

  -- or the world alone changed
  pub goes_to : (nodes : List (ClusterNode S D P)) (tasks : List Caller) (messages : Sending) {after : World} → world_with nodes tasks messages ≡ after → counts_of nodes ≡ counts_of f.nodes
      → cluster_with nodes tasks messages ≡ record now { world = after }
  goes_to nodes tasks messages {after = after} changed same = fails_to nodes tasks messages changed ∙ ap (λ (l : List ℕ). let v : ClusterState P = record now { world = after; failures = l } in v) same
