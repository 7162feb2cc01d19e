-- A cluster as one value, and what a step of it answers.
use Rattle.std.specs.Borrow.{Bor}
use Rattle.std.specs.Prelude.{◌≡◌, ◌⊎◌, Result, Ok, Err, ℕ, Option, Some, None, List, [], IsOkAnd}
use Rattle.std.specs.Prelude.{IsSome}
use Rattle.std.specs.Option.{IsSomeAnd}
use Rattle.rp_base.specs.declared.action.Action.{Action}
use Rattle.rp_base.specs.declared.config.Config.{Config}
use Rattle.rp_base.specs.declared.fault.Fault.{Fault}
use Rattle.rp_base.specs.declared.fault.Fault.TheVariants.{OutOfMemory, NotRunning, BadConfig}
use Rattle.rp_base.specs.declared.record.Rec.{Rec}
use Rattle.rp_base.specs.declared.reply.Answer.{Answer}
use Rattle.rp_base.specs.Promises.{HeardVote}
use Rattle.rp_codec.specs.Decoding.{IsLongBody}
use Rattle.rp_model.specs.declared.effect.Effect.{Effect}
use Rattle.rp_model.specs.declared.event.Event.{Event}
use Rattle.rp_model.specs.Parts.{NodePart}
use Rattle.rp_model.specs.Parts.{Running}
use Rattle.rp_model.specs.Effect.{Setting}
use Rattle.rp_model.specs.Events.{Step, Deliver, event_of}
use Rattle.rp_model.specs.World.{World, Transition, node_of, part_at, step_effect, step_writes}
use Rattle.rp_model.specs.World.{stepping}
use Rattle.rp_model.specs.Answers.{Steps}
use Rattle.rp_replica.specs.State.{ReplicaState}
use Rattle.rp_replica.specs.rp_server.specs.State.{ServerState}
use Rattle.rp_actors.specs.Failures.{AreCounted}
use Rattle.rp_actors.specs.Nodes.{heard_while, stored_length}

-- what never changes in a cluster: its configuration, and the program that its nodes run
pub record Setup (P : Type 0) : Type 0 where
  pub config : Config
  pub program : P

-- a cluster: its setup, its world, and how often the device of each node has failed, in order of
-- nodes
pub record ClusterState (P : Type 0) : Type 0 where
  pub setup : Setup P
  pub world : World
  pub failures : List ℕ

module _ {S P : Type 0} (next : S → Action → S) (answers : S → Action → List Answer) (start : P
    → S) where
  -- what the nodes of a cluster share
  abbrev pub cluster_setting : ClusterState P → Setting S
  cluster_setting c =
      record { config = c.setup.config; next = next; answers = answers; begin = start c.setup.program }

  -- A step of a cluster: its world goes by the event; the counts of failures stay, but that of the
  -- event's node where a device failed; and its setup stays.
  pub record IsStep (old : ClusterState P) (event : Event) (new : ClusterState P) (answer : Result Effect Fault)
      : Type 0 where
    pub world : Steps (cluster_setting old) old.world (event_of event) new.world answer
    pub setup : new.setup ≡ old.setup
    pub failures : AreCounted (node_of old.world (event_of event)) old.failures new.failures answer

-- the votes that the node of this number has heard, none where there is no such node
abbrev pub votes_heard : Option NodePart → List HeardVote
votes_heard None = []
votes_heard (Some part) = heard_while part.running

-- the step delivers a packet that takes memory to read
abbrev pub IsLongDelivery : World → Step → Type 0
IsLongDelivery w (Deliver number) = IsSomeAnd (part_at w.sent number) (λ m. IsLongBody m.body)
IsLongDelivery w _ = ⊥

-- By the definitions the step is a node's, sends no packet, writes no record and counts no vote,
-- and it delivers no long packet: it takes no memory.
pub record IsLightStep {S : Type 0} (s : Setting S) (w : World) (step : Step) : Type 0 where
  pub me : ℕ
  pub node : stepping w step ≡ Some me
  pub transition : Transition
  pub resulted : step_effect s w step ≡ Ok transition
  pub written : step_writes s w step ≡ None
  pub sends : transition.sends ≡ []
  pub heard : votes_heard (part_at transition.world.nodes me) ≡ votes_heard (part_at w.nodes me)
  pub short : ¬ IsLongDelivery w step

-- the same of a part that runs or is stopped
abbrev pub IsRunningQueryAnswer : {A : Type 0} → Result A Fault → (A → List Rec → Type 0) → List Rec
    → Option Running
    → Type 0
IsRunningQueryAnswer answer describes records None = answer ≡ Err NotRunning
IsRunningQueryAnswer answer describes records (Some running) =
    IsOkAnd answer (λ a. describes a records)

-- A question about a node's records: answered for a running node, refused by NotRunning at a
-- stopped one and by BadConfig where there is no such node.
abbrev pub IsQueryAnswer : {A : Type 0} → Result A Fault → (A → List Rec → Type 0) → Option NodePart
    → Type 0
IsQueryAnswer answer describes None = answer ≡ Err BadConfig
IsQueryAnswer answer describes (Some part) =
    IsRunningQueryAnswer answer describes part.records part.running

-- there is such a node, and it runs
abbrev pub IsRunningNode : Option NodePart → Type 0
IsRunningNode None = ⊥
IsRunningNode (Some part) = IsSome part.running

-- the same, but for a node that runs memory may run out
abbrev pub IsQueryAnswerUnlessMemory : {A : Type 0} → Result A Fault → (A → List Rec → Type 0)
    → Option NodePart
    → Type 0
IsQueryAnswerUnlessMemory answer describes part =
    ((answer ≡ Err OutOfMemory) × IsRunningNode part) ⊎ IsQueryAnswer answer describes part

-- how many bytes a node's device holds: BadConfig where there is no such node
abbrev pub IsStored : Result ℕ Fault → Option NodePart → Type 0
IsStored answer None = answer ≡ Err BadConfig
IsStored answer (Some part) = answer ≡ Ok (stored_length part)

-- the replica of a node that runs: refused by NotRunning at a stopped one, and by BadConfig where
-- there is none
abbrev pub IsReplicaOf : {S : Type 0} → Config → S → Result (Bor (ReplicaState S)) Fault
    → Option NodePart → Type 0
IsReplicaOf config begin answer part =
    IsQueryAnswer answer (λ replica records. (replica.now.begin ≡ begin)
    × (replica.now.records ≡ records)) part

-- the same of a part that runs or is stopped: the server has its configuration and its records, and
-- knows what it knows
abbrev pub IsRunningServerOf : {S : Type 0} → Config → Result (Bor (ServerState S)) Fault → List Rec
    → Option Running
    → Type 0
IsRunningServerOf config answer records None = answer ≡ Err NotRunning
IsRunningServerOf config answer records (Some running) =
    IsOkAnd answer (λ server. (server.now.config ≡ config) × (server.now.records ≡ records)
    × (server.now.running ≡ running))

-- the server of a node that runs, refused as above
abbrev pub IsServerOf : {S : Type 0} → Config → Result (Bor (ServerState S)) Fault → Option NodePart
    → Type 0
IsServerOf config answer None = answer ≡ Err BadConfig
IsServerOf config answer (Some part) = IsRunningServerOf config answer part.records part.running
