-- A node of a cluster: a replica that runs, or the device of a stopped node. A replica whose device
-- failed is stopped too.
use Rattle.std.specs.Prelude.{◌≡◌, ◌⊎◌, ℕ, ◌+◌, ◌<◌, min, Bool, true, false, Option, Some, None}
use Rattle.std.specs.Prelude.{IsSome, Result, Ok, Err, List, [], ◌++◌, length}
use Rattle.rp_base.specs.declared.action.Action.{Action}
use Rattle.rp_base.specs.declared.reply.Answer.{Answer}
use Rattle.rp_base.specs.declared.fault.Fault.TheVariants.{OutOfMemory, Device}
use Rattle.rp_replica.specs.declared.sent.Sent.{Sent}
use Rattle.rp_replica.specs.rp_outbox.specs.Packets.{texts_of}
use Rattle.rp_base.specs.declared.config.Config.{Config}
use Rattle.rp_base.specs.Promises.{HeardVote}
use Rattle.rp_base.specs.declared.fault.Fault.{Fault}
use Rattle.rp_codec.specs.Message.{Message}
use Rattle.rp_store.specs.Disk.{Disk}
use Rattle.rp_store.specs.Records.{records_text}
use Rattle.rp_model.specs.Parts.{NodePart, Running as Known}
use Rattle.rp_model.specs.declared.effect.Dropped.{Dropped}
use Rattle.rp_model.specs.Effect.{Setting, Done, NodeInput, node_effect, cut_part}
use Rattle.rp_replica.specs.State.{ReplicaState, part_of}
use Rattle.rp_replica.specs.Kept.{HoldsPart, HoldsOnly, HoldsItsRecords}
use Rattle.rp_actors.specs.declared.node.ClusterNode.{ClusterNode}
use Rattle.rp_actors.specs.declared.node.ClusterNode.TheVariants.{Running, Stopped}

-- which node of which cluster
pub record Member (S : Type 0) : Type 0 where
  pub me : ℕ
  pub config : Config
  pub begin : S

-- the node of this number in a cluster whose machine starts so
abbrev pub member_of : {S : Type 0} → ℕ → Config → S → Member S
member_of me config begin = record { me = me; config = config; begin = begin }

-- a replica that runs is the part of the member, and its device holds nothing but its records
pub record RunsAs {S : Type 0} (member : Member S) (replica : ReplicaState S) (part : NodePart)
    : Type 0 where
  pub node : replica.me ≡ member.me
  pub config : replica.config ≡ member.config
  pub begin : replica.begin ≡ member.begin
  pub working : replica.failed ≡ false
  pub known : part ≡ part_of replica
  pub only : HoldsItsRecords replica

-- a device that rests is the part of a node that is stopped, and holds no other records
pub record RestsAs (most : ℕ) (disk : Disk) (part : NodePart) : Type 0 where
  pub holds : HoldsPart most disk part
  pub only : HoldsOnly disk part
  pub stopped : part.running ≡ None

-- what all nodes of its cluster share
abbrev pub setting_at : {S : Type 0} → (S → Action → S) → (S → Action → List Answer) → Member S
    → Setting S
setting_at next answers member =
    record { config = member.config; next = next; answers = answers; begin = member.begin }

-- the result of an input for its part
abbrev pub node_step : {S : Type 0} → (S → Action → S) → (S → Action → List Answer) → Member S
    → NodeInput → NodePart
    → Result (Done NodePart) Fault
node_step next answers member input part =
    node_effect (setting_at next answers member) member.me part input

-- the result of a step is no refusal
abbrev pub IsNotRefused : Result (Done NodePart) Fault → Type 0
IsNotRefused (Ok done) = Unit {0}
IsNotRefused (Err refusal) = ⊥

-- the votes that a node has heard, none while it is stopped
abbrev pub heard_while : Option Known → List HeardVote
heard_while None = []
heard_while (Some known) = known.heard

-- The result of an input for a part takes no memory: the node writes no record, sends no packet and
-- counts no vote.
pub record IsLight (part : NodePart) (effect : Result (Done NodePart) Fault) : Type 0 where
  pub done : Done NodePart
  pub resulted : effect ≡ Ok done
  pub written : done.written ≡ None
  pub sends : done.sends ≡ []
  pub heard : heard_while done.part.running ≡ heard_while part.running

-- a replica is the part of the member: it runs as it, or has failed, and its device rests
abbrev pub RepresentsWhile : {S : Type 0} → Member S → ReplicaState S → NodePart → Bool → Type 0
RepresentsWhile member replica part false = RunsAs member replica part
RepresentsWhile member replica part true = RestsAs member.config.max_positions replica.disk part

-- the node is the part of the member
abbrev pub Represents : {S D P : Type 0} → (D → Disk) → Member S → ClusterNode S D P → NodePart → Type 0
Represents disk member (Running replica) part = RepresentsWhile member replica part replica.failed
Represents disk member (Stopped device) part =
    RestsAs member.config.max_positions (disk device) part

-- how often the device of a node has failed
abbrev pub failures_in : {S D P : Type 0} → (D → Disk) → ClusterNode S D P → ℕ
failures_in disk (Running replica) = replica.disk.failures
failures_in disk (Stopped device) = (disk device).failures

module _ {S D P : Type 0} (disk : D → Disk) (member : Member S) (old new : ClusterNode S D P) where
  -- the device of the node has not failed
  abbrev pub HasNotFailed : Type 0
  HasNotFailed = failures_in disk new ≡ failures_in disk old

  -- a step of the node is this effect on its part, and is reported
  abbrev pub GoesBy : {A : Type 0} → (NodePart → Result (Done NodePart) Fault)
      → (A → Done NodePart → Type 0) → A
      → Type 0
  GoesBy effect describes answer =
      (part : NodePart) → Represents disk member old part
      → (done : Done NodePart) × (effect part ≡ Ok done) × Represents disk member new done.part
      × describes answer done × HasNotFailed

  -- a step of the node is a cut of this effect, where n bytes of its record are kept
  abbrev pub IsCutBy : ℕ → (NodePart → Result (Done NodePart) Fault) → Type 0
  IsCutBy kept effect =
      (part : NodePart) → Represents disk member old part
      → (done : Done NodePart) × (effect part ≡ Ok done)
      × Represents disk member new (cut_part kept part done.written) × HasNotFailed

  -- or the effect refuses it, and nothing changes
  abbrev pub RefusedBy : (NodePart → Result (Done NodePart) Fault) → Fault → Type 0
  RefusedBy effect fault =
      (part : NodePart) → Represents disk member old part → (effect part ≡ Err fault)
      × Represents disk member new part × HasNotFailed

  -- or some of the torn bytes are gone, from the end
  abbrev pub IsLeftTorn : Type 0
  IsLeftTorn =
      (part : NodePart) → Represents disk member old part
      → (kept : ℕ) × Represents disk member new (record part { torn = min kept part.torn })

  -- Or the step was not taken: it is refused, and nothing changes; or memory ran out for it, and
  -- nothing changes; or the device failed, its count rose, and the step, which writes a record, is
  -- cut with some of the record's bytes kept.
  abbrev pub NotTaken : (NodePart → Result (Done NodePart) Fault) → Fault → Type 0
  NotTaken effect fault =
      (part : NodePart) → Represents disk member old part
      → ((effect part ≡ Err fault) × Represents disk member new part × HasNotFailed)
      ⊎ (((fault ≡ OutOfMemory) × IsNotRefused (effect part) × Represents disk member new part
      × HasNotFailed)
      ⊎ ((fault ≡ Device) × (kept : ℕ) × (done : Done NodePart) × (effect part ≡ Ok done)
      × Represents disk member new (cut_part kept part done.written) × IsSome done.written
      × (failures_in disk old < failures_in disk new)))

-- how many bytes a device holds that keeps the part: the texts of its records, and the torn bytes
abbrev pub stored_length : NodePart → ℕ
stored_length part = length (records_text part.records) + part.torn

-- why a restart fails: memory ran out, and the device has not failed; or it has, and its count rose
abbrev pub IsNotStarted : ℕ → ℕ → Fault → Type 0
IsNotStarted old new fault =
    ((fault ≡ OutOfMemory) × (new ≡ old)) ⊎ ((fault ≡ Device) × (old < new))

-- the node is stopped
abbrev pub IsResting : {S D P : Type 0} → (D → Disk) → Member S → ClusterNode S D P → Type 0
IsResting disk member node =
    (part : NodePart) → Represents disk member node part → part.running ≡ None

-- nothing else is reported
abbrev pub DescribesNothing : Unit {0} → Done NodePart → Type 0
DescribesNothing answer done = Unit {0}

-- what a restart returns
abbrev pub DescribesOpened : Option (ℕ × ℕ) → Done NodePart → Type 0
DescribesOpened opened done = opened ≡ done.opened

-- the packets that the step sends are after those that were sent before
pub record DescribesSending (before after : List Message) (dropped : Dropped) (done : Done NodePart)
    : Type 0 where
  pub sent : after ≡ before ++ done.sends
  pub is_dropped : dropped ≡ done.dropped
  pub nothing : (done.taken ≡ None) × (done.opened ≡ None)

-- the bytes are the texts of the packets that were sent
pub record DescribesSent (sent : Sent) (done : Done NodePart) : Type 0 where
  pub bytes : sent.bytes.items ≡ texts_of done.sends
  pub packets : sent.packets ≡ length done.sends
  pub dropped : sent.dropped ≡ done.dropped
  pub nothing : (done.taken ≡ None) × (done.opened ≡ None)
