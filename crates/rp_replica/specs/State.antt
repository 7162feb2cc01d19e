-- What a replica is to a contract.
use Rattle.std.specs.Prelude.{ℕ, Bool, Option, Some, None, List}
use Rattle.rp_base.specs.declared.action.Action.{Action}
use Rattle.rp_base.specs.declared.reply.Answer.{Answer}
use Rattle.rp_base.specs.declared.config.Config.{Config}
use Rattle.rp_base.specs.declared.record.Rec.{Rec}
use Rattle.rp_codec.specs.Record.{record_text}
use Rattle.rp_store.specs.Disk.{Disk, appended, synced}
use Rattle.rp_model.specs.Parts.{Running}
use Rattle.rp_model.specs.Parts.{NodePart}
use Rattle.rp_model.specs.Parts.{Turn}
use Rattle.rp_model.specs.Effect.{Setting}
use Rattle.rp_model.specs.Parts.{with_record}
use Rattle.rp_rules.specs.rp_server.specs.State.{ServerState}

-- Its node, the configuration and the start of the machine; the records that count and what it
-- knows while it runs; what its device holds, and whether that has failed since it was opened.
pub record ReplicaState (S : Type 0) : Type 0 where
  pub me : ℕ
  pub config : Config
  pub begin : S
  pub records : List Rec
  pub running : Running
  pub disk : Disk
  pub failed : Bool

-- a server over a device
abbrev pub replica_of : {S : Type 0} → ServerState S → Disk → Bool → ReplicaState S
replica_of server disk failed = record {
  me = server.me;
  config = server.config;
  begin = server.begin;
  records = server.records;
  running = server.running;
  disk = disk;
  failed = failed;
}

-- its server
abbrev pub server_of : {S : Type 0} → ReplicaState S → ServerState S
server_of replica = record {
  me = replica.me;
  config = replica.config;
  begin = replica.begin;
  records = replica.records;
  running = replica.running;
}

-- its part of a world
abbrev pub part_of : {S : Type 0} → ReplicaState S → NodePart
part_of replica = record { records = replica.records; torn = 0; running = Some replica.running }

-- what it shares with the other nodes
abbrev pub setting_of : {S : Type 0} → (S → Action → S) → (S → Action → List Answer)
    → ReplicaState S → Setting S
setting_of next answers replica =
    record { config = replica.config; next = next; answers = answers; begin = replica.begin }

-- what its device holds once a record is written, if one is
abbrev pub with_text : Disk → Option Rec → Disk
with_text disk None = disk
with_text disk (Some rec) = synced (appended (record_text rec) disk)

-- a replica once a turn took effect
abbrev pub after_turn : {S : Type 0} → ReplicaState S → Turn → ReplicaState S
after_turn replica turn = record replica {
  records = with_record replica.records turn.written;
  running = turn.running;
  disk = with_text replica.disk turn.written;
}
