-- What a server is to a contract.
use Rattle.std.specs.Prelude.{ℕ, List}
use Rattle.rp_base.specs.declared.config.Config.{Config}
use Rattle.rp_base.specs.declared.record.Rec.{Rec}
use Rattle.rp_model.specs.Parts.{Running, Turn, with_record}

-- Its node, the configuration and the start of the machine; the records that count and what it
-- knows while it runs.
pub record ServerState (S : Type 0) : Type 0 where
  pub me : ℕ
  pub config : Config
  pub begin : S
  pub records : List Rec
  pub running : Running

-- a server once a turn took effect
abbrev pub server_after : {S : Type 0} → ServerState S → Turn → ServerState S
server_after server turn =
    record server { records = with_record server.records turn.written; running = turn.running }
