-- A node that runs, as its rules see it.
use Rattle.std.specs.Prelude.{ℕ, List}
use Rattle.rp_base.specs.declared.action.Action.{Action}
use Rattle.rp_base.specs.declared.config.Config.{Config}
use Rattle.rp_base.specs.declared.record.Rec.{Rec}
use Rattle.rp_base.specs.declared.reply.Answer.{Answer}
use Rattle.rp_base.specs.Proposals.{without_proposal}
use Rattle.rp_base.specs.Records.{applied_of}
use Rattle.rp_machine.specs.Replay.{counted_of, replay_answers}
use Rattle.rp_model.specs.Parts.{Running}
use Rattle.rp_model.specs.Pending.{own_action}

-- what all nodes share: the configuration, and the machine with its start
pub record Setting (S : Type 0) : Type 0 where
  pub config : Config
  pub next : S → Action → S
  pub answers : S → Action → List Answer
  pub begin : S

-- a node that runs: what it shares with the others, its number, its records and what it knows
pub record RunningNode (S : Type 0) : Type 0 where
  pub setting : Setting S
  pub me : ℕ
  pub records : List Rec
  pub running : Running

-- the node of this number with these records, which knows this
abbrev pub running_node : {S : Type 0} → Setting S → ℕ → List Rec → Running → RunningNode S
running_node s me records running =
    record { setting = s; me = me; records = records; running = running }

module _ {S : Type 0} (node : RunningNode S) where
  -- how many nodes there are
  abbrev pub nodes_of : ℕ
  nodes_of = node.setting.config.nodes

  -- the actions that count of what the node has applied
  abbrev pub counted_by : List Action
  counted_by =
      let s = node.setting in counted_of s.next s.answers s.begin (applied_of node.records)

  -- the answers to what the node has applied
  abbrev pub given_by : List Answer
  given_by =
      let s = node.setting in replay_answers s.next s.answers s.begin (applied_of node.records)

  -- the action that a proposal at this position takes as its own
  abbrev pub own_for : ℕ → Action
  own_for i =
      own_action counted_by (without_proposal node.running.proposals i) node.running.pending
