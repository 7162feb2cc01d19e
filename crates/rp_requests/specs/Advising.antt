-- What a node knows that decides whether it is to lead, or to ask.
use Rattle.std.specs.Prelude.{ℕ, suc, ◌+◌, Bool, false, ◌&&◌, nat_eq, nat_lt, nat_le, is_some}
use Rattle.std.specs.Prelude.{Option, Some, None, List, length, if◌then◌else◌}
use Rattle.rp_base.specs.Ballot.{owner_of}
use Rattle.rp_base.specs.Records.{applied_of, last_vote_at}
use Rattle.rp_base.specs.declared.action.Action.{Action}
use Rattle.rp_base.specs.declared.record.Vote.{Vote}
use Rattle.rp_base.specs.declared.reply.Answer.{Answer}
use Rattle.rp_replica.specs.rp_model.specs.Leader.{least_free}
use Rattle.rp_replica.specs.rp_model.specs.Learner.{missing_position}
use Rattle.rp_replica.specs.State.{ReplicaState}
use Rattle.rp_patience.specs.declared.advice.Situation.{Situation}
use Rattle.rp_replica.specs.rp_server.specs.Free.{has_uncounted}
use Rattle.rp_requests.specs.Nodes.{NodeState, applied_count, counted_at, free_at}

-- the vote was cast in a ballot of the node
abbrev pub is_own_vote : ℕ → Option Vote → Bool
is_own_vote me None = false
is_own_vote me (Some vote) = nat_eq (owner_of vote.ballot) me

-- The node led last: its last vote at the position that it applied last is in a ballot of its own.
-- Node 1 did before anything is applied.
abbrev pub led_last : {S : Type 0} → ReplicaState S → Bool
led_last replica =
    if nat_eq (applied_count replica) 0 then nat_eq replica.me 1
    else is_own_vote replica.me (last_vote_at replica.records (applied_count replica))

-- how many positions a node leads on at before the first of them is decided
abbrev pub most_ahead : ℕ
most_ahead = 8

-- the position is in the log, and one of the first 8 that are not applied
abbrev pub is_near : {S : Type 0} → ReplicaState S → ℕ → Bool
is_near replica position =
    nat_le position replica.config.max_positions
    && nat_le position (applied_count replica + most_ahead)

-- the position, if it is near
abbrev pub near : {S : Type 0} → ReplicaState S → ℕ → Option ℕ
near replica position = if is_near replica position then Some position else None

module _ {S : Type 0} (next : S → Action → S) (answers : S → Action → List Answer) where
  -- Where a node leads on: it led last, and has a pending item that did not count and that no
  -- proposal of its has as its own action; it leads at the least free position, if that is near.
  abbrev pub leads_on : NodeState S → Option ℕ
  leads_on node =
      if led_last node.replica && nat_lt 0 (free_at next answers node)
      then near node.replica
      (least_free node.replica.config.nodes node.replica.records node.replica.running.proposals)
      else None

  -- its number; how many actions it has applied, of how many positions; whether a position is
  -- missing below a learned one; whether something is pending that did not count yet; whether a
  -- call came that cannot count; whether it led last; and where it leads on
  abbrev pub situation_of : NodeState S → Situation
  situation_of node = record {
    node = node.replica.me;
    applied = applied_count node.replica;
    positions = node.replica.config.max_positions;
    is_missing = is_some (missing_position node.replica.records);
    has_uncounted = has_uncounted (counted_at next answers node) node.replica.running.pending;
    had_early = node.had_early;
    led_last = led_last node.replica;
    leads_on = leads_on node;
  }
