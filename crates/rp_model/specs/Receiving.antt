-- What a node decides of a packet, over Lamport's messages.
use Rattle.std.specs.Prelude.{ℕ, suc, Bool, true, false, not, ◌&&◌, nat_eq, nat_lt, nat_le}
use Rattle.std.specs.Prelude.{if◌then◌else◌}
use Rattle.rp_base.specs.declared.config.Config.{Config}
use Rattle.rp_base.specs.Ballot.{owner_of}
use Rattle.rp_base.specs.Ranges.{Range, end_of}
use Rattle.rp_codec.specs.Message.{Message}
use Rattle.rp_codec.specs.declared.packet.Party.{Party}
use Rattle.rp_codec.specs.declared.packet.Party.TheVariants.{Node, Task, Audit}
use Rattle.rp_codec.specs.declared.packet.Body.{Body}
use Rattle.rp_codec.specs.declared.packet.Body.TheVariants.{Call, Prepare, Promise, Accept}
use Rattle.rp_codec.specs.declared.packet.Body.TheVariants.{Accepted, Decided, Ask, Nack, Reply}
use Rattle.rp_codec.specs.declared.packet.Body.TheVariants.{Report, PrepareRange, PromiseRange}
use Rattle.rp_model.specs.Node.{RunningNode}
use Rattle.rp_model.specs.Acceptor.{on_prepare, on_prepare_range, on_accept}
use Rattle.rp_model.specs.Arrivals.{on_call}
use Rattle.rp_model.specs.Leader.{on_promise}
use Rattle.rp_model.specs.Learner.{on_accepted, on_decided, on_ask}
use Rattle.rp_model.specs.declared.effect.Dropped.TheVariants.{No, Foreign}
use Rattle.rp_model.specs.declared.plan.Plan.{Plan}
use Rattle.rp_model.specs.declared.plan.Plan.TheVariants as plans

-- the party is this node
abbrev pub is_node : ℕ → Party → Bool
is_node me (Node k) = nat_eq k me
is_node me (Task t) = false
is_node me Audit = false

-- the party is no node above these
abbrev pub is_no_node_above : ℕ → Party → Bool
is_no_node_above nodes (Node k) = not (nat_lt nodes k)
is_no_node_above nodes (Task t) = true
is_no_node_above nodes Audit = true

-- the number of a sender among the nodes or the tasks
abbrev pub sender_number : Party → ℕ
sender_number (Node k) = k
sender_number (Task t) = t
sender_number Audit = 0

-- the range begins and ends within the log
abbrev pub is_range_within : ℕ → Range → Bool
is_range_within most range = nat_le range.first most && nat_le (end_of range) (suc most)

-- the position, or each of a range, is within the log, and who asks for a ballot owns it
abbrev pub is_allowed : ℕ → ℕ → Body → Bool
is_allowed most from (Call action) = true
is_allowed most from (Prepare position ballot) =
    not (nat_lt most position) && nat_eq (owner_of ballot) from
is_allowed most from (Promise position ballot last) = not (nat_lt most position)
is_allowed most from (Accept position ballot action) =
    not (nat_lt most position) && nat_eq (owner_of ballot) from
is_allowed most from (Accepted position ballot action) = not (nat_lt most position)
is_allowed most from (Decided position action) = not (nat_lt most position)
is_allowed most from (Ask position) = not (nat_lt most position)
is_allowed most from (Nack position ballot bound) = not (nat_lt most position)
is_allowed most from (Reply number reply) = true
is_allowed most from (Report first applied actions) = true
is_allowed most from (PrepareRange range ballot) =
    is_range_within most range && nat_eq (owner_of ballot) from
is_allowed most from (PromiseRange range ballot votes) = is_range_within most range

-- the packet is for this node, and keeps to the configuration
abbrev pub is_for_node : Config → ℕ → Message → Bool
is_for_node config me message =
    is_node me message.to && is_no_node_above config.nodes message.from
    && is_allowed config.max_positions (sender_number message.from) message.body

module _ {S : Type 0} (node : RunningNode S) where
  -- by what the packet says: a reply or a report tells a node nothing
  abbrev pub on_body : ℕ → Body → Plan
  on_body from (Call action) = on_call node action
  on_body from (Prepare i b) = on_prepare node from i b
  on_body from (Promise i b last) =
      on_promise node (record { from = from; position = i; ballot = b; last = last })
  on_body from (Accept i b v) = on_accept node from i b v
  on_body from (Accepted i b v) = on_accepted node from i (record { ballot = b; action = v })
  on_body from (Decided i v) = on_decided node from i v
  on_body from (Ask i) = on_ask node from i
  on_body from (Nack i b bound) = plans.Yield i b bound
  on_body from (PrepareRange range b) = on_prepare_range node from range b
  on_body from (PromiseRange range b votes) =
      plans.CountRangePromise
      (record { from = from; range = range; ballot = b; votes = votes })
  on_body from _ = plans.Pass No

  -- a packet arrives at a node
  abbrev pub receives : Message → Plan
  receives message =
      if is_for_node node.setting.config node.me message
      then on_body (sender_number message.from) message.body
      else plans.Pass Foreign
