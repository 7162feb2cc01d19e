-- The packets of the plays are packets.
use Rattle.std.proofs.Common.{ℕ, None, List, arith}
use Rattle.std.specs.List.{AllByRecursion}
use Rattle.rp_base.specs.Action.{IsRight}
use Rattle.rp_base.specs.Ballot.{IsBallot}
use Rattle.rp_base.specs.Number.{IsNode, IsTask, IsPosition}
use Rattle.rp_base.specs.declared.action.Action.{Action}
use Rattle.rp_base.specs.declared.action.Action.TheVariants.{Interrupt}
use Rattle.rp_requests.specs.rp_codec.specs.Message.{Message, IsPacket}
use Rattle.rp_requests.specs.rp_codec.specs.declared.packet.Body.TheVariants as bodies
use Rattle.rp_requests.specs.rp_model.specs.Says.{says, says_to_all, says_to_others}

pub node_1 : IsNode 1
node_1 = (omega arith, omega arith)

pub node_2 : IsNode 2
node_2 = (omega arith, omega arith)

pub node_3 : IsNode 3
node_3 = (omega arith, omega arith)

pub task_1 : IsTask 1
task_1 = (omega arith, omega arith)

-- the action that node 1 notes
abbrev pub occurrence : Action
occurrence = Interrupt 1 1

pub right_occurrence : IsRight occurrence
right_occurrence = ((omega arith, omega arith), (omega arith, omega arith))

ballot : IsBallot 9
ballot = record { round = (omega arith, omega arith); owner = node_1 }

pub position : IsPosition 1
position = (omega arith, omega arith)

module _ (from to : ℕ) (from_is : IsNode from) (to_is : IsNode to) where
  pub prepare_is : IsPacket (says from (bodies.Prepare 1 9) to)
  prepare_is = record { ranges = record { from = from_is; to = to_is; body = (position, ballot) }; rules = (tt, tt) }

  pub promise_is : IsPacket (says from (bodies.Promise 1 9 None) to)
  promise_is = record { ranges = record { from = from_is; to = to_is; body = (position, ballot, tt) }; rules = ((tt, tt), tt) }

  pub accept_is : (action : Action) → IsRight action → IsPacket (says from (bodies.Accept 1 9 action) to)
  accept_is action right = record { ranges = record { from = from_is; to = to_is; body = (position, ballot) }; rules = ((tt, tt), right) }

  pub accepted_is : (action : Action) → IsRight action → IsPacket (says from (bodies.Accepted 1 9 action) to)
  accepted_is action right = record { ranges = record { from = from_is; to = to_is; body = (position, ballot) }; rules = ((tt, tt), right) }

  pub decided_is : (action : Action) → IsRight action → IsPacket (says from (bodies.Decided 1 action) to)
  decided_is action right = record { ranges = record { from = from_is; to = to_is; body = position }; rules = ((tt, tt), right) }

-- ---- what steps send

abbrev Packets : List Message → Type 0
Packets messages = AllByRecursion IsPacket messages

pub all_prepare : Packets (says_to_all 3 1 (bodies.Prepare 1 9))
all_prepare = (prepare_is 1 1 node_1 node_1, (prepare_is 1 2 node_1 node_2, (prepare_is 1 3 node_1 node_3, tt)))

pub all_accept : (action : Action) → IsRight action → Packets (says_to_all 3 1 (bodies.Accept 1 9 action))
all_accept action right = (accept_is 1 1 node_1 node_1 action right, (accept_is 1 2 node_1 node_2 action right, (accept_is 1 3 node_1 node_3 action right, tt)))

pub others_decided : (action : Action) → IsRight action → Packets (says_to_others 3 1 (bodies.Decided 1 action))
others_decided action right = (decided_is 1 2 node_1 node_2 action right, (decided_is 1 3 node_1 node_3 action right, tt))
