-- What a node decides as a learner, and what learning an action does. Lamport, "Paxos Made Simple", section
-- 2.3; the replies are ours.
use Rattle.std.specs.Prelude.{ℕ, suc, ◌-◌, min, Bool, false, not, ◌&&◌, nat_eq, nat_lt, Option}
use Rattle.std.specs.Prelude.{Some}
use Rattle.std.specs.Prelude.{None, Result, Ok, Err, List, [], ◌∷◌, ◌++◌, length, drop, map, filter}
use Rattle.std.specs.Prelude.{if◌then◌else◌}
use Rattle.std.specs.List.{list_any}
use Rattle.rp_base.specs.declared.action.Action.{Action}
use Rattle.rp_base.specs.declared.fault.Fault.{Fault}
use Rattle.rp_base.specs.declared.fault.Fault.TheVariants.{BadConfig}
use Rattle.rp_base.specs.declared.reply.Answer.{Answer}
use Rattle.rp_base.specs.declared.record.Vote.{Vote}
use Rattle.rp_base.specs.declared.record.Rec.{Rec}
use Rattle.rp_base.specs.declared.record.Rec.TheVariants.{Started, Promised, Voted, Learned}
use Rattle.rp_base.specs.declared.record.Rec.TheVariants.{PromisedRange}
use Rattle.rp_base.specs.Number.{in_range, window}
use Rattle.rp_base.specs.Ranges.{Range}
use Rattle.rp_base.specs.Sets.{with_member}
use Rattle.rp_base.specs.Records.{learned_at, applied_of, first_unlearned}
use Rattle.rp_base.specs.Promises.{same_heard, makes_majority, heard_elsewhere}
use Rattle.rp_base.specs.Proposals.{without_proposal}
use Rattle.rp_codec.specs.Message.{Message}
use Rattle.rp_codec.specs.declared.packet.Body.TheVariants as bodies
use Rattle.rp_machine.specs.Replay.{counted_of, replay_answers}
use Rattle.rp_model.specs.Parts.{Running}
use Rattle.rp_model.specs.Parts.{Turn}
use Rattle.rp_model.specs.Node.{RunningNode, nodes_of}
use Rattle.rp_model.specs.Says.{says, writes}
use Rattle.rp_model.specs.Pending.{stays, replies_to}
use Rattle.rp_model.specs.Leader.{is_beyond, unlearned_in}
use Rattle.rp_model.specs.declared.effect.Dropped.TheVariants.{No}
use Rattle.rp_model.specs.declared.plan.Plan.{Plan}
use Rattle.rp_model.specs.declared.plan.Plan.TheVariants as plans

-- the record learns an action above a position
abbrev pub learns_above : ℕ → Rec → Bool
learns_above i (Started ballot) = false
learns_above i (Promised position ballot) = false
learns_above i (Voted position ballot action) = false
learns_above i (Learned position action) = nat_lt i position
learns_above i (PromisedRange range ballot) = false

-- the first unlearned position, if a learned one lies above it
abbrev pub missing_position : List Rec → Option ℕ
missing_position records =
    if list_any (learns_above (first_unlearned records)) records then Some (first_unlearned records)
    else None

-- the question for a missing position
abbrev pub asks_for : ℕ → ℕ → Option ℕ → List Message
asks_for me from None = []
asks_for me from (Some i) = says me (bodies.Ask i) from ∷ []

-- a node's window: 64 positions from the first unlearned one on, or as many as the log has there
abbrev pub window_of : ℕ → List Rec → Range
window_of most records =
    let first = first_unlearned records in
    record { first = first; count = min window (suc most - first) }

-- the positions of the window at which nothing is learned, rising
abbrev pub missing_in_window : ℕ → List Rec → List ℕ
missing_in_window most records = unlearned_in records (window_of most records)

-- a question for each of these positions, to one node
abbrev pub asks_for_each : ℕ → ℕ → List ℕ → List Message
asks_for_each me to positions = map (λ i. says me (bodies.Ask i) to) positions

module _ {S : Type 0} (next : S → Action → S) (answers : S → Action → List Answer) (begin : S) where
  -- An action is learned at a position: the proposal there ends, the votes heard there are let go,
  -- and each answer that results goes to the task whose call is pending, between these packets and
  -- those.
  abbrev pub learns : ℕ → List Rec → Running → ℕ → Action → List Message → List Message → Turn
  learns me records running i v packets following =
      let before = applied_of records in
      let after = applied_of (records ++ Learned i v ∷ []) in
      let given = replay_answers next answers begin after in
      writes (Learned i v)
      (record running {
        proposals = without_proposal running.proposals i;
        heard = heard_elsewhere running.heard i;
        pending =
            filter (stays (counted_of next answers begin after) given (drop (length before) after))
            running.pending;
      })
      (packets ++ replies_to me running.pending
      (drop (length (replay_answers next answers begin before)) given)
      ++ following)

-- the answer to an Ask: what is learned, or nothing
abbrev pub ask_plan : ℕ → ℕ → Option Action → Plan
ask_plan from i None = plans.Pass No
ask_plan from i (Some v) = plans.Inform from i v

-- a decision, at a position that is learned or not
abbrev pub decision_plan : ℕ → ℕ → Action → Option Action → Plan
decision_plan from i v (Some learned) = plans.Pass No
decision_plan from i v None = plans.Follow from i v

-- The command to ask a node for what is missing in the window. It has to be another one of the
-- nodes.
abbrev pub on_ask_missing : {S : Type 0} → RunningNode S → ℕ → Result Plan Fault
on_ask_missing node to =
    if in_range 1 (nodes_of node) to && not (nat_eq to node.me) then Ok (plans.AskMissing to)
    else Err BadConfig

module _ {S : Type 0} (node : RunningNode S) (from i : ℕ) where
  -- Ask: a node asks what was decided at a position, and gets the answer if it is learned here
  abbrev pub on_ask : Plan
  on_ask = ask_plan from i (learned_at node.records i)

  -- a vote at a position that is learned, or not: if it makes a majority of one ballot and action
  -- the action is learned, else it is noted
  abbrev pub on_vote : Vote → Option Action → Plan
  on_vote vote (Some learned) = plans.Pass No
  on_vote vote None =
      if makes_majority (nodes_of node) i vote
      (with_member same_heard node.running.heard (from, i, vote))
      then plans.Learn i vote.action
      else plans.CountVote from i vote

  -- Accepted: a vote for an action at a position. Where that is too far above the first unlearned
  -- one, it is not noted.
  abbrev pub on_accepted : Vote → Plan
  on_accepted vote =
      if is_beyond node.records i then plans.Pass No
      else on_vote vote (learned_at node.records i)

  -- Decided: the action is learned unless the position is
  abbrev pub on_decided : Action → Plan
  on_decided v = decision_plan from i v (learned_at node.records i)
