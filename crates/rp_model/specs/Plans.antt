-- What a plan does: the record that it writes, what it drops, and its whole turn.
use Rattle.std.specs.Prelude.{ℕ, Option, Some, None, List, [], ◌∷◌, ◌++◌, ◌-◌, length, take, drop}
use Rattle.std.specs.Prelude.{if◌then◌else◌}
use Rattle.rp_base.specs.declared.action.Action.{Action}
use Rattle.rp_base.specs.declared.record.Rec.{Rec}
use Rattle.rp_base.specs.declared.record.Vote.{Vote as CastVote}
use Rattle.rp_base.specs.declared.record.Rec.TheVariants.{Started, Promised, Voted, Learned}
use Rattle.rp_base.specs.declared.record.Rec.TheVariants.{PromisedRange}
use Rattle.rp_base.specs.PlacedVotes.{last_votes}
use Rattle.rp_base.specs.Promises.{Promise as Promised_by, same_heard}
use Rattle.rp_base.specs.Proposals.{Proposal, new_proposal, proposal_at, with_proposal}
use Rattle.rp_base.specs.Proposals.{takes_promise, after_promise, is_prepared, as_offered}
use Rattle.rp_base.specs.Records.{applied_of}
use Rattle.rp_base.specs.Sets.{with_member}
use Rattle.rp_codec.specs.Message.{Message, report_len}
use Rattle.rp_codec.specs.declared.packet.Party.TheVariants.{Node, Audit}
use Rattle.rp_codec.specs.declared.packet.Body.TheVariants as bodies
use Rattle.rp_model.specs.Parts.{Running}
use Rattle.rp_model.specs.Parts.{Turn}
use Rattle.rp_model.specs.Node.{RunningNode, nodes_of}
use Rattle.rp_model.specs.Leader.{begun_running, on_promise_range, on_nack}
use Rattle.rp_model.specs.Learner.{learns, asks_for, missing_position}
use Rattle.rp_model.specs.Learner.{asks_for_each, missing_in_window}
use Rattle.rp_model.specs.Says.{says, says_to_all, says_to_others, says_to_task, sends, notes}
use Rattle.rp_model.specs.Says.{writes}
use Rattle.rp_model.specs.declared.effect.Dropped.{Dropped}
use Rattle.rp_model.specs.declared.effect.Dropped.TheVariants.{No}
use Rattle.rp_model.specs.declared.plan.CountedPromise.{CountedPromise}
use Rattle.rp_model.specs.declared.plan.Plan.{Plan}
use Rattle.rp_model.specs.declared.plan.Plan.TheVariants.{Pass, Promise, PromiseRange, Vote, Repeat}
use Rattle.rp_model.specs.declared.plan.Plan.TheVariants.{Refuse, Inform, Answer as Reply, Await}
use Rattle.rp_model.specs.declared.plan.Plan.TheVariants.{Lead, LeadRange, OfferPrepared}
use Rattle.rp_model.specs.declared.plan.Plan.TheVariants.{CountPromise, CountRangePromise, Offer}
use Rattle.rp_model.specs.declared.plan.Plan.TheVariants.{Yield, CountVote, Learn, Follow, Report}
use Rattle.rp_model.specs.declared.plan.Plan.TheVariants.{AskMissing}

-- the record that a plan writes, if it writes one
abbrev pub written_by : Plan → Option Rec
written_by (Promise header last) = Some (Promised header.position header.ballot)
written_by (PromiseRange p) = Some (PromisedRange p.range p.ballot)
written_by (Vote header v) = Some (Voted header.position header.ballot v)
written_by (Lead i b own) = Some (Started b)
written_by (LeadRange range b) = Some (Started b)
written_by (Learn i v) = Some (Learned i v)
written_by (Follow from i v) = Some (Learned i v)
written_by _ = None

-- what a plan drops
abbrev pub dropped_by : Plan → Dropped
dropped_by (Pass dropped) = dropped
dropped_by _ = No

-- ---- what is known afterwards

-- the proposal, if one runs, takes the promise where it counts
abbrev pub promised_running : ℕ → Running → ℕ → Promised_by → Option Proposal → Running
promised_running nodes running b promise None = running
promised_running nodes running b promise (Some p) = record running {
  proposals = with_proposal running.proposals
      (if takes_promise b p then after_promise nodes p promise else p);
}

-- the proposal, if a prepared one runs, offers: this is its own action where no promise reports a
-- vote
abbrev pub offered_running : ℕ → Running → Action → Option Proposal → Running
offered_running nodes running own None = running
offered_running nodes running own (Some p) = record running {
  proposals =
      with_proposal running.proposals (if is_prepared nodes p then as_offered own p else p);
}

-- a proposal begins at the position in the ballot, with this action of its own
abbrev pub started_running : Running → ℕ → ℕ → Action → Running
started_running running i b own =
    record running { proposals = with_proposal running.proposals (new_proposal i b (Some own)) }

-- a vote is noted
abbrev pub heard_running : Running → ℕ → ℕ → CastVote → Running
heard_running running from i vote =
    record running { heard = with_member same_heard running.heard (from, i, vote) }

-- a report to the audit of these applied actions, from a position on
abbrev pub report_of : ℕ → ℕ → List Action → Message
report_of me first applied =
    let stated = take (report_len first (length applied)) (drop (first - 1) applied) in
    record { from = Node me; to = Audit; body = bodies.Report first (length applied) stated }

module _ {S : Type 0} (node : RunningNode S) where
  -- what is known once a promise is noted
  abbrev pub once_counted : CountedPromise → Running
  once_counted p =
      promised_running (nodes_of node) node.running p.ballot (p.from, p.last)
      (proposal_at node.running.proposals p.position)

  -- an action is learned at a position, between these packets and those
  abbrev pub once_learned : ℕ → Action → List Message → List Message → Turn
  once_learned i v packets following =
      let s = node.setting in
      learns s.next s.answers s.begin node.me node.records node.running i v packets following

  -- the turn that a plan is
  abbrev pub turn_of : Plan → Turn
  turn_of (Pass dropped) =
      record { written = None; sent = []; running = node.running; dropped = dropped }
  turn_of (Promise header last) = writes (Promised header.position header.ballot) node.running
      (says node.me (bodies.Promise header.position header.ballot last) header.to ∷ [])
  turn_of (PromiseRange p) = writes (PromisedRange p.range p.ballot) node.running
      (says node.me (bodies.PromiseRange p.range p.ballot (last_votes node.records p.range)) p.to
      ∷ [])
  turn_of (Vote header v) = writes (Voted header.position header.ballot v) node.running
      (says node.me (bodies.Accepted header.position header.ballot v) header.to ∷ [])
  turn_of (Repeat to i b v) = sends node.running (says node.me (bodies.Accepted i b v) to ∷ [])
  turn_of (Refuse to i b bound) = sends node.running (says node.me (bodies.Nack i b bound) to ∷ [])
  turn_of (Inform to i v) = sends node.running (says node.me (bodies.Decided i v) to ∷ [])
  turn_of (Reply task number reply) =
      sends node.running (says_to_task node.me (bodies.Reply number reply) task ∷ [])
  turn_of (Await item) =
      notes (record node.running { pending = node.running.pending ++ item ∷ [] })
  turn_of (Lead i b own) = writes (Started b) (started_running node.running i b own)
      (says_to_all (nodes_of node) node.me (bodies.Prepare i b))
  turn_of (LeadRange range b) =
      writes (Started b) (begun_running node.records node.running range b)
      (says_to_all (nodes_of node) node.me (bodies.PrepareRange range b))
  turn_of (OfferPrepared i b v) =
      sends (offered_running (nodes_of node) node.running v
      (proposal_at node.running.proposals i))
      (says_to_all (nodes_of node) node.me (bodies.Accept i b v))
  turn_of (CountPromise promise) = notes (once_counted promise)
  turn_of (CountRangePromise p) = on_promise_range (nodes_of node) node.running p
  turn_of (Offer promise v) =
      sends (once_counted promise)
      (says_to_all (nodes_of node) node.me (bodies.Accept promise.position promise.ballot v))
  turn_of (Yield i b bound) = on_nack (nodes_of node) node.running i b bound
  turn_of (CountVote from i vote) = notes (heard_running node.running from i vote)
  turn_of (Learn i v) =
      once_learned i v (says_to_others (nodes_of node) node.me (bodies.Decided i v)) []
  turn_of (Follow from i v) =
      once_learned i v []
      (asks_for node.me from (missing_position (node.records ++ Learned i v ∷ [])))
  turn_of (Report first) =
      sends node.running (report_of node.me first (applied_of node.records) ∷ [])
  turn_of (AskMissing to) = sends node.running
      (asks_for_each node.me to
      (missing_in_window node.setting.config.max_positions node.records))
