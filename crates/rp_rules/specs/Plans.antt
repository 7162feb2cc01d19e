-- The result of a plan, and when it may be committed.
use Rattle.std.specs.Prelude.{◌≡◌, ℕ, ◌+◌, ◌<◌, ◌≤◌, Bool, true, false, Ok}
use Rattle.std.specs.Prelude.{None, IfSome, List, [], length}
use Rattle.std.specs.List.{AllByRecursion}
use Rattle.rp_base.specs.Action.{IsRight, IsCount}
use Rattle.rp_base.specs.Ballot.{IsAbove}
use Rattle.rp_base.specs.Number.{IsPosition, window}
use Rattle.rp_base.specs.Right.{IsRightVote}
use Rattle.rp_base.specs.Records.{learned_at, first_unlearned}
use Rattle.rp_base.specs.PlacedVotes.{AreReported, last_votes}
use Rattle.rp_base.specs.Ranges.{Range, end_of}
use Rattle.rp_base.specs.declared.action.Action.{Action}
use Rattle.rp_base.specs.declared.reply.Answer.{Answer}
use Rattle.rp_base.specs.declared.record.Vote.{Vote as CastVote}
use Rattle.rp_model.specs.rp_codec.specs.Message.{IsVoteBelow}
use Rattle.rp_server.specs.rp_learner.specs.declared.learner.VoteStatus.TheVariants.{Counting}
use Rattle.rp_model.specs.Parts.{Running}
use Rattle.rp_model.specs.Parts.{Turn}
use Rattle.rp_model.specs.Leader.{starts_above}
use Rattle.rp_model.specs.Pending.{most_pending}
use Rattle.rp_model.specs.rp_codec.specs.Reading.{all_of}
use Rattle.rp_model.specs.Plans.{turn_of as turn_by}
use Rattle.rp_rules.specs.Inputs.{running_server, packet_given, plan_if_given}
use Rattle.rp_model.specs.declared.plan.CountedPromise.{CountedPromise}
use Rattle.rp_model.specs.declared.plan.CountedRange.{CountedRange}
use Rattle.rp_model.specs.declared.plan.RangePromise.{RangePromise}
use Rattle.rp_model.specs.declared.plan.Plan.{Plan}
use Rattle.rp_model.specs.declared.plan.Plan.TheVariants.{Promise, PromiseRange, Vote, Repeat}
use Rattle.rp_model.specs.declared.plan.Plan.TheVariants.{Refuse, Inform, Answer as Reply, Await}
use Rattle.rp_model.specs.declared.plan.Plan.TheVariants.{Lead, LeadRange, OfferPrepared}
use Rattle.rp_model.specs.declared.plan.Plan.TheVariants.{CountPromise, CountRangePromise, Offer}
use Rattle.rp_model.specs.declared.plan.Plan.TheVariants.{CountVote, Learn, Follow, Report}
use Rattle.rp_server.specs.State.{ServerState}
use Rattle.rp_server.specs.Status.{status_of}

module _ {S : Type 0} (next : S → Action → S) (answers : S → Action → List Answer)
    (server : ServerState S) where
  -- the turn that a plan is
  abbrev pub turn_of_plan : Plan → Turn
  turn_of_plan plan = turn_by (running_server next answers server) plan

-- the turn takes no memory: it writes no record, sends no packet and counts no vote
pub record TakesNoMemory (old : Running) (turn : Turn) : Type 0 where
  pub written : turn.written ≡ None
  pub sent : turn.sent ≡ []
  pub heard : turn.running.heard ≡ old.heard

-- ---- what the rules saw, so that a plan may be committed

-- the position is within the log, and the action right
abbrev pub MayLearn : {S : Type 0} → ServerState S → ℕ → Action → Type 0
MayLearn server i v = (i ≤ server.config.max_positions) × IsRight v

-- a proposal may begin: the action is right, the ballot the next one, the position unlearned and
-- within reach
pub record MayBegin {S : Type 0} (server : ServerState S) (i b : ℕ) (own : Action) : Type 0 where
  pub right : IsRight own
  pub ballot : IsAbove server.me (starts_above server.records server.running) b
  pub unlearned : learned_at server.records i ≡ None
  pub reach : i < first_unlearned server.records + window

-- the range begins within the log, and the last votes there may be reported for the ballot
abbrev pub MayPromiseRange : {S : Type 0} → ServerState S → RangePromise → Type 0
MayPromiseRange server p =
    (p.range.first ≤ server.config.max_positions)
    × AreReported p.range p.ballot (last_votes server.records p.range)

-- proposals may begin at a range: the ballot is the next one, and the range ends within reach
pub record MayBeginRange {S : Type 0} (server : ServerState S) (range : Range) (b : ℕ)
    : Type 0 where
  pub ballot : IsAbove server.me (starts_above server.records server.running) b
  pub reach : end_of range ≤ first_unlearned server.records + window

-- one of the nodes promised for a range, and reports right votes
abbrev pub MayCountRange : {S : Type 0} → ServerState S → CountedRange → Type 0
MayCountRange server p =
    (p.from ≤ server.config.nodes) × AllByRecursion (λ placed. IsRightVote placed.vote) p.votes

-- one of the nodes promised, and reports a right vote
abbrev pub MayCount : {S : Type 0} → ServerState S → CountedPromise → Type 0
MayCount server promise = (promise.from ≤ server.config.nodes) × IfSome promise.last IsRightVote

-- one of the nodes voted, and its vote is to be counted
pub record MayHear {S : Type 0} (server : ServerState S) (from i : ℕ) (vote : CastVote)
    : Type 0 where
  pub sender : from ≤ server.config.nodes
  pub position : IsPosition i
  pub counting : status_of server.config.nodes server.records server.running.heard from i vote
      ≡ Counting

abbrev pub MayCommit : {S : Type 0} → ServerState S → Plan → Type 0
MayCommit server (Promise header last) =
    (header.from ≡ server.me) × (header.position ≤ server.config.max_positions)
    × IfSome last (IsVoteBelow header.ballot)
MayCommit server (PromiseRange p) = MayPromiseRange server p
MayCommit server (Vote header v) = (header.from ≡ server.me) × MayLearn server header.position v
MayCommit server (Repeat to i b v) = IsRight v
MayCommit server (Refuse to i b bound) = b < bound
MayCommit server (Inform to i v) = IsRight v
MayCommit server (Reply task number reply) = IsCount number
MayCommit server (Await item) = length server.running.pending < most_pending
MayCommit server (Lead i b own) = MayBegin server i b own
MayCommit server (LeadRange range b) = MayBeginRange server range b
MayCommit server (OfferPrepared i b v) = IsRight v
MayCommit server (CountPromise promise) = MayCount server promise
MayCommit server (CountRangePromise promise) = MayCountRange server promise
MayCommit server (Offer promise v) = MayCount server promise × IsRight v
MayCommit server (CountVote from i vote) = MayHear server from i vote
MayCommit server (Learn i v) = MayLearn server i v
MayCommit server (Follow from i v) = MayLearn server i v
MayCommit server _ = Unit {0}

-- the plan sends and changes nothing
abbrev pub OnlySends : Plan → Type 0
OnlySends (Repeat to i b v) = Unit {0}
OnlySends (Refuse to i b bound) = Unit {0}
OnlySends (Inform to i v) = Unit {0}
OnlySends (Reply task number reply) = Unit {0}
OnlySends (Report first) = Unit {0}
OnlySends _ = ⊥

-- these bytes are a packet, of which the node decides this
abbrev pub IsPlanOf : {S : Type 0} → (S → Action → S) → (S → Action → List Answer)
    → ServerState S → List ℕ → Plan → Type 0
IsPlanOf next answers server bytes plan =
    plan_if_given next answers server (packet_given (all_of bytes)) ≡ Ok plan

-- What the function of a usual kind makes of bytes: they are no text of that kind, and the plan
-- stays; or it decides what the rules say of their packet.
abbrev pub Decides : {S : Type 0} → (S → Action → S) → (S → Action → List Answer) → ServerState S
    → List ℕ → Plan → Plan → Bool → Type 0
Decides next answers server bytes before after false = after ≡ before
Decides next answers server bytes before after true = MayCommit server after
    × (Ok after ≡ plan_if_given next answers server (packet_given (all_of bytes)))
