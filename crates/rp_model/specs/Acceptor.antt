-- What a node decides as an acceptor. Lamport, "Paxos Made Simple", section 2.2.
use Rattle.std.specs.Prelude.{ℕ}
use Rattle.rp_base.specs.declared.action.Action.{Action}
use Rattle.rp_base.specs.declared.voting.PrepareAnswer.{PrepareAnswer}
use Rattle.rp_base.specs.declared.voting.PrepareAnswer.TheVariants as prepares
use Rattle.rp_base.specs.Ranges.{Range}
use Rattle.rp_base.specs.declared.voting.RangeAnswer.{RangeAnswer}
use Rattle.rp_base.specs.declared.voting.RangeAnswer.TheVariants as range_prepares
use Rattle.rp_base.specs.declared.voting.AcceptAnswer.{AcceptAnswer}
use Rattle.rp_base.specs.declared.voting.AcceptAnswer.TheVariants as accepts
use Rattle.rp_base.specs.Voting.{prepare_answer, range_answer, accept_answer}
use Rattle.rp_codec.specs.declared.usual_texts.Header.{Header}
use Rattle.rp_model.specs.Node.{RunningNode}
use Rattle.rp_model.specs.declared.effect.Dropped.TheVariants.{No}
use Rattle.rp_model.specs.declared.plan.Plan.{Plan}
use Rattle.rp_model.specs.declared.plan.Plan.TheVariants as plans
use Rattle.rp_model.specs.declared.plan.RangePromise.{RangePromise}

-- what an answer of this node names: to whom it goes, at which position, in which ballot
abbrev pub answer_to : ℕ → ℕ → ℕ → ℕ → Header
answer_to me from i b = record { from = me; to = from; position = i; ballot = b }

-- the answer to a Prepare: a promise, a refusal, or nothing
abbrev pub prepare_plan : Header → PrepareAnswer → Plan
prepare_plan header (prepares.Promise last rec) = plans.Promise header last
prepare_plan header (prepares.Nack bound) =
    plans.Refuse header.to header.position header.ballot bound
prepare_plan header prepares.Silent = plans.Pass No

-- the answer to a PrepareRange: a promise for the range, a refusal, or nothing
abbrev pub range_plan : RangePromise → RangeAnswer → Plan
range_plan promise (range_prepares.Promise votes rec) = plans.PromiseRange promise
range_plan promise (range_prepares.Nack i bound) = plans.Refuse promise.to i promise.ballot bound
range_plan promise range_prepares.Silent = plans.Pass No

-- the answer to an Accept: a vote, a vote again, a refusal, or nothing
abbrev pub accept_plan : Header → Action → AcceptAnswer → Plan
accept_plan header v (accepts.Vote rec) = plans.Vote header v
accept_plan header v accepts.Again = plans.Repeat header.to header.position header.ballot v
accept_plan header v (accepts.Nack bound) =
    plans.Refuse header.to header.position header.ballot bound
accept_plan header v accepts.Silent = plans.Pass No

module _ {S : Type 0} (node : RunningNode S) (from : ℕ) where
  -- Prepare: a node asks for a promise at a position in a ballot
  abbrev pub on_prepare : ℕ → ℕ → Plan
  on_prepare i b = prepare_plan (answer_to node.me from i b) (prepare_answer node.records i b)

  -- PrepareRange: a node asks for a promise at each position of a range in a ballot
  abbrev pub on_prepare_range : Range → ℕ → Plan
  on_prepare_range range b =
      range_plan (record { to = from; range = range; ballot = b })
      (range_answer node.records range b)

  -- Accept: a node asks for a vote for an action at a position in a ballot
  abbrev pub on_accept : ℕ → ℕ → Action → Plan
  on_accept i b v =
      accept_plan (answer_to node.me from i b) v (accept_answer node.records i b v)
