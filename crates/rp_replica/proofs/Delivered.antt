-- What a packet that was delivered led to, where its plan was carried out at once.
use Rattle.std.proofs.Common.{arith, ◌≡◌, ◌≢◌, ◌∙◌, ◌≤◌, ◌++◌, ◌∷◌, [], zero, suc, ℕ, Bool, List, Option, Some, None, is_some, if◌then◌else◌, false, sym, ap}
use Rattle.std.specs.Prelude.{slice_get, Result, Ok}
use Rattle.std.specs.Result.{IsErrAnd}
use Rattle.rp_base.specs.declared.action.Action.{Action}
use Rattle.rp_base.specs.declared.fault.Fault.{Fault}
use Rattle.rp_base.specs.declared.fault.WriteFault.{WriteFault}
use Rattle.rp_base.specs.declared.record.Rec.{Rec}
use Rattle.rp_base.specs.declared.record.Vote.{Vote as CastVote}
use Rattle.rp_base.specs.declared.reply.Answer.{Answer}
use Rattle.rp_base.specs.declared.voting.AcceptAnswer.TheVariants as accepts
use Rattle.rp_base.specs.declared.voting.PrepareAnswer.TheVariants as prepares
use Rattle.rp_base.specs.Proposals.{proposal_at}
use Rattle.rp_base.specs.Records.{learned_at}
use Rattle.rp_base.specs.Voting.{accept_answer, prepare_answer}
use Rattle.rp_base.specs.WriteFaults.{fault_of}
use Rattle.rp_codec.specs.Message.{Message, IsPacket}
use Rattle.rp_codec.specs.Reading.{all_of}
use Rattle.rp_codec.specs.Text.{text_of}
use Rattle.rp_codec.proofs.Decoded.{whole_again}
use Rattle.rp_codec.specs.declared.packet.Body.{Body}
use Rattle.rp_codec.specs.declared.usual_texts.Header.{Header}
use Rattle.rp_rules.specs.rp_learner.specs.declared.learner.VoteStatus.{VoteStatus}
use Rattle.std.proofs.lemmas.List.{map-append}
use Rattle.rp_model.specs.rp_machine.specs.Replay.{one_to}
use Rattle.rp_model.specs.Acceptor.{answer_to, accept_plan, on_accept, on_prepare, prepare_plan}
use Rattle.rp_model.specs.Effect.{NodeInput}
use Rattle.rp_model.specs.Leader.{on_promise}
use Rattle.rp_model.specs.Learner.{decision_plan, on_accepted, on_decided}
use Rattle.rp_model.specs.Node.{RunningNode}
use Rattle.rp_model.specs.Parts.{Turn}
use Rattle.rp_model.specs.Plans.{written_by, dropped_by}
use Rattle.rp_model.specs.Says.{says, says_to_all}
use Rattle.rp_model.specs.declared.effect.Dropped.{Dropped}
use Rattle.rp_model.specs.declared.effect.Dropped.TheVariants.{No}
use Rattle.rp_model.specs.declared.plan.CountedPromise.{CountedPromise}
use Rattle.rp_model.specs.declared.plan.Plan.{Plan}
use Rattle.rp_model.specs.declared.plan.Plan.TheVariants as plans
use Rattle.rp_rules.specs.rp_proposer.specs.Proposing.{progress_in, waits_for_promises}
use Rattle.rp_rules.specs.rp_proposer.specs.declared.proposal.Progress.{Progress}
use Rattle.rp_rules.specs.rp_proposer.specs.declared.proposal.Progress.TheVariants.{Waiting}
use Rattle.rp_rules.specs.Inputs.{running_server, packet_given}
use Rattle.rp_rules.proofs.Accepted.{accepted_plan, status_plan}
use Rattle.rp_rules.specs.rp_server.specs.State.{ServerState}
use Rattle.rp_rules.specs.rp_server.specs.Status.{status_of}
use Rattle.rp_rules.specs.rp_server.proofs.Promising.{plan_is, plan_waits, promise_plan}
use Rattle.rp_rules.specs.Plans.{turn_of_plan, IsPlanOf, TakesNoMemory}
use Rattle.rp_replica.specs.Committing.{Commits}
use Rattle.rp_replica.specs.Inputs.{replica_effect, effect_if_given}
use Rattle.rp_replica.specs.State.{ReplicaState, server_of}
use Rattle.rp_replica.specs.Turning.{AnswersOnto, Stops}
use Rattle.rp_replica.proofs.Certain.{plan_takes_none}
use Rattle.rp_replica.proofs.Planned.{planned}
use Rattle.rp_replica.proofs.Planning.{committed, refused}

-- these bytes are the text of the packet that was sent at this place
abbrev pub IsTextAt : List Message → ℕ → List ℕ → Type 0
IsTextAt before place bytes = (m : Message) → slice_get before place ≡ Some m → (bytes ≡ text_of m) × IsPacket m

-- ---- the plan, by what was answered

module _ {S : Type 0} (next : S → Action → S) (answers : S → Action → List Answer) (server : ServerState S) (bytes : List ℕ) where
  abbrev node : RunningNode S
  node = running_server next answers server

  pub promised_plan : (header answer : Header) (last : Option CastVote) (rec : Rec) → IsPlanOf next answers server bytes (on_prepare node header.from header.position header.ballot)
      → prepares.Promise last rec ≡ prepare_answer server.records header.position header.ballot → answer ≡ answer_to server.me header.from header.position header.ballot
      → IsPlanOf next answers server bytes (plans.Promise answer last)
  promised_plan header answer last rec is promised to =
      is ∙ ap Ok (sym (ap (λ (h : Header). plans.Promise h last) to ∙ ap (prepare_plan (answer_to server.me header.from header.position header.ballot)) promised))

  pub vote_plan : (header answer : Header) (v : Action) (rec : Rec) → IsPlanOf next answers server bytes (on_accept node header.from header.position header.ballot v)
      → accepts.Vote rec ≡ accept_answer server.records header.position header.ballot v → answer ≡ answer_to server.me header.from header.position header.ballot
      → IsPlanOf next answers server bytes (plans.Vote answer v)
  vote_plan header answer v rec is voted to =
      is ∙ ap Ok (sym (ap (λ (h : Header). plans.Vote h v) to ∙ ap (accept_plan (answer_to server.me header.from header.position header.ballot) v) voted))

  pub progress_plan : (promise : CountedPromise) (progress : Progress) → IsPlanOf next answers server bytes (on_promise node promise)
      → progress ≡ progress_in server.config.nodes promise.ballot (promise.from, promise.last) (proposal_at server.running.proposals promise.position)
      → IsPlanOf next answers server bytes (promise_plan promise (waits_for_promises (proposal_at server.running.proposals promise.position)) progress)
  progress_plan promise progress is counted = is ∙ ap Ok (sym (plan_is node promise progress counted))

  pub waiting_plan : (promise : CountedPromise) (waits : Bool) → IsPlanOf next answers server bytes (on_promise node promise) → waits ≡ waits_for_promises (proposal_at server.running.proposals promise.position)
      → Waiting ≡ progress_in server.config.nodes promise.ballot (promise.from, promise.last) (proposal_at server.running.proposals promise.position)
      → IsPlanOf next answers server bytes (promise_plan promise waits Waiting)
  waiting_plan promise waits is waited counted = is ∙ ap Ok (sym (plan_waits node promise waits waited counted))

  pub heard_plan : (from i : ℕ) (vote : CastVote) (status : VoteStatus) → IsPlanOf next answers server bytes (on_accepted node from i vote)
      → status ≡ status_of server.config.nodes server.records server.running.heard from i vote → IsPlanOf next answers server bytes (status_plan node from i vote status)
  heard_plan from i vote status is heard = is ∙ ap Ok (sym (ap (status_plan node from i vote) heard ∙ accepted_plan node from i vote))

  known_or_not : (from i : ℕ) (v : Action) (learned : Option Action) (known : Bool) → known ≡ is_some learned → decision_plan from i v learned ≡ (if known then plans.Pass No else plans.Follow from i v)
  known_or_not from i v (Some w) known is = sym (ap (λ (b : Bool). if b then plans.Pass No else plans.Follow from i v) is)
  known_or_not from i v None known is = sym (ap (λ (b : Bool). if b then plans.Pass No else plans.Follow from i v) is)

  pub decided_plan : (from i : ℕ) (v : Action) (known : Bool) → IsPlanOf next answers server bytes (on_decided node from i v) → known ≡ is_some (learned_at server.records i)
      → IsPlanOf next answers server bytes (if known then plans.Pass No else plans.Follow from i v)
  decided_plan from i v known is learned = is ∙ ap Ok (known_or_not from i v (learned_at server.records i) known learned)

-- ---- the plan carried out

module _ {S : Type 0} (next : S → Action → S) (answers : S → Action → List Answer) (replica : ReplicaState S) (before : List Message) (place : ℕ) (bytes : List ℕ) (plan : Plan) where
  -- the packet of these bytes has the turn of this plan
  abbrev pub HasPlan : Type 0
  HasPlan = IsTextAt before place bytes × IsPlanOf next answers (server_of replica) bytes plan

  turned : HasPlan → (m : Message) → slice_get before place ≡ Some m → Ok (turn_of_plan next answers (server_of replica) plan) ≡ replica_effect next answers replica (NodeInput.Receive m)
  turned has m at =
      let text = has.0 m at in
      let given = ap (λ (l : List ℕ). packet_given (all_of l)) text.0 ∙ ap packet_given (whole_again m text.1) in
      planned next answers (server_of replica) (packet_given (all_of bytes)) plan (sym has.1) ∙ ap (effect_if_given next answers replica) given

  -- it was carried out
  pub carried_out : HasPlan → (new : ReplicaState S) (after : List Message) (dropped : Dropped) → replica.failed ≡ false → Commits (turn_of_plan next answers (server_of replica) plan) replica new before after → dropped ≡ dropped_by plan
      → (m : Message) → slice_get before place ≡ Some m → AnswersOnto (replica_effect next answers replica (NodeInput.Receive m)) replica new before after (Ok dropped)
  carried_out has new after dropped working commits is m at =
      committed next answers replica (replica_effect next answers replica (NodeInput.Receive m)) plan new before after dropped (turned has m at) working commits is

  -- it was not
  pub not_carried_out : HasPlan → (new : ReplicaState S) (after : List Message) (answer : Result Dropped Fault) (fault : WriteFault) → IsErrAnd answer (λ e. e ≡ fault_of fault) → Stops (written_by plan) replica new (fault_of fault) → after ≡ before
      → (m : Message) → slice_get before place ≡ Some m → AnswersOnto (replica_effect next answers replica (NodeInput.Receive m)) replica new before after answer
  not_carried_out has new after answer fault is stops unsent m at =
      refused next answers replica (replica_effect next answers replica (NodeInput.Receive m)) plan new before after answer fault is (turned has m at) stops unsent

  -- its turn takes memory where the plan does
  pub takes_memory : HasPlan → (¬ TakesNoMemory replica.running (turn_of_plan next answers (server_of replica) plan)) → (m : Message) → slice_get before place ≡ Some m
      → (turn : Turn) → replica_effect next answers replica (NodeInput.Receive m) ≡ Ok turn → ¬ TakesNoMemory replica.running turn
  takes_memory has takes m at turn is = λ free. takes (plan_takes_none next answers replica (replica_effect next answers replica (NodeInput.Receive m)) plan turn (turned has m at) is free)

-- ---- a packet to each node

ends : (packets : List Message) (last : Message) → packets ++ (last ∷ []) ≡ [] → ⊥
ends [] last none = absurd cc
ends (packet ∷ packets) last none = absurd cc

-- there is a node to which it goes
pub goes_to_some : (nodes me : ℕ) (body : Body) → 3 ≤ nodes → says_to_all nodes me body ≢ []
goes_to_some zero me body some none = absurd (omega (arith, some))
goes_to_some (suc n) me body some none = ends (says_to_all n me body) (says me body (suc n)) (sym (map-append (says me body) (one_to n) (suc n ∷ [])) ∙ none)
