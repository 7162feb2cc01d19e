-- What the rule of each plan saw.
use Rattle.std.proofs.Common.{◌≡◌, ℕ, ℤ, ◌<◌, Bool, true, false, if◌then◌else◌, Option, Some, None, Result, Ok, Err, List, [], ◌∷◌, length, refl, sym, ap, subst, ◌∙◌}
use Rattle.std.specs.Prelude.{◌&&◌, not, IfErr, find, nat_eq, nat_lt, is_some, unwrap_or}
use Rattle.rp_base.specs.Number.{in_range}
use Rattle.std.specs.List.{list_any}
use Rattle.std.proofs.lemmas.Bool.{ltb-true, and_parts}
use Rattle.rp_base.specs.declared.action.Action.{Action}
use Rattle.rp_base.specs.declared.action.Action.TheVariants as actions
use Rattle.rp_base.specs.declared.action.Operation.{Operation}
use Rattle.rp_base.specs.declared.fault.Fault.{Fault}
use Rattle.rp_base.specs.declared.fault.Fault.TheVariants.{BallotsSpent, LogFull, BadConfig}
use Rattle.rp_base.specs.declared.proposal.Phase.TheVariants.{Offering}
use Rattle.rp_base.specs.declared.voting.AcceptAnswer.{AcceptAnswer}
use Rattle.rp_base.specs.declared.record.Rec.TheVariants.{Promised, PromisedRange, Voted}
use Rattle.rp_base.specs.declared.record.Vote.{Vote as CastVote}
use Rattle.rp_base.specs.declared.reply.Reply.{Reply as CallReply}
use Rattle.rp_base.specs.declared.voting.PrepareAnswer.TheVariants as prepares
use Rattle.rp_base.specs.declared.voting.AcceptAnswer.TheVariants as accepts
use Rattle.rp_base.specs.declared.voting.RangeAnswer.TheVariants as range_prepares
use Rattle.rp_base.specs.PlacedVotes.{last_votes}
use Rattle.rp_base.specs.Promises.{offer_of, action_or, highest_vote, makes_majority}
use Rattle.rp_base.specs.Proposals.{Proposal, proposal_at, with_proposal, takes_promise, with_promise, is_promised, after_promise, is_prepared, as_offered, own_unless}
use Rattle.rp_base.specs.Ranges.{Range, positions_of, range_of}
use Rattle.rp_base.specs.Records.{learned_at, bound_at, last_vote_at}
use Rattle.rp_base.specs.Voting.{is_above_bounds, refusing_position, range_refusal, accept_answer, vote_answer}
use Rattle.rp_base.specs.Action.{same_action}
use Rattle.rp_codec.specs.Message.{Message}
use Rattle.rp_codec.specs.declared.packet.Body.{Body}
use Rattle.rp_codec.specs.declared.packet.Body.TheVariants as bodies
use Rattle.rp_codec.specs.declared.usual_texts.Header.{Header}
use Rattle.rp_machine.specs.Asked.{last_number, last_occurrence, kept_reply}
use Rattle.rp_model.specs.Acceptor.{answer_to, prepare_plan, range_plan, accept_plan}
use Rattle.rp_model.specs.Arrivals.{adds_pending, on_numbered, on_call}
use Rattle.rp_model.specs.Effect.{NodeInput, Receive, Lead, LeadRange, Interrupt, Tick, Report, Ask, plan_of, turn_if}
use Rattle.rp_model.specs.Leader.{chosen_position, is_beyond, is_out_of_reach, unlearned_in, ballot_of, is_exhausted, begins_if, leads_at, on_lead, on_lead_range, counts_promise, on_promise_to}
use Rattle.rp_model.specs.Learner.{ask_plan, decision_plan, on_vote}
use Rattle.rp_model.specs.Node.{RunningNode, nodes_of, counted_by, given_by, own_for}
use Rattle.rp_model.specs.Parts.{Running, Turn}
use Rattle.rp_model.specs.Pending.{most_pending, is_same_call}
use Rattle.rp_model.specs.Plans.{turn_of, promised_running, offered_running, once_counted, heard_running}
use Rattle.rp_model.specs.Receiving.{is_node, is_no_node_above, is_allowed, is_for_node, sender_number, on_body}
use Rattle.rp_model.specs.declared.effect.Dropped.TheVariants.{No, Full, Foreign}
use Rattle.rp_model.specs.declared.plan.CountedPromise.{CountedPromise}
use Rattle.rp_model.specs.declared.plan.RangePromise.{RangePromise}
use Rattle.rp_model.specs.declared.plan.Plan.{Plan}
use Rattle.rp_model.specs.declared.plan.Plan.TheVariants as plans

-- what is found passes the test
found_test : {A : Type 0} (test : A → Bool) (x : A) (xs : List A) → find test xs ≡ Some x → test x ≡ true
found_test test x [] e = absurd cc
found_test {A} test x (y ∷ xs) e = by (test y) refl e (found_test test x xs)
  where
    by : (t : Bool) → test y ≡ t → (if t then Some y else find test xs) ≡ Some x → (find test xs ≡ Some x → test x ≡ true) → test x ≡ true
    by true is same later = subst (λ (z : A). test z ≡ true) (ap (λ (o : Option A). unwrap_or o y) same) is
    by false is rest later = later rest

-- an action of its own where no vote is reported
own_or : (own : Action) (o : Option CastVote) → own_unless (action_or own o) o ≡ own_unless own o
own_or own None = refl
own_or own (Some vote) = refl

module _ {S : Type 0} (node : RunningNode S) (input : NodeInput) where
  -- a packet of this body came from this sender, for this node and within the configuration
  pub record Came (from : ℕ) (body : Body) : Type 0 where
    pub message : Message
    pub input_is : input ≡ Receive message
    pub taken : is_for_node node.setting.config node.me message ≡ true
    pub sender : sender_number message.from ≡ from
    pub says : message.body ≡ body

  -- ---- an acceptor's answers

  pub record SawPrepare (header : Header) (last : Option CastVote) : Type 0 where
    pub mine : header.from ≡ node.me
    pub came : Came header.to (bodies.Prepare header.position header.ballot)
    pub above : bound_at node.records header.position < header.ballot
    pub last_is : last_vote_at node.records header.position ≡ last

  pub record SawPrepareRange (p : RangePromise) : Type 0 where
    pub came : Came p.to (bodies.PrepareRange p.range p.ballot)
    pub above : is_above_bounds node.records p.range p.ballot ≡ true

  pub record SawAccept (header : Header) (v : Action) : Type 0 where
    pub mine : header.from ≡ node.me
    pub came : Came header.to (bodies.Accept header.position header.ballot v)
    pub answer : accept_answer node.records header.position header.ballot v
        ≡ accepts.Vote (Voted header.position header.ballot v)

  pub record SawAgain (to i b : ℕ) (v : Action) : Type 0 where
    pub came : Came to (bodies.Accept i b v)
    pub answer : accept_answer node.records i b v ≡ accepts.Again

  -- what asks for a ballot at a position
  pub data Asks (to i b : ℕ) : Type 0 where
    ForPromise : Came to (bodies.Prepare i b) → Asks to i b
    ForRange : (range : Range) → Came to (bodies.PrepareRange range b) → refusing_position node.records range b ≡ Some i → Asks to i b
    ForVote : (v : Action) → Came to (bodies.Accept i b v) → Asks to i b

  pub record SawLower (to i b bound : ℕ) : Type 0 where
    pub asks : Asks to i b
    pub bound_is : bound_at node.records i ≡ bound
    pub below : nat_lt b (bound_at node.records i) ≡ true

  -- ---- calls and what is asked

  pub record SawAsk (to i : ℕ) (v : Action) : Type 0 where
    pub came : Came to (bodies.Ask i)
    pub learned : learned_at node.records i ≡ Some v

  pub record SawAnswered (task number : ℕ) (reply : CallReply) : Type 0 where
    pub from : ℕ
    pub object : ℕ
    pub operation : Operation
    pub arg : ℤ
    pub came : Came from (bodies.Call (actions.Call task number object operation arg))
    pub kept : kept_reply task number (counted_by node) (given_by node) ≡ Some reply

  -- what brings an item
  pub data Brings (item : Action) : Type 0 where
    ByCall : (from task number object : ℕ) (operation : Operation) (arg : ℤ) → Came from (bodies.Call item) → item ≡ actions.Call task number object operation arg → Brings item
    ByInterrupt : (source occurrence : ℕ) → input ≡ Interrupt source occurrence → item ≡ actions.Interrupt source occurrence → Brings item
    ByTick : (now : ℕ) → input ≡ Tick now → item ≡ actions.Tick now → Brings item

  pub record SawRoom (item : Action) : Type 0 where
    pub brought : Brings item
    pub new : list_any (is_same_call item) node.running.pending ≡ false
    pub room : nat_lt (length node.running.pending) most_pending ≡ true

  -- ---- a leader

  -- the position is to be led at: it is not learned, and within reach
  pub record SawPlace (i : ℕ) : Type 0 where
    pub choice : Option ℕ
    pub input_is : input ≡ Lead choice
    pub chosen : chosen_position (nodes_of node) node.records node.running choice ≡ i
    pub unlearned : is_some (learned_at node.records i) ≡ false
    pub within : is_out_of_reach node.setting.config.max_positions node.records i ≡ false

  pub record SawLead (i b : ℕ) (own : Action) : Type 0 where
    pub place : SawPlace i
    pub ballot : ballot_of node ≡ b
    pub left : is_exhausted node ≡ false
    pub own_is : own_for node i ≡ own

  pub record SawLeadRange (range : Range) (b : ℕ) : Type 0 where
    pub first : ℕ
    pub count : ℕ
    pub input_is : input ≡ LeadRange first count
    pub range_is : range_of first count ≡ Ok range
    pub within : list_any (is_out_of_reach node.setting.config.max_positions node.records) (positions_of range) ≡ false
    pub some : nat_eq (length (unlearned_in node.records range)) 0 ≡ false
    pub ballot : ballot_of node ≡ b
    pub left : is_exhausted node ≡ false

  pub record SawPrepared (i b : ℕ) (v : Action) : Type 0 where
    pub place : SawPlace i
    pub proposal : Proposal
    pub found : proposal_at node.running.proposals i ≡ Some proposal
    pub prepared : is_prepared (nodes_of node) proposal ≡ true
    pub ballot : proposal.ballot ≡ b
    pub action_is : offer_of (Some (own_for node i)) proposal.promises ≡ v

  -- the proposal at its position takes the promise, with which a majority promised, or not
  pub record SawPromise (promise : CountedPromise) (majority : Bool) : Type 0 where
    pub came : Came promise.from (bodies.Promise promise.position promise.ballot promise.last)
    pub proposal : Proposal
    pub found : proposal_at node.running.proposals promise.position ≡ Some proposal
    pub takes : takes_promise promise.ballot proposal ≡ true
    pub counted : is_promised (nodes_of node) (with_promise proposal (promise.from, promise.last)) ≡ majority

  pub record SawMajority (promise : CountedPromise) (v : Action) : Type 0 where
    pub promised : SawPromise promise true
    pub action_is : offer_of promised.proposal.own (with_promise promised.proposal (promise.from, promise.last)).promises ≡ v

  -- ---- a learner

  pub record SawVote (from i : ℕ) (vote : CastVote) (majority : Bool) : Type 0 where
    pub came : Came from (bodies.Accepted i vote.ballot vote.action)
    pub near : is_beyond node.records i ≡ false
    pub unlearned : learned_at node.records i ≡ None
    pub counted : makes_majority (nodes_of node) i vote (heard_running node.running from i vote).heard ≡ majority

  pub record SawLast (i : ℕ) (v : Action) : Type 0 where
    pub from : ℕ
    pub ballot : ℕ
    pub vote : SawVote from i (record { ballot = ballot; action = v }) true

  pub record SawDecision (from i : ℕ) (v : Action) : Type 0 where
    pub came : Came from (bodies.Decided i v)
    pub unlearned : learned_at node.records i ≡ None

  -- the command to ask another node
  pub record SawAskMissing (to : ℕ) : Type 0 where
    pub input_is : input ≡ Ask to
    pub other : (in_range 1 (nodes_of node) to && not (nat_eq to node.me)) ≡ true

  -- ---- each plan

  abbrev pub Saw : Plan → Type 0
  Saw (plans.Pass dropped) = Unit {0}
  Saw (plans.Promise header last) = SawPrepare header last
  Saw (plans.PromiseRange p) = SawPrepareRange p
  Saw (plans.Vote header v) = SawAccept header v
  Saw (plans.Repeat to i b v) = SawAgain to i b v
  Saw (plans.Refuse to i b bound) = SawLower to i b bound
  Saw (plans.Inform to i v) = SawAsk to i v
  Saw (plans.Answer task number reply) = SawAnswered task number reply
  Saw (plans.Await item) = SawRoom item
  Saw (plans.Lead i b own) = SawLead i b own
  Saw (plans.LeadRange range b) = SawLeadRange range b
  Saw (plans.OfferPrepared i b v) = SawPrepared i b v
  Saw (plans.CountPromise promise) = SawPromise promise false
  Saw (plans.CountRangePromise p) = Came p.from (bodies.PromiseRange p.range p.ballot p.votes)
  Saw (plans.Offer promise v) = SawMajority promise v
  Saw (plans.Yield i b bound) = (from : ℕ) × Came from (bodies.Nack i b bound)
  Saw (plans.CountVote from i vote) = SawVote from i vote false
  Saw (plans.Learn i v) = SawLast i v
  Saw (plans.Follow from i v) = SawDecision from i v
  Saw (plans.Report first) = input ≡ Report first
  Saw (plans.AskMissing to) = SawAskMissing to

  abbrev pub SawIf : Result Plan Fault → Type 0
  SawIf (Ok plan) = Saw plan
  SawIf (Err fault) = Unit {0}

  either : (test : Bool) (one other : Plan) → (test ≡ true → Saw one) → (test ≡ false → Saw other) → Saw (if test then one else other)
  either true one other left right = left refl
  either false one other left right = right refl

  either_if : (test : Bool) (one other : Result Plan Fault) → (test ≡ true → SawIf one) → (test ≡ false → SawIf other) → SawIf (if test then one else other)
  either_if true one other left right = left refl
  either_if false one other left right = right refl

  -- ---- the acceptor

  prepare_saw : (from i b : ℕ) → Came from (bodies.Prepare i b) → (above below : Bool) → nat_lt (bound_at node.records i) b ≡ above → nat_lt b (bound_at node.records i) ≡ below
      → Saw (prepare_plan (answer_to node.me from i b)
      (if above then prepares.Promise (last_vote_at node.records i) (Promised i b) else if below then prepares.Nack (bound_at node.records i) else prepares.Silent))
  prepare_saw from i b came true below is other = record { mine = refl; came = came; above = ltb-true (bound_at node.records i) b is; last_is = refl }
  prepare_saw from i b came false true is other = record { asks = ForPromise came; bound_is = refl; below = other }
  prepare_saw from i b came false false is other = tt

  refusal_saw : (from : ℕ) (range : Range) (b : ℕ) → Came from (bodies.PrepareRange range b) → (at : Option ℕ) → refusing_position node.records range b ≡ at
      → ((i : ℕ) → refusing_position node.records range b ≡ Some i → nat_lt b (bound_at node.records i) ≡ true)
      → Saw (range_plan (record { to = from; range = range; ballot = b }) (range_refusal node.records at))
  refusal_saw from range b came None is below = tt
  refusal_saw from range b came (Some i) is below = record { asks = ForRange range came is; bound_is = refl; below = below i is }

  range_saw : (from : ℕ) (range : Range) (b : ℕ) → Came from (bodies.PrepareRange range b) → (above : Bool) → is_above_bounds node.records range b ≡ above
      → ((i : ℕ) → refusing_position node.records range b ≡ Some i → nat_lt b (bound_at node.records i) ≡ true)
      → Saw (range_plan (record { to = from; range = range; ballot = b })
      (if above then range_prepares.Promise (last_votes node.records range) (PromisedRange range b) else range_refusal node.records (refusing_position node.records range b)))
  range_saw from range b came true is below = record { came = came; above = is }
  range_saw from range b came false is below = refusal_saw from range b came (refusing_position node.records range b) refl below

  cast_saw : (from i b : ℕ) (v : Action) → Came from (bodies.Accept i b v) → (last : Option CastVote) → accept_answer node.records i b v ≡ vote_answer i b v last
      → Saw (accept_plan (answer_to node.me from i b) v (vote_answer i b v last))
  cast_saw from i b v came None e = record { mine = refl; came = came; answer = e }
  cast_saw from i b v came (Some last) e = by (nat_eq last.ballot b) (same_action last.action v) refl refl
    where
      answer_for : Bool → Bool → AcceptAnswer
      answer_for same alike = if same then (if alike then accepts.Again else accepts.Silent) else accepts.Vote (Voted i b v)

      by : (same alike : Bool) → nat_eq last.ballot b ≡ same → same_action last.action v ≡ alike → Saw (accept_plan (answer_to node.me from i b) v (answer_for same alike))
      by true true is other = record { came = came; answer = e ∙ ap (λ (t : Bool). answer_for t (same_action last.action v)) is ∙ ap (answer_for true) other }
      by true false is other = tt
      by false alike is other = record { mine = refl; came = came; answer = e ∙ ap (λ (t : Bool). answer_for t (same_action last.action v)) is }

  accept_saw : (from i b : ℕ) (v : Action) → Came from (bodies.Accept i b v) → (below : Bool) → nat_lt b (bound_at node.records i) ≡ below
      → Saw (accept_plan (answer_to node.me from i b) v (if below then accepts.Nack (bound_at node.records i) else vote_answer i b v (last_vote_at node.records i)))
  accept_saw from i b v came true is = record { asks = ForVote v came; bound_is = refl; below = is }
  accept_saw from i b v came false is =
      cast_saw from i b v came (last_vote_at node.records i)
      (ap (λ (t : Bool). if t then accepts.Nack (bound_at node.records i) else vote_answer i b v (last_vote_at node.records i)) is)

  -- ---- calls, interrupts, ticks and questions

  adds_saw : (item : Action) → Brings item → Saw (adds_pending node.running.pending item)
  adds_saw item brought =
      either (list_any (is_same_call item) node.running.pending) (plans.Pass No) _ (λ _. tt)
      (λ new. either (nat_lt (length node.running.pending) most_pending) (plans.Await item) (plans.Pass Full)
      (λ room. record { brought = brought; new = new; room = room }) (λ _. tt))

  numbered_saw : (from task number object : ℕ) (operation : Operation) (arg : ℤ) → Came from (bodies.Call (actions.Call task number object operation arg))
      → (reply : Option CallReply) → kept_reply task number (counted_by node) (given_by node) ≡ reply → Saw (on_numbered node task number (actions.Call task number object operation arg) reply)
  numbered_saw from task number object operation arg came (Some reply) is = record { from = from; object = object; operation = operation; arg = arg; came = came; kept = is }
  numbered_saw from task number object operation arg came None is =
      let call = actions.Call task number object operation arg in
      either (nat_lt number (last_number task (counted_by node))) (plans.Pass No) _ (λ _. tt) (λ _. adds_saw call (ByCall from task number object operation arg came refl))

  call_saw : (from : ℕ) (call : Action) → Came from (bodies.Call call) → Saw (on_call node call)
  call_saw from actions.Noop came = tt
  call_saw from (actions.Call task number object operation arg) came =
      numbered_saw from task number object operation arg came (kept_reply task number (counted_by node) (given_by node)) refl
  call_saw from (actions.Interrupt source occurrence) came = tt
  call_saw from (actions.Tick now) came = tt

  ask_saw : (from i : ℕ) → Came from (bodies.Ask i) → (learned : Option Action) → learned_at node.records i ≡ learned → Saw (ask_plan from i learned)
  ask_saw from i came None is = tt
  ask_saw from i came (Some v) is = record { came = came; learned = is }

  -- ---- the leader

  begins_saw : (i : ℕ) → SawPlace i → SawIf (begins_if node i)
  begins_saw i place =
      either_if (is_exhausted node) (Err BallotsSpent) (Ok (plans.Lead i (ballot_of node) (own_for node i))) (λ _. tt)
      (λ left. record { place = place; ballot = refl; left = left; own_is = refl })

  leads_saw : (i : ℕ) → SawPlace i → (at : Option Proposal) → proposal_at node.running.proposals i ≡ at → SawIf (leads_at node i at)
  leads_saw i place None is = begins_saw i place
  leads_saw i place (Some p) is =
      either_if (is_prepared (nodes_of node) p) (Ok (plans.OfferPrepared i p.ballot (offer_of (Some (own_for node i)) p.promises))) (begins_if node i)
      (λ prepared. record { place = place; proposal = p; found = is; prepared = prepared; ballot = refl; action_is = refl })
      (λ _. begins_saw i place)

  lead_saw : (choice : Option ℕ) → input ≡ Lead choice → SawIf (on_lead node choice)
  lead_saw choice given =
      let i = chosen_position (nodes_of node) node.records node.running choice in
      let led = leads_at node i (proposal_at node.running.proposals i) in
      let far = is_out_of_reach node.setting.config.max_positions node.records i in
      either_if (is_some (learned_at node.records i)) (Ok (plans.Pass No)) (if far then Err LogFull else led) (λ _. tt)
      (λ unlearned. either_if far (Err LogFull) led (λ _. tt)
      (λ within. leads_saw i (record { choice = choice; input_is = given; chosen = refl; unlearned = unlearned; within = within }) (proposal_at node.running.proposals i) refl))

  lead_range_saw : (first count : ℕ) → input ≡ LeadRange first count → (found : Result Range Fault) → range_of first count ≡ found → SawIf (on_lead_range node found)
  lead_range_saw first count given (Err fault) is = tt
  lead_range_saw first count given (Ok range) is =
      let led : Result Plan Fault = Ok (plans.LeadRange range (ballot_of node)) in
      let left : Result Plan Fault = if is_exhausted node then Err BallotsSpent else led in
      let none = nat_eq (length (unlearned_in node.records range)) 0 in
      let some : Result Plan Fault = if none then Ok (plans.Pass No) else left in
      either_if (list_any (is_out_of_reach node.setting.config.max_positions node.records) (positions_of range)) (Err LogFull) some (λ _. tt)
      (λ within. either_if none (Ok (plans.Pass No)) left (λ _. tt)
      (λ unlearned. either_if (is_exhausted node) (Err BallotsSpent) led (λ _. tt)
      (λ more. record { first = first; count = count; input_is = given; range_is = is; within = within; some = unlearned; ballot = refl; left = more })))

  promise_saw : (promise : CountedPromise) → Came promise.from (bodies.Promise promise.position promise.ballot promise.last) → (at : Option Proposal)
      → proposal_at node.running.proposals promise.position ≡ at → Saw (on_promise_to (nodes_of node) promise at)
  promise_saw promise came None is = tt
  promise_saw promise came (Some p) is =
      let after = with_promise p (promise.from, promise.last) in
      either (takes_promise promise.ballot p) (counts_promise (nodes_of node) promise p) (plans.Pass No)
      (λ takes. either (is_promised (nodes_of node) after) (plans.Offer promise (offer_of p.own after.promises)) (plans.CountPromise promise)
      (λ majority. record { promised = record { came = came; proposal = p; found = is; takes = takes; counted = majority }; action_is = refl })
      (λ none. record { came = came; proposal = p; found = is; takes = takes; counted = none }))
      (λ _. tt)

  -- ---- the learner

  vote_saw : (from i b : ℕ) (v : Action) → Came from (bodies.Accepted i b v) → is_beyond node.records i ≡ false → (learned : Option Action) → learned_at node.records i ≡ learned
      → Saw (on_vote node from i (record { ballot = b; action = v }) learned)
  vote_saw from i b v came near (Some action) is = tt
  vote_saw from i b v came near None is =
      let vote : CastVote = record { ballot = b; action = v } in
      either (makes_majority (nodes_of node) i vote (heard_running node.running from i vote).heard) (plans.Learn i v) (plans.CountVote from i vote)
      (λ majority. record { from = from; ballot = b; vote = record { came = came; near = near; unlearned = is; counted = majority } })
      (λ none. record { came = came; near = near; unlearned = is; counted = none })

  decision_saw : (from i : ℕ) (v : Action) → Came from (bodies.Decided i v) → (learned : Option Action) → learned_at node.records i ≡ learned → Saw (decision_plan from i v learned)
  decision_saw from i v came (Some action) is = tt
  decision_saw from i v came None is = record { came = came; unlearned = is }

  -- ---- an input

  body_saw : (from : ℕ) (body : Body) → Came from body → Saw (on_body node from body)
  body_saw from (bodies.Call call) came = call_saw from call came
  body_saw from (bodies.Prepare i b) came =
      prepare_saw from i b came (nat_lt (bound_at node.records i) b) (nat_lt b (bound_at node.records i)) refl refl
  body_saw from (bodies.Promise i b last) came =
      promise_saw (record { from = from; position = i; ballot = b; last = last }) came (proposal_at node.running.proposals i) refl
  body_saw from (bodies.Accept i b v) came = accept_saw from i b v came (nat_lt b (bound_at node.records i)) refl
  body_saw from (bodies.Accepted i b v) came =
      either (is_beyond node.records i) (plans.Pass No) _ (λ _. tt) (λ near. vote_saw from i b v came near (learned_at node.records i) refl)
  body_saw from (bodies.Decided i v) came = decision_saw from i v came (learned_at node.records i) refl
  body_saw from (bodies.Ask i) came = ask_saw from i came (learned_at node.records i) refl
  body_saw from (bodies.Nack i b bound) came = (from, came)
  body_saw from (bodies.PrepareRange range b) came =
      range_saw from range b came (is_above_bounds node.records range b) refl (λ i is. found_test (λ (k : ℕ). nat_lt b (bound_at node.records k)) i (positions_of range) is)
  body_saw from (bodies.PromiseRange range b votes) came = came
  body_saw from _ came = tt

  saw : (given : NodeInput) → input ≡ given → SawIf (plan_of node given)
  saw (Receive message) is =
      either (is_for_node node.setting.config node.me message) _ (plans.Pass Foreign)
      (λ taken. body_saw (sender_number message.from) message.body (record { message = message; input_is = is; taken = taken; sender = refl; says = refl })) (λ _. tt)
  saw (Lead choice) is = lead_saw choice is
  saw (LeadRange first count) is = lead_range_saw first count is (range_of first count) refl
  saw (Interrupt source occurrence) is =
      either (nat_lt (last_occurrence source (counted_by node)) occurrence) _ (plans.Pass No)
      (λ _. adds_saw (actions.Interrupt source occurrence) (ByInterrupt source occurrence is refl)) (λ _. tt)
  saw (Tick now) is = adds_saw (actions.Tick now) (ByTick now is refl)
  saw (Report first) is = is
  saw (Ask to) is =
      either_if (in_range 1 (nodes_of node) to && not (nat_eq to node.me)) (Ok (plans.AskMissing to)) (Err BadConfig)
      (λ other. record { input_is = is; other = other }) (λ _. tt)

  -- what the rule of the plan of an input saw
  pub every_plan : SawIf (plan_of node input)
  every_plan = saw input refl

  -- what came is within the configuration
  pub came_allowed : (from : ℕ) (body : Body) → Came from body → is_allowed node.setting.config.max_positions from body ≡ true
  came_allowed from body came =
      let m = came.message in
      let config = node.setting.config in
      let allowed = (and_parts (is_node node.me m.to && is_no_node_above config.nodes m.from) (is_allowed config.max_positions (sender_number m.from) m.body) came.taken).1 in
      ap (λ (k : ℕ). is_allowed config.max_positions k body) (sym came.sender) ∙ ap (is_allowed config.max_positions (sender_number m.from)) (sym came.says) ∙ allowed

  -- ---- what a plan makes of the proposal that it is about

  -- a promise that counts is noted at the proposal at its position
  pub promised_is : (promise : CountedPromise) (majority : Bool) (s : SawPromise promise majority)
      → once_counted node promise
      ≡ record node.running { proposals = with_proposal node.running.proposals (after_promise (nodes_of node) s.proposal (promise.from, promise.last)) }
  promised_is promise majority s =
      let noted : Proposal → Running = λ p. record node.running { proposals = with_proposal node.running.proposals p } in
      ap (promised_running (nodes_of node) node.running promise.ballot (promise.from, promise.last)) s.found
      ∙ ap (λ (t : Bool). noted (if t then after_promise (nodes_of node) s.proposal (promise.from, promise.last) else s.proposal)) s.takes

  -- a prepared proposal offers, with the own action of its position where no promise reports a vote
  pub offered_is : (i b : ℕ) (v : Action) (s : SawPrepared i b v)
      → offered_running (nodes_of node) node.running v (proposal_at node.running.proposals i)
      ≡ record node.running { proposals = with_proposal node.running.proposals (as_offered (own_for node i) s.proposal) }
  offered_is i b v s =
      let p = s.proposal in
      let noted : Proposal → Running = λ q. record node.running { proposals = with_proposal node.running.proposals q } in
      ap (offered_running (nodes_of node) node.running v) s.found
      ∙ ap (λ (t : Bool). noted (if t then as_offered v p else p)) s.prepared
      ∙ ap (λ (own : Option Action). noted (record p { own = own; phase = Offering }))
      (ap (λ (a : Action). own_unless a (highest_vote p.promises)) (sym s.action_is) ∙ own_or (own_for node i) (highest_vote p.promises))

-- the turn of a node: what holds of the turn of each plan whose rule saw what it has to, and of
-- each refusal, holds of it
pub by_plan : {S : Type 0} (node : RunningNode S) (input : NodeInput) (Holds : Result Turn Fault → Type 0) → ((fault : Fault) → Holds (Err fault))
    → ((plan : Plan) → Saw node input plan → Holds (Ok (turn_of node plan))) → Holds (turn_if node (plan_of node input))
by_plan node input Holds refused turned = by (plan_of node input) (every_plan node input)
  where
    by : (found : Result Plan Fault) → SawIf node input found → Holds (turn_if node found)
    by (Ok plan) is = turned plan is
    by (Err fault) is = refused fault

-- ---- why there is no plan

-- what holds of each reason: no ballot is left, the log is full, the numbers make no range, or the node asked is no other one
module _ {S : Type 0} (node : RunningNode S) (input : NodeInput) (P : Fault → Type 0) (spent : P BallotsSpent) (full : P LogFull)
    (asked : (to : ℕ) → input ≡ Ask to → P BadConfig)
    (range : (first count : ℕ) → input ≡ LeadRange first count → IfErr (range_of first count) P) where
  one_of : (test : Bool) (one other : Result Plan Fault) → IfErr one P → IfErr other P → IfErr (if test then one else other) P
  one_of true one other left right = left
  one_of false one other left right = right

  begins_refused : (i : ℕ) → IfErr (begins_if node i) P
  begins_refused i = one_of (is_exhausted node) (Err BallotsSpent) (Ok _) spent tt

  leads_refused : (i : ℕ) (at : Option Proposal) → IfErr (leads_at node i at) P
  leads_refused i None = begins_refused i
  leads_refused i (Some p) = one_of (is_prepared (nodes_of node) p) (Ok _) (begins_if node i) tt (begins_refused i)

  range_refused : (found : Result Range Fault) → IfErr found P → IfErr (on_lead_range node found) P
  range_refused (Err fault) is = is
  range_refused (Ok range) is =
      one_of (list_any (is_out_of_reach node.setting.config.max_positions node.records) (positions_of range)) (Err LogFull) _ full
      (one_of (nat_eq (length (unlearned_in node.records range)) 0) (Ok _) _ tt (one_of (is_exhausted node) (Err BallotsSpent) (Ok _) spent tt))

  refused : (given : NodeInput) → input ≡ given → IfErr (plan_of node given) P
  refused (Lead choice) is =
      let i = chosen_position (nodes_of node) node.records node.running choice in
      one_of (is_some (learned_at node.records i)) (Ok _) _ tt
      (one_of (is_out_of_reach node.setting.config.max_positions node.records i) (Err LogFull) (leads_at node i (proposal_at node.running.proposals i)) full
      (leads_refused i (proposal_at node.running.proposals i)))
  refused (LeadRange first count) is = range_refused (range_of first count) (range first count is)
  refused (Ask to) is = one_of (in_range 1 (nodes_of node) to && not (nat_eq to node.me)) (Ok (plans.AskMissing to)) (Err BadConfig) tt (asked to is)
  refused _ is = tt

  pub plan_refused : IfErr (plan_of node input) P
  plan_refused = refused input refl
