-- What a node offers, proposes and holds pending satisfies a fact of actions, if what comes does.
use Rattle.std.proofs.Common.{◌≡◌, ℕ, ℤ, Bool, true, false, if◌then◌else◌, Result, Ok, Err, Option, Some, None, List, [], ◌∷◌, ◌++◌, length, map, drop, inl, inr, refl, sym, subst, ◌∙◌}
use Rattle.std.specs.Prelude.{nat_eq, not, ◌&&◌, IfSome, filter}
use Rattle.std.proofs.lemmas.Bool.{and_parts, eqb-true}
use Rattle.rp_base.specs.declared.action.Action.{Action}
use Rattle.rp_base.specs.declared.action.Action.TheVariants as actions
use Rattle.rp_base.specs.declared.action.Operation.{Operation}
use Rattle.rp_base.specs.declared.fault.Fault.{Fault}
use Rattle.rp_base.specs.declared.placed.PlacedVote.{PlacedVote}
use Rattle.rp_base.specs.declared.proposal.Phase.TheVariants.{Offering}
use Rattle.rp_base.specs.declared.record.Rec.{Rec}
use Rattle.rp_base.specs.declared.record.Rec.TheVariants.{Learned}
use Rattle.rp_base.specs.Promises.{Promise, highest_vote, offer_of}
use Rattle.rp_base.specs.Proposals.{Proposal, new_proposal, range_proposal, proposal_at, with_proposal, with_range, is_in, with_promise, is_promised, after_promise, as_offered, takes_range_promise, once_promised, is_given_up, without_proposal}
use Rattle.rp_base.specs.Ranges.{Range, is_covered}
use Rattle.rp_base.specs.PlacedVotes.{placed_at}
use Rattle.rp_base.specs.Records.{applied_of}
use Rattle.rp_base.specs.Sets.{Has}
use Rattle.rp_base.proofs.Members.{has_split, has_passing, mapped_has}
use Rattle.rp_codec.specs.Message.{Message}
use Rattle.rp_codec.specs.declared.packet.Party.TheVariants.{Node}
use Rattle.rp_codec.specs.declared.packet.Body.{Body}
use Rattle.rp_codec.specs.declared.packet.Body.TheVariants as bodies
use Rattle.rp_machine.specs.Replay.{replay_answers, one_to}
use Rattle.rp_agreement.specs.Inputs.{IsInput}
use Rattle.rp_agreement.specs.Sound.{IsRunning, IsSound}
use Rattle.rp_agreement.proofs.Leaders.{more_promised, offer_is, own_is_so, unless_is_so}
use Rattle.rp_agreement.proofs.Lists.{found_has}
use Rattle.rp_agreement.proofs.Offering.{offer_is_so}
use Rattle.rp_agreement.proofs.RangedParts.{with_or_old}
use Rattle.rp_agreement.proofs.Turns.{IsOffer}
use Rattle.rp_model.specs.Effect.{Setting, NodeInput, Interrupt, Tick, running_effect}
use Rattle.rp_model.specs.Leader.{unlearned_in, refused_running}
use Rattle.rp_model.specs.Learner.{missing_position, asks_for}
use Rattle.rp_model.specs.Node.{RunningNode, running_node, counted_by, own_for}
use Rattle.rp_model.specs.Parts.{Running, Turn}
use Rattle.rp_model.specs.Pending.{replies_to}
use Rattle.rp_model.specs.Plans.{once_counted, once_learned, report_of, turn_of}
use Rattle.rp_model.specs.Says.{says, says_to_all, says_to_others, says_to_task}
use Rattle.rp_model.specs.declared.plan.CountedPromise.{CountedPromise}
use Rattle.rp_model.specs.declared.plan.Plan.{Plan}
use Rattle.rp_model.specs.declared.plan.Plan.TheVariants as plans
use Rattle.rp_model.proofs.EveryPlan.{Brings, ByCall, ByInterrupt, ByTick, Saw, SawPromise, SawPrepared, promised_is, offered_is, by_plan}
use Rattle.rp_base.specs.PlacedVotes.{last_votes}
use Rattle.rp_base.specs.Ballot.{greatest_with}
use Rattle.rp_model.specs.Facts.{HasPromised, IsOffered}
use Rattle.rp_model.specs.Parts.{NodePart}
use Rattle.rp_model.proofs.EveryPlan.{SawMajority}
use Rattle.rp_agreement.specs.Sound.{IsProposal}
use Rattle.rp_agreement.proofs.Arriving.{came_said, call_asked}
use Rattle.rp_agreement.specs.Answered.{named}
use Rattle.rp_machine.specs.Calls.{calls_of}
use Rattle.rp_model.specs.Tasks.{asks}
use Rattle.rp_agreement.proofs.Leaders.{own_offer}

-- ---- packets that offer nothing

abbrev pub AreSilent : List Message → Type 0
AreSilent packets = (m : Message) → Has m packets → ¬ IsOffer m.body

one_silent : (m : Message) → (¬ IsOffer m.body) → AreSilent (m ∷ [])
one_silent m is k h = elim h [ inl same ↦ subst (λ (n : Message). ¬ IsOffer n.body) (sym same) is | inr none ↦ absurd none ]

both_silent : (ms ks : List Message) → AreSilent ms → AreSilent ks → AreSilent (ms ++ ks)
both_silent ms ks left right m h = elim (has_split m ms ks h) [ inl before ↦ left m before | inr following ↦ right m following ]

mapped_silent : {A : Type 0} (f : A → Message) (xs : List A) → ((a : A) → ¬ IsOffer (f a).body) → AreSilent (map f xs)
mapped_silent f xs each m h = let hit = mapped_has f m xs h in subst (λ (n : Message). ¬ IsOffer n.body) (sym hit.2) (each hit.0)

said_silent : (me : ℕ) (body : Body) → (¬ IsOffer body) → (to : List ℕ) → AreSilent (map (says me body) to)
said_silent me body none to = mapped_silent (says me body) to (λ k. none)

asks_silent : (me from : ℕ) (missing : Option ℕ) → AreSilent (asks_for me from missing)
asks_silent me from None = λ m h. absurd h
asks_silent me from (Some i) = one_silent (says me (bodies.Ask i) from) (λ h. h)

module _ (P : Action → Type 0) where
  -- the fact holds of each action that is offered
  abbrev pub OffersAre : List Message → Type 0
  OffersAre packets = (i b : ℕ) (v : Action) → IsOffered packets i b v → P v

  -- and of each own action of these proposals
  abbrev OwnAre : List Proposal → Type 0
  OwnAre proposals = (p : Proposal) → Has p proposals → IfSome p.own P

  -- It holds of what a node proposes and of what waits to be proposed.
  pub record HoldsWhile (running : Running) : Type 0 where
    pub own : OwnAre running.proposals
    pub pending : (item : Action) → Has item running.pending → P item

  -- and of what a turn offers and leaves
  pub record HoldsInTurn (turn : Turn) : Type 0 where
    pub running : HoldsWhile turn.running
    pub offers : OffersAre turn.sent

  abbrev pub HoldsIf : Result Turn Fault → Type 0
  HoldsIf (Ok turn) = HoldsInTurn turn
  HoldsIf (Err fault) = Unit {0}

  -- the action of an input that is an interrupt or a tick
  abbrev pub InputIs : NodeInput → Type 0
  InputIs (Interrupt source occurrence) = P (actions.Interrupt source occurrence)
  InputIs (Tick now) = P (actions.Tick now)
  InputIs _ = Unit {0}

  silent : (packets : List Message) → AreSilent packets → OffersAre packets
  silent packets none i b v offer = absurd (none _ offer.2 tt)

  pub no_offers : OffersAre []
  no_offers i b v offer = absurd offer.2

  offered_to_all : (x i b : ℕ) (u : Action) (to : List ℕ) → P u → OffersAre (map (says x (bodies.Accept i b u)) to)
  offered_to_all x i b u to is j c v offer = subst P (sym (offer_is x i b u to j c v offer).2) is

  -- ---- proposals

  own_with : (proposals : List Proposal) (q : Proposal) → OwnAre proposals → IfSome q.own P → OwnAre (with_proposal proposals q)
  own_with proposals q all one p h = elim (with_or_old p q proposals h) [ inl old ↦ all p old | inr new ↦ subst (λ (r : Proposal). IfSome r.own P) (sym new) one ]

  own_range : (b : ℕ) (positions : List ℕ) (proposals : List Proposal) → OwnAre proposals → OwnAre (with_range proposals b positions)
  own_range b [] proposals all = all
  own_range b (i ∷ rest) proposals all = own_range b rest (with_proposal proposals (range_proposal b i)) (own_with proposals (range_proposal b i) all tt)

  own_passing : (test : Proposal → Bool) (proposals : List Proposal) → OwnAre proposals → OwnAre (filter test proposals)
  own_passing test proposals all p h = all p (has_passing test p proposals h).0

  own_once : (nodes from : ℕ) (range : Range) (b : ℕ) (votes : List PlacedVote) (p : Proposal) → IfSome p.own P → IfSome (once_promised nodes from range b votes p).own P
  own_once nodes from range b votes p is =
      elim (is_covered range p.position && takes_range_promise nodes b p)
      as (λ t. let q : Proposal = if t then with_promise p (from, placed_at votes p.position) else p in IfSome q.own P) [
        | true ↦ is
        | false ↦ is
      ]

  own_after : (nodes : ℕ) (p : Proposal) (promise : Promise) → IfSome p.own P → IfSome (after_promise nodes p promise).own P
  own_after nodes p promise is =
      elim (is_promised nodes (with_promise p promise)) as (λ b. let q : Proposal = if b then record (with_promise p promise) { phase = Offering } else with_promise p promise in IfSome q.own P) [
        | true ↦ is
        | false ↦ is
      ]

  -- and of each call that a task asked for
  abbrev pub CallsAre : List Message → Type 0
  CallsAre sent = (task node : ℕ) (call : Action) → Has (asks task node call) sent → P call

  -- ---- the turns of a node, where the fact holds of nothing, of all calls and of all that was offered

  module _ {S : Type 0} (s : Setting S) (noop : P actions.Noop)
      (node : ℕ → NodePart) (sent : List Message) (sound : IsSound s.config.nodes node sent) (offered : OffersAre sent) (calls : CallsAre sent)
      (me : ℕ) (records : List Rec) (running : Running) (input : NodeInput) (given : IsInput sent input) (comes : InputIs input) (runs : IsRunning sent records running) (is : HoldsWhile running) where
    abbrev here : RunningNode S
    here = running_node s me records running

    item_holds : (item : Action) → Brings here input item → P item
    item_holds item (ByCall from task number object operation arg came same) =
        let asked = (call_asked here node sent input sound given from item came).asked (named task number) (subst (λ (a : Action). Has (named task number) (calls_of a)) (sym same) (inl refl)) in
        calls task asked.0 item asked.1
    item_holds item (ByInterrupt source occurrence brought same) = subst P (sym same) (subst InputIs brought comes)
    item_holds item (ByTick now brought same) = subst P (sym same) (subst InputIs brought comes)

    -- what is known, and packets that offer nothing
    says_silent : (turn : Turn) → HoldsWhile turn.running → AreSilent turn.sent → HoldsInTurn turn
    says_silent turn knows none = record { running = knows; offers = silent turn.sent none }

    says_one : (turn : Turn) (m : Message) → HoldsWhile turn.running → turn.sent ≡ m ∷ [] → (¬ IsOffer m.body) → HoldsInTurn turn
    says_one turn m knows same none = says_silent turn knows (subst AreSilent (sym same) (one_silent m none))

    to_all : (body : Body) → (¬ IsOffer body) → AreSilent (says_to_all s.config.nodes me body)
    to_all body none = said_silent me body none (one_to s.config.nodes)

    nothing : AreSilent []
    nothing m h = absurd h

    own_holds : (i : ℕ) → P (own_for here i)
    own_holds i = own_is_so P (counted_by here) (without_proposal running.proposals i) running.pending noop is.pending

    learned_turn : (i : ℕ) (v : Action) (packets following : List Message) → AreSilent packets → AreSilent following → HoldsInTurn (once_learned here i v packets following)
    learned_turn i v packets following before after =
        let given = replay_answers s.next s.answers s.begin (applied_of (records ++ Learned i v ∷ [])) in
        let new = drop (length (replay_answers s.next s.answers s.begin (applied_of records))) given in
        says_silent (once_learned here i v packets following)
        (record { own = own_passing (λ p. not (nat_eq p.position i)) running.proposals is.own; pending = λ item h. is.pending item (has_passing _ item running.pending h).0 })
        (both_silent _ following (both_silent packets (replies_to me running.pending new) before (mapped_silent _ _ (λ answer h. h))) after)

    refused_holds : (i b bound : ℕ) → HoldsWhile (refused_running s.config.nodes running i b bound)
    refused_holds i b bound =
        let known : Running = record running { proposals = filter (λ p. not (is_given_up s.config.nodes i b p)) running.proposals; refused = greatest_with running.refused bound } in
        elim (is_in b (proposal_at running.proposals i)) as (λ t. HoldsWhile (if t then known else running)) [
          | true ↦ record { own = own_passing (λ p. not (is_given_up s.config.nodes i b p)) running.proposals is.own; pending = is.pending }
          | false ↦ is
        ]

    -- the proposal that takes a promise: one of those that run, which that promise was sent for
    promised_here : (promise : CountedPromise) (majority : Bool) (saw : SawPromise here input promise majority)
        → Has saw.proposal running.proposals × (saw.proposal.position ≡ promise.position) × (saw.proposal.ballot ≡ promise.ballot)
        × IsProposal sent records (with_promise saw.proposal (promise.from, promise.last))
    promised_here promise majority saw =
        let p = saw.proposal in
        let found = found_has (λ (q : Proposal). nat_eq q.position promise.position) p running.proposals saw.found in
        let place : p.position ≡ promise.position = eqb-true p.position promise.position found.1 in
        let ballot : p.ballot ≡ promise.ballot = eqb-true p.ballot promise.ballot (and_parts _ _ saw.takes).0 in
        let body = bodies.Promise promise.position promise.ballot promise.last in
        let h = came_said here node sent input sound given promise.from body saw.came (λ call. call) in
        let stated : HasPromised sent promise.from promise.position promise.ballot promise.last = (record { from = Node promise.from; to = Node me; body = body }, h, refl, (refl, refl, refl)) in
        let there =
        subst (λ (c : ℕ). HasPromised sent promise.from p.position c promise.last) (sym ballot)
        (subst (λ (j : ℕ). HasPromised sent promise.from j promise.ballot promise.last) (sym place) stated) in
        (found.0, place, ballot, more_promised sent records p promise.from promise.last (runs.proposals p found.0) there)

    promise_known : (promise : CountedPromise) (majority : Bool) (saw : SawPromise here input promise majority) → HoldsWhile (once_counted here promise)
    promise_known promise majority saw =
        let p = saw.proposal in
        let one : Promise = (promise.from, promise.last) in
        let there = promised_here promise majority saw in
        subst HoldsWhile (sym (promised_is here input promise majority saw)) (record {
          own = own_with running.proposals (after_promise s.config.nodes p one) is.own (own_after s.config.nodes p one (is.own p there.0));
          pending = is.pending;
        })

    offers_promised : (promise : CountedPromise) (v : Action) → SawMajority here input promise v → HoldsInTurn (turn_of here (plans.Offer promise v))
    offers_promised promise v saw =
        let p = saw.promised.proposal in
        let after = with_promise p (promise.from, promise.last) in
        let there = promised_here promise true saw.promised in
        let offer : P (offer_of p.own after.promises) = offer_is_so P s.config.nodes node sent sound noop offered p.position p.ballot after.promises p.own there.3.promised (is.own p there.0) in
        record {
          running = promise_known promise true saw.promised;
          offers = offered_to_all me promise.position promise.ballot v (one_to s.config.nodes) (subst P saw.action_is offer);
        }

    offers_prepared : (i b : ℕ) (v : Action) → SawPrepared here input i b v → HoldsInTurn (turn_of here (plans.OfferPrepared i b v))
    offers_prepared i b v saw =
        let p = saw.proposal in
        let found = found_has (λ (q : Proposal). nat_eq q.position i) p running.proposals saw.found in
        let own = own_for here i in
        let after = as_offered own p in
        let one : IfSome after.own P = unless_is_so P own (highest_vote p.promises) (own_holds i) in
        let offer : P (offer_of after.own p.promises) = offer_is_so P s.config.nodes node sent sound noop offered p.position p.ballot p.promises after.own (runs.proposals p found.0).promised one in
        record {
          running = subst HoldsWhile (sym (offered_is here input i b v saw)) (record { own = own_with running.proposals after is.own one; pending = is.pending });
          offers = offered_to_all me i b v (one_to s.config.nodes) (subst P (own_offer own (highest_vote p.promises) ∙ saw.action_is) offer);
        }

    plan_holds : (plan : Plan) → Saw here input plan → HoldsInTurn (turn_of here plan)
    plan_holds (plans.Pass dropped) saw = record { running = is; offers = no_offers }
    plan_holds (plans.Promise header last) saw =
        says_one (turn_of here (plans.Promise header last)) (says me (bodies.Promise header.position header.ballot last) header.to) is refl (λ h. h)
    plan_holds (plans.PromiseRange p) saw =
        says_one (turn_of here (plans.PromiseRange p)) (says me (bodies.PromiseRange p.range p.ballot (last_votes records p.range)) p.to) is refl (λ h. h)
    plan_holds (plans.Vote header v) saw =
        says_one (turn_of here (plans.Vote header v)) (says me (bodies.Accepted header.position header.ballot v) header.to) is refl (λ h. h)
    plan_holds (plans.Repeat to i b v) saw = says_one (turn_of here (plans.Repeat to i b v)) (says me (bodies.Accepted i b v) to) is refl (λ h. h)
    plan_holds (plans.Refuse to i b bound) saw = says_one (turn_of here (plans.Refuse to i b bound)) (says me (bodies.Nack i b bound) to) is refl (λ h. h)
    plan_holds (plans.Inform to i v) saw = says_one (turn_of here (plans.Inform to i v)) (says me (bodies.Decided i v) to) is refl (λ h. h)
    plan_holds (plans.Answer task number reply) saw =
        says_one (turn_of here (plans.Answer task number reply)) (says_to_task me (bodies.Reply number reply) task) is refl (λ h. h)
    plan_holds (plans.Await item) saw =
        says_silent (turn_of here (plans.Await item)) (record {
          own = is.own;
          pending = λ c h. elim (has_split c running.pending (item ∷ []) h) [
            | inl old ↦ is.pending c old
            | inr new ↦ elim new [ inl same ↦ subst P (sym same) (item_holds item saw.brought) | inr none ↦ absurd none ]
          ];
        }) nothing
    plan_holds (plans.Lead i b own) saw =
        says_silent (turn_of here (plans.Lead i b own))
        (record { own = own_with running.proposals (new_proposal i b (Some own)) is.own (subst P saw.own_is (own_holds i)); pending = is.pending }) (to_all (bodies.Prepare i b) (λ h. h))
    plan_holds (plans.LeadRange range b) saw =
        says_silent (turn_of here (plans.LeadRange range b)) (record { own = own_range b (unlearned_in records range) running.proposals is.own; pending = is.pending })
        (to_all (bodies.PrepareRange range b) (λ h. h))
    plan_holds (plans.OfferPrepared i b v) saw = offers_prepared i b v saw
    plan_holds (plans.CountPromise promise) saw = says_silent (turn_of here (plans.CountPromise promise)) (promise_known promise false saw) nothing
    plan_holds (plans.CountRangePromise p) saw =
        let f = once_promised s.config.nodes p.from p.range p.ballot p.votes in
        says_silent (turn_of here (plans.CountRangePromise p)) (record {
          own = λ q there.
              let hit = mapped_has f q running.proposals there in
              subst (λ (r : Proposal). IfSome r.own P) (sym hit.2) (own_once s.config.nodes p.from p.range p.ballot p.votes hit.0 (is.own hit.0 hit.1));
          pending = is.pending;
        }) nothing
    plan_holds (plans.Offer promise v) saw = offers_promised promise v saw
    plan_holds (plans.Yield i b bound) saw = says_silent (turn_of here (plans.Yield i b bound)) (refused_holds i b bound) nothing
    plan_holds (plans.CountVote from i vote) saw = says_silent (turn_of here (plans.CountVote from i vote)) (record { own = is.own; pending = is.pending }) nothing
    plan_holds (plans.Learn i v) saw = learned_turn i v (says_to_others s.config.nodes me (bodies.Decided i v)) [] (said_silent me (bodies.Decided i v) (λ h. h) _) nothing
    plan_holds (plans.Follow from i v) saw =
        learned_turn i v [] (asks_for me from (missing_position (records ++ Learned i v ∷ []))) nothing (asks_silent me from (missing_position (records ++ Learned i v ∷ [])))
    plan_holds (plans.Report first) saw = says_one (turn_of here (plans.Report first)) (report_of me first (applied_of records)) is refl (λ h. h)
    plan_holds (plans.AskMissing to) saw = says_silent (turn_of here (plans.AskMissing to)) is (mapped_silent (λ i. says me (bodies.Ask i) to) _ (λ i h. h))

    -- any input
    pub holds_in_turn : HoldsIf (running_effect s me records running input)
    holds_in_turn = by_plan here input HoldsIf (λ fault. tt) plan_holds
