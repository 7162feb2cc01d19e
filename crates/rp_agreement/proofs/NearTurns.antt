-- A node offers near its first unlearned position, and votes for offers alone.
use Rattle.std.proofs.Common.{◌≡◌, ℕ, ◌+◌, ◌<◌, Bool, true, false, if◌then◌else◌, nat_lt, Option, Some, None, Result, Ok, Err, List, [], ◌∷◌, ◌++◌, map, filter, inl, inr, refl, sym, subst, ap, ◌∙◌}
use Rattle.std.specs.Prelude.{◌||◌, nat_eq, not}
use Rattle.std.specs.List.{list_any}
use Rattle.std.proofs.lemmas.Bool.{both_ways, leb-false}
use Rattle.rp_base.specs.declared.action.Action.{Action}
use Rattle.rp_base.specs.declared.reply.Answer.{Answer}
use Rattle.rp_base.specs.declared.fault.Fault.{Fault}
use Rattle.rp_base.specs.declared.record.Rec.{Rec}
use Rattle.rp_base.specs.declared.record.Rec.TheVariants.{Learned}
use Rattle.rp_base.specs.declared.proposal.Phase.TheVariants.{Offering}
use Rattle.rp_base.specs.Promises.{Promise}
use Rattle.rp_base.specs.Proposals.{Proposal, proposal_at, without_proposal, with_proposal, is_in, with_promise, is_promised, after_promise, once_promised, with_range, range_proposal, is_given_up}
use Rattle.rp_base.specs.Records.{applied_of, first_unlearned}
use Rattle.rp_base.specs.Sets.{Has}
use Rattle.rp_base.proofs.Members.{has_split, has_passing, mapped_has}
use Rattle.rp_codec.specs.Message.{Message}
use Rattle.rp_codec.specs.declared.packet.Party.{Party}
use Rattle.rp_codec.specs.declared.packet.Party.TheVariants.{Node}
use Rattle.rp_codec.specs.declared.packet.Body.{Body}
use Rattle.rp_codec.specs.declared.packet.Body.TheVariants as bodies
use Rattle.rp_machine.specs.Replay.{one_to}
use Rattle.rp_base.specs.Ranges.{positions_of}
use Rattle.rp_base.specs.Number.{window}
use Rattle.rp_agreement.proofs.Lists.{found_has}
use Rattle.rp_agreement.proofs.RangedParts.{with_or_old}
use Rattle.rp_base.proofs.Apart.{promised_there}
use Rattle.rp_model.specs.Effect.{Setting, NodeInput, Receive, running_effect}
use Rattle.rp_model.specs.Leader.{is_out_of_reach, is_beyond, unlearned_in, refused_running}
use Rattle.rp_model.specs.Learner.{missing_position, asks_for, missing_in_window, asks_for_each}
use Rattle.rp_model.specs.Node.{RunningNode, running_node}
use Rattle.rp_model.specs.Parts.{Running, Turn}
use Rattle.rp_model.specs.Pending.{is_answered_by, replies_to}
use Rattle.rp_model.specs.Plans.{once_counted, once_learned, report_of, turn_of}
use Rattle.rp_model.specs.Receiving.{sender_number}
use Rattle.rp_model.specs.Says.{says, says_to_all, says_to_others, says_to_task, sends, notes, writes}
use Rattle.rp_model.specs.declared.plan.CountedPromise.{CountedPromise}
use Rattle.rp_model.specs.declared.plan.Plan.{Plan}
use Rattle.rp_model.specs.declared.plan.Plan.TheVariants as plans
use Rattle.rp_model.proofs.EveryPlan.{Came, Saw, SawPromise, promised_is, offered_is, by_plan}
use Rattle.rp_base.specs.PlacedVotes.{last_votes}
use Rattle.rp_base.specs.Ballot.{greatest_with}
use Rattle.std.proofs.lemmas.Bool.{eqb-true}

-- the position is less than 64 above the first that the records do not learn
abbrev pub IsNear : List Rec → ℕ → Type 0
IsNear records i = i < first_unlearned records + window

abbrev pub AreNear : List Rec → List Proposal → Type 0
AreNear records proposals = (p : Proposal) → Has p proposals → IsNear records p.position

-- an offer comes from this node and is near; a vote goes to a node that may have it
abbrev pub SaysNear : ℕ → List Rec → (ℕ → ℕ → Type 0) → Party → Party → Body → Type 0
SaysNear me records Votes from to (bodies.Accept i b v) = (from ≡ Node me) × IsNear records i
SaysNear me records Votes from to (bodies.Accepted i b v) = (a : ℕ) × (to ≡ Node a) × Votes a i
SaysNear me records Votes from to _ = Unit {0}

-- who offered may have a vote
abbrev pub MayVote : (ℕ → ℕ → Type 0) → ℕ → Body → Type 0
MayVote Votes from (bodies.Accept i b v) = Votes from i
MayVote Votes from _ = Unit {0}

module _ (me : ℕ) (records : List Rec) (Votes : ℕ → ℕ → Type 0) where
  abbrev pub AllNear : List Message → Type 0
  AllNear packets = (m : Message) → Has m packets → SaysNear me records Votes m.from m.to m.body

  -- what a turn proposes and sends is near
  pub record IsNearTurn (turn : Turn) : Type 0 where
    pub proposals : AreNear records turn.running.proposals
    pub sent : AllNear turn.sent

  none : AllNear []
  none m h = absurd h

  one : (m : Message) → SaysNear me records Votes m.from m.to m.body → AllNear (m ∷ [])
  one m is k h = elim h [ inl same ↦ subst (λ (n : Message). SaysNear me records Votes n.from n.to n.body) (sym same) is | inr nothing ↦ absurd nothing ]

  both : (ms ks : List Message) → AllNear ms → AllNear ks → AllNear (ms ++ ks)
  both ms ks left right m h = elim (has_split m ms ks h) [ inl before ↦ left m before | inr following ↦ right m following ]

  mapped : {A : Type 0} (f : A → Message) (xs : List A) → ((a : A) → SaysNear me records Votes (f a).from (f a).to (f a).body) → AllNear (map f xs)
  mapped f xs each m h = let hit = mapped_has f m xs h in subst (λ (n : Message). SaysNear me records Votes n.from n.to n.body) (sym hit.2) (each hit.0)

  noted : (running : Running) → AreNear records running.proposals → IsNearTurn (notes running)
  noted running near = record { proposals = near; sent = none }

  sending : (running : Running) (packets : List Message) → AreNear records running.proposals → AllNear packets → IsNearTurn (sends running packets)
  sending running packets near all = record { proposals = near; sent = all }

  writing : (rec : Rec) (running : Running) (packets : List Message) → AreNear records running.proposals → AllNear packets → IsNearTurn (writes rec running packets)
  writing rec running packets near all = record { proposals = near; sent = all }

  with_near : (ps : List Proposal) (q : Proposal) → AreNear records ps → IsNear records q.position → AreNear records (with_proposal ps q)
  with_near ps q all near p h = elim (with_or_old p q ps h) [ inl old ↦ all p old | inr new ↦ subst (λ (r : Proposal). IsNear records r.position) (sym new) near ]

  without_near : (ps : List Proposal) (i : ℕ) → AreNear records ps → AreNear records (without_proposal ps i)
  without_near ps i all p h = all p (has_passing _ p ps h).0

  passing_near : (test : Proposal → Bool) (ps : List Proposal) → AreNear records ps → AreNear records (filter test ps)
  passing_near test ps all p h = all p (has_passing test p ps h).0

  after_near : (nodes : ℕ) (p : Proposal) (promise : Promise) → (after_promise nodes p promise).position ≡ p.position
  after_near nodes p promise =
      elim (is_promised nodes (with_promise p promise)) as (λ b. (let q : Proposal = if b then record (with_promise p promise) { phase = Offering } else with_promise p promise in q).position ≡ p.position) [ true ↦ refl | false ↦ refl ]

  refused_near : (nodes : ℕ) (running : Running) (i b bound : ℕ) → AreNear records running.proposals → AreNear records (refused_running nodes running i b bound).proposals
  refused_near nodes running i b bound near =
      let known : Running = record running { proposals = filter (λ p. not (is_given_up nodes i b p)) running.proposals; refused = greatest_with running.refused bound } in
      elim (is_in b (proposal_at running.proposals i)) as (λ t. AreNear records (let left : Running = if t then known else running in left.proposals)) [
        | true ↦ passing_near (λ p. not (is_given_up nodes i b p)) running.proposals near
        | false ↦ near
      ]

  asked : (from : ℕ) (missing : Option ℕ) → AllNear (asks_for me from missing)
  asked from None = none
  asked from (Some i) = one _ tt

-- the result of a turn, if it is not refused
abbrev pub IsNearIf : ℕ → List Rec → (ℕ → ℕ → Type 0) → Result Turn Fault → Type 0
IsNearIf me records Votes (Ok turn) = IsNearTurn me records Votes turn
IsNearIf me records Votes (Err fault) = Unit {0}

in_reach : (most : ℕ) (records : List Rec) (i : ℕ) → is_out_of_reach most records i ≡ false → IsNear records i
in_reach most records i e = leb-false (first_unlearned records + window) i (no_second (nat_lt most i) (is_beyond records i) e)
  where
    no_second : (a b : Bool) → (a || b) ≡ false → b ≡ false
    no_second true b e = absurd (both_ways true e refl)
    no_second false b e = e

-- the input is an offer only of a node that may have a vote
abbrev pub MayVoteFor : (ℕ → ℕ → Type 0) → NodeInput → Type 0
MayVoteFor Votes (Receive message) = MayVote Votes (sender_number message.from) message.body
MayVoteFor Votes _ = Unit {0}

-- each new proposal of a range is near, where each position is
ranged_near : (me : ℕ) (records : List Rec) (Votes : ℕ → ℕ → Type 0) (b : ℕ) (positions : List ℕ) (ps : List Proposal) → ((i : ℕ) → Has i positions → IsNear records i) → AreNear records ps
    → AreNear records (with_range ps b positions)
ranged_near me records Votes b [] ps each near = near
ranged_near me records Votes b (i ∷ rest) ps each near =
    ranged_near me records Votes b rest (with_proposal ps (range_proposal b i)) (λ j h. each j (inr h)) (with_near me records Votes ps (range_proposal b i) near (each i (inl refl)))

-- no position of the list passes the test
none_any : (test : ℕ → Bool) (xs : List ℕ) → list_any test xs ≡ false → (x : ℕ) → Has x xs → test x ≡ false
none_any test [] e x h = absurd h
none_any test (y ∷ ys) e x h = by (test y) refl e (λ none later. none_any test ys none x later)
  where
    by : (t : Bool) → test y ≡ t → (t || list_any test ys) ≡ false → (list_any test ys ≡ false → Has x ys → test x ≡ false) → test x ≡ false
    by true is e more = absurd (both_ways true e refl)
    by false is e more = elim h [ inl same ↦ ap test same ∙ is | inr later ↦ more e later ]

module _ {S : Type 0} (s : Setting S) (me : ℕ) (records : List Rec) (Votes : ℕ → ℕ → Type 0) (running : Running) (input : NodeInput) (near : AreNear records running.proposals) (may : MayVoteFor Votes input) where
  abbrev here : RunningNode S
  here = running_node s me records running

  may_come : (from : ℕ) (body : Body) → Came here input from body → MayVote Votes from body
  may_come from body came =
      let message = came.message in
      subst (λ (k : ℕ). MayVote Votes k body) came.sender (subst (MayVote Votes (sender_number message.from)) came.says (subst (MayVoteFor Votes) came.input_is may))

  -- the proposal at a position is near
  found_near : (i : ℕ) (p : Proposal) → proposal_at running.proposals i ≡ Some p → IsNear records p.position
  found_near i p is = near p (found_has (λ (q : Proposal). nat_eq q.position i) p running.proposals is).0

  noted_near : (promise : CountedPromise) (majority : Bool) (saw : SawPromise here input promise majority) → AreNear records (once_counted here promise).proposals
  noted_near promise majority saw =
      let p = saw.proposal in
      let after = after_promise s.config.nodes p (promise.from, promise.last) in
      subst (λ (known : Running). AreNear records known.proposals) (sym (promised_is here input promise majority saw))
      (with_near me records Votes running.proposals after near (subst (IsNear records) (sym (after_near me records Votes s.config.nodes p (promise.from, promise.last))) (found_near promise.position p saw.found)))

  learned_near : (i : ℕ) (v : Action) (packets following : List Message) → AllNear me records Votes packets → AllNear me records Votes following
      → IsNearTurn me records Votes (once_learned here i v packets following)
  learned_near i v packets following first last =
      let replies : (given : List Answer) → AllNear me records Votes (replies_to me running.pending given) = λ given.
      mapped me records Votes (λ (answer : Answer). says_to_task me (bodies.Reply answer.number answer.reply) answer.task) (filter (λ answer. list_any (is_answered_by answer) running.pending) given) (λ answer. tt) in
      record {
        proposals = without_near me records Votes running.proposals i near;
        sent = both me records Votes _ following (both me records Votes packets _ first (replies _)) last;
      }

  said_near : (body : Body) → ((k : ℕ) → SaysNear me records Votes (Node me) (Node k) body) → AllNear me records Votes (says_to_all s.config.nodes me body)
  said_near body is = mapped me records Votes (says me body) (one_to s.config.nodes) is

  plan_near : (plan : Plan) → Saw here input plan → IsNearTurn me records Votes (turn_of here plan)
  plan_near (plans.Pass dropped) saw = record { proposals = near; sent = none me records Votes }
  plan_near (plans.Promise header last) saw = record { proposals = near; sent = one me records Votes (says me (bodies.Promise header.position header.ballot last) header.to) tt }
  plan_near (plans.PromiseRange p) saw = record { proposals = near; sent = one me records Votes (says me (bodies.PromiseRange p.range p.ballot (last_votes records p.range)) p.to) tt }
  plan_near (plans.Vote header v) saw =
      let voter = may_come header.to (bodies.Accept header.position header.ballot v) saw.came in
      record { proposals = near; sent = one me records Votes (says me (bodies.Accepted header.position header.ballot v) header.to) (header.to, refl, voter) }
  plan_near (plans.Repeat to i b v) saw =
      record { proposals = near; sent = one me records Votes (says me (bodies.Accepted i b v) to) (to, refl, may_come to (bodies.Accept i b v) saw.came) }
  plan_near (plans.Refuse to i b bound) saw = record { proposals = near; sent = one me records Votes (says me (bodies.Nack i b bound) to) tt }
  plan_near (plans.Inform to i v) saw = record { proposals = near; sent = one me records Votes (says me (bodies.Decided i v) to) tt }
  plan_near (plans.Answer task number reply) saw = record { proposals = near; sent = one me records Votes (says_to_task me (bodies.Reply number reply) task) tt }
  plan_near (plans.Await item) saw = record { proposals = near; sent = none me records Votes }
  plan_near (plans.Lead i b own) saw = record {
    proposals = with_near me records Votes running.proposals _ near (in_reach s.config.max_positions records i saw.place.within);
    sent = said_near (bodies.Prepare i b) (λ k. tt);
  }
  plan_near (plans.LeadRange range b) saw = record {
    proposals = ranged_near me records Votes b (unlearned_in records range) running.proposals
        (λ i h. in_reach s.config.max_positions records i
        (none_any (is_out_of_reach s.config.max_positions records) (positions_of range) saw.within i (has_passing _ i (positions_of range) h).0)) near;
    sent = said_near (bodies.PrepareRange range b) (λ k. tt);
  }
  plan_near (plans.OfferPrepared i b v) saw = record {
    proposals = subst (λ (known : Running). AreNear records known.proposals) (sym (offered_is here input i b v saw))
        (with_near me records Votes running.proposals _ near (found_near i saw.proposal saw.found));
    sent = said_near (bodies.Accept i b v) (λ k. (refl, in_reach s.config.max_positions records i saw.place.within));
  }
  plan_near (plans.CountPromise promise) saw = record { proposals = noted_near promise false saw; sent = none me records Votes }
  plan_near (plans.CountRangePromise p) saw = record {
    proposals = λ q h.
        let hit = mapped_has (once_promised s.config.nodes p.from p.range p.ballot p.votes) q running.proposals h in
        subst (λ (r : Proposal). IsNear records r.position) (sym hit.2) (subst (IsNear records) (sym (promised_there s.config.nodes p.from p.range p.ballot p.votes hit.0)) (near hit.0 hit.1));
    sent = none me records Votes;
  }
  plan_near (plans.Offer promise v) saw =
      let p = saw.promised.proposal in
      let place : p.position ≡ promise.position = eqb-true p.position promise.position (found_has (λ (q : Proposal). nat_eq q.position promise.position) p running.proposals saw.promised.found).1 in
      record {
        proposals = noted_near promise true saw.promised;
        sent = said_near (bodies.Accept promise.position promise.ballot v) (λ k. (refl, subst (IsNear records) place (found_near promise.position p saw.promised.found)));
      }
  plan_near (plans.Yield i b bound) saw = record { proposals = refused_near me records Votes s.config.nodes running i b bound near; sent = none me records Votes }
  plan_near (plans.CountVote from i vote) saw = record { proposals = near; sent = none me records Votes }
  plan_near (plans.Learn i v) saw =
      learned_near i v (says_to_others s.config.nodes me (bodies.Decided i v)) [] (mapped me records Votes (says me (bodies.Decided i v)) _ (λ k. tt)) (none me records Votes)
  plan_near (plans.Follow from i v) saw =
      learned_near i v [] (asks_for me from (missing_position (records ++ Learned i v ∷ []))) (none me records Votes) (asked me records Votes from (missing_position (records ++ Learned i v ∷ [])))
  plan_near (plans.Report first) saw = record { proposals = near; sent = one me records Votes (report_of me first (applied_of records)) tt }
  plan_near (plans.AskMissing to) saw = record { proposals = near; sent = mapped me records Votes (λ i. says me (bodies.Ask i) to) (missing_in_window s.config.max_positions records) (λ i. tt) }

pub turn_near : {S : Type 0} (s : Setting S) (me : ℕ) (records : List Rec) (Votes : ℕ → ℕ → Type 0) (running : Running) (input : NodeInput) → AreNear records running.proposals → MayVoteFor Votes input
    → IsNearIf me records Votes (running_effect s me records running input)
turn_near s me records Votes running input near may =
    by_plan (running_node s me records running) input (IsNearIf me records Votes) (λ fault. tt) (plan_near s me records Votes running input near may)
