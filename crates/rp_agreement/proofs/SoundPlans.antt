-- A node that does what it plans makes a sound step.
use Rattle.std.proofs.Common.{◌≡◌, ℕ, ◌<◌, ◌-◌, Bool, true, false, Result, Ok, Err, Option, Some, None, List, [], ◌∷◌, ◌++◌, length, take, drop, inl, refl, sym, ap, subst, ◌∙◌, arith}
use Rattle.std.specs.Prelude.{nat_eq, not, filter}
use Rattle.std.proofs.lemmas.Bool.{and_parts, eqb-true}
use Rattle.std.proofs.lemmas.List.{take_all}
use Rattle.rp_base.specs.declared.action.Action.{Action}
use Rattle.rp_base.specs.declared.fault.Fault.{Fault}
use Rattle.rp_base.specs.declared.proposal.Phase.TheVariants.{Preparing}
use Rattle.rp_base.specs.declared.record.Rec.{Rec}
use Rattle.rp_base.specs.declared.record.Rec.TheVariants.{Started, Promised, Voted, Learned, PromisedRange}
use Rattle.rp_base.specs.declared.record.Vote.{Vote}
use Rattle.rp_base.specs.Ballot.{owner_of}
use Rattle.rp_base.specs.PlacedVotes.{last_votes}
use Rattle.rp_base.specs.Promises.{Promise, same_heard, offer_of, highest_vote}
use Rattle.rp_base.specs.Proposals.{Proposal, proposal_at, with_proposal, without_proposal, new_proposal, is_preparing, is_promised, with_promise, own_unless}
use Rattle.rp_base.specs.Ranges.{Range}
use Rattle.rp_base.specs.Records.{started_of, applied_of}
use Rattle.rp_base.specs.Sets.{Has, with_member}
use Rattle.rp_base.proofs.Members.{has_right}
use Rattle.rp_machine.specs.Replay.{one_to}
use Rattle.rp_codec.specs.Message.{Message, report_len}
use Rattle.rp_codec.specs.declared.packet.Party.TheVariants.{Node}
use Rattle.rp_codec.specs.declared.packet.Body.{Body}
use Rattle.rp_codec.specs.declared.packet.Body.TheVariants as bodies
use Rattle.rp_model.specs.Facts.{HasPromised, HasVoted}
use Rattle.rp_model.specs.Parts.{NodePart}
use Rattle.rp_model.specs.Leader.{ballot_of, starts_above}
use Rattle.rp_model.proofs.EveryPlan.{SawLead, SawLeadRange, SawMajority, SawVote, SawLast, SawDecision}
use Rattle.rp_agreement.specs.Asked.{IsAsked}
use Rattle.rp_agreement.specs.Inputs.{IsInput}
use Rattle.rp_agreement.specs.Sound.{IsReported, IsSo, IsProposal, IsRunning, IsSound}
use Rattle.rp_agreement.specs.Steps.{MayWrite}
use Rattle.rp_agreement.proofs.Lists.{found_has}
use Rattle.rp_agreement.proofs.RecordGrowth.{learned_has}
use Rattle.rp_agreement.proofs.Turns.{IsSoundTurn, IsOffer, IsPlain, ArePlain, none_plain, one_plain, mapped_plain, said_plain, plain, quiet, sending, runs_written}
use Rattle.rp_agreement.proofs.Acceptors.{one_said, promise_is_so, range_is_so, AllowsVote, vote_allowed}
use Rattle.rp_agreement.proofs.Leaders.{runs_with, more_promised, offering, offers_sound, after_majority, after_few, waits_by, refused_sound, range_noted, next_owned, next_above, new_unoffered, own_is_asked, own_offer, unless_is_so, started_new, runs_ranged}
use Rattle.rp_agreement.proofs.Learners.{decides, heard_more, runs_heard, asking_plain, learned_sound}
use Rattle.rp_agreement.proofs.Pendings.{runs_pending, interrupt_asked, tick_asked}
use Rattle.rp_agreement.proofs.Arriving.{came_said, call_asked}
use Rattle.rp_model.specs.Effect.{Setting, NodeInput, running_effect}
use Rattle.rp_model.specs.Leader.{unlearned_in}
use Rattle.rp_model.specs.Learner.{missing_position, asks_for, missing_in_window, asks_for_each}
use Rattle.rp_model.specs.Node.{RunningNode, running_node, counted_by, own_for}
use Rattle.rp_model.specs.Parts.{Running, Turn, with_record}
use Rattle.rp_model.specs.Plans.{once_counted, report_of, turn_of}
use Rattle.rp_model.specs.Says.{says, says_to_all, says_to_others, says_to_task, sends, notes, writes}
use Rattle.rp_model.specs.declared.plan.CountedPromise.{CountedPromise}
use Rattle.rp_model.specs.declared.plan.Plan.{Plan}
use Rattle.rp_model.specs.declared.plan.Plan.TheVariants as plans
use Rattle.rp_model.proofs.EveryPlan.{Brings, ByCall, ByInterrupt, ByTick, Saw, SawPromise, SawPrepared, promised_is, offered_is, by_plan}

-- the result of a turn, if it is not refused, is a sound step
abbrev pub IsSoundIf : ℕ → ℕ → List Rec → List Message → Result Turn Fault → Type 0
IsSoundIf nodes x records sent (Ok turn) = IsSoundTurn nodes x records sent turn
IsSoundIf nodes x records sent (Err fault) = Unit {0}

-- what a report states is so
reported_now : (applied : List Action) (first : ℕ) → IsReported applied first (length applied) (take (report_len first (length applied)) (drop (first - 1) applied))
reported_now applied first =
    (omega arith, ap (λ (all : List Action). take (report_len first (length applied)) (drop (first - 1) all)) (sym (take_all (length applied) applied (omega arith))))

module _ {S : Type 0} (s : Setting S) (x : ℕ) (node : ℕ → NodePart) (sent : List Message) (running : Running) (input : NodeInput)
    (small : x < 8) (sound : IsSound s.config.nodes node sent) (runs : IsRunning sent (node x).records running) (right : IsInput sent input) where
  abbrev nodes : ℕ
  nodes = s.config.nodes

  abbrev records : List Rec
  records = (node x).records

  abbrev here : RunningNode S
  here = running_node s x records running

  abbrev Sound : Turn → Type 0
  Sound turn = IsSoundTurn nodes x records sent turn

  item_asked : (item : Action) → Brings here input item → IsAsked sent item
  item_asked item (ByCall from task number object operation arg came is) = call_asked here node sent input sound right from item came
  item_asked item (ByInterrupt source occurrence given is) =
      let fits = subst (λ (i : NodeInput). IsInput sent i) given right in
      subst (IsAsked sent) (sym is) (interrupt_asked sent source occurrence fits.0 fits.1)
  item_asked item (ByTick now given is) = subst (IsAsked sent) (sym is) (tick_asked sent now (subst (λ (i : NodeInput). IsInput sent i) given right))

  -- ---- turns

  still : (turn : Turn) → turn.written ≡ None → turn.sent ≡ [] → IsRunning sent records turn.running → Sound turn
  still turn unwritten unsent known =
      plain nodes x records sent turn (subst (MayWrite nodes sent x records) (sym unwritten) tt) (subst (ArePlain nodes x sent (with_record records turn.written)) (sym unsent) (none_plain nodes x sent _))
      (subst (λ (w : Option Rec). IsRunning sent (with_record records w) turn.running) (sym unwritten) known)

  says_one : (body : Body) (to : ℕ) → IsSo nodes sent records body → (¬ IsOffer body) → Sound (sends running (says x body to ∷ []))
  says_one body to so none = sending nodes x records sent running (says x body to ∷ []) (one_said nodes x sent records body to so none) runs

  writes_one : (rec : Rec) (body : Body) (to : ℕ) → MayWrite nodes sent x records (Some rec) → IsSo nodes sent (records ++ rec ∷ []) body → (¬ IsOffer body)
      → Sound (writes rec running (says x body to ∷ []))
  writes_one rec body to may so none =
      plain nodes x records sent (writes rec running (says x body to ∷ [])) may (one_said nodes x sent (records ++ rec ∷ []) body to so none)
      (runs_written sent records (Some rec) running runs)

  -- ---- the leader

  ballot_owned : owner_of (ballot_of here) ≡ x
  ballot_owned = next_owned x (starts_above records running) small

  ballot_above : started_of records < ballot_of here
  ballot_above =
      let more : starts_above records running < ballot_of here = next_above x (starts_above records running) small in
      omega (arith, more)

  -- nothing was offered in the ballot that begins
  begins_new : (b : ℕ) → ballot_of here ≡ b → (owner_of b ≡ x) × (started_of records < b)
  begins_new b is = subst (λ (c : ℕ). (owner_of c ≡ x) × (started_of records < c)) is (ballot_owned, ballot_above)

  leads : (i b : ℕ) (own : Action) → SawLead here input i b own → Sound (turn_of here (plans.Lead i b own))
  leads i b own saw =
      let new = begins_new b saw.ballot in
      let unoffered = λ (v : Action). new_unoffered nodes x node sent i b v sound new.0 new.1 in
      let asked = own_is_asked sent (counted_by here) (without_proposal running.proposals i) running.pending runs.pending in
      plain nodes x records sent (turn_of here (plans.Lead i b own)) new
      (said_plain nodes x sent (records ++ Started b ∷ []) (bodies.Prepare i b) (has_right (Started b) records (Started b ∷ []) (inl refl)) (λ h. h) (one_to nodes))
      (runs_with sent (records ++ Started b ∷ []) running (new_proposal i b (Some own)) (runs_written sent records (Some (Started b)) running runs)
      (started_new sent records i b own unoffered (subst (IsAsked sent) saw.own_is asked)))

  leads_range : (range : Range) (b : ℕ) → SawLeadRange here input range b → Sound (turn_of here (plans.LeadRange range b))
  leads_range range b saw =
      let new = begins_new b saw.ballot in
      let started : Has (Started b) (records ++ Started b ∷ []) = has_right (Started b) records (Started b ∷ []) (inl refl) in
      plain nodes x records sent (turn_of here (plans.LeadRange range b)) new
      (said_plain nodes x sent (records ++ Started b ∷ []) (bodies.PrepareRange range b) started (λ h. h) (one_to nodes))
      (runs_ranged sent (records ++ Started b ∷ []) b started (λ i v. new_unoffered nodes x node sent i b v sound new.0 new.1) (unlearned_in records range) running
      (runs_written sent records (Some (Started b)) running runs))

  -- the proposal at a position is one of those that run, and there
  found_here : (i : ℕ) (p : Proposal) → proposal_at running.proposals i ≡ Some p → Has p running.proposals × (p.position ≡ i)
  found_here i p is =
      let found = found_has (λ (q : Proposal). nat_eq q.position i) p running.proposals is in
      (found.0, eqb-true p.position i found.1)

  -- an offer of a proposal that has this own action
  offers_prepared : (i b : ℕ) (v : Action) → SawPrepared here input i b v → Sound (turn_of here (plans.OfferPrepared i b v))
  offers_prepared i b v saw =
      let p = saw.proposal in
      let found = found_here i p saw.found in
      let is = runs.proposals p found.0 in
      let own = own_for here i in
      let both = and_parts (is_preparing p.phase) (is_promised nodes p) saw.prepared in
      let asked = own_is_asked sent (counted_by here) (without_proposal running.proposals i) running.pending runs.pending in
      let q : Proposal = record p { own = own_unless own (highest_vote p.promises) } in
      let stays : IsProposal sent records q = record {
        started = is.started;
        promised = is.promised;
        asked = unless_is_so (IsAsked sent) own (highest_vote p.promises) asked;
        unoffered = is.unoffered;
      } in
      let offer = offers_sound nodes x node sent running q sound runs stays (waits_by p.phase both.0) both.1 in
      let action : offer_of q.own p.promises ≡ v = own_offer own (highest_vote p.promises) ∙ saw.action_is in
      let says : (j c : ℕ) → (w : Action) → Turn = λ j c w. sends (record running { proposals = with_proposal running.proposals (offering q) }) (says_to_all nodes x (bodies.Accept j c w)) in
      subst (λ (known : Running). Sound (sends known (says_to_all nodes x (bodies.Accept i b v)))) (sym (offered_is here input i b v saw))
      (subst (λ (j : ℕ). Sound (says j b v)) found.1 (subst (λ (c : ℕ). Sound (says p.position c v)) saw.ballot (subst (λ (w : Action). Sound (says p.position p.ballot w)) action offer)))

  -- what a promise counts for
  counted : (promise : CountedPromise) (majority : Bool) (saw : SawPromise here input promise majority)
      → IsProposal sent records (with_promise saw.proposal (promise.from, promise.last))
      × (saw.proposal.phase ≡ Preparing) × (saw.proposal.position ≡ promise.position) × (saw.proposal.ballot ≡ promise.ballot)
  counted promise majority saw =
      let p = saw.proposal in
      let found = found_here promise.position p saw.found in
      let both = and_parts _ _ saw.takes in
      let ballot : p.ballot ≡ promise.ballot = eqb-true p.ballot promise.ballot both.0 in
      let body = bodies.Promise promise.position promise.ballot promise.last in
      let h = came_said here node sent input sound right promise.from body saw.came (λ call. call) in
      let stated : HasPromised sent promise.from promise.position promise.ballot promise.last = (record { from = Node promise.from; to = Node x; body = body }, h, refl, (refl, refl, refl)) in
      let there =
      subst (λ (c : ℕ). HasPromised sent promise.from p.position c promise.last) (sym ballot)
      (subst (λ (j : ℕ). HasPromised sent promise.from j promise.ballot promise.last) (sym found.1) stated) in
      (more_promised sent records p promise.from promise.last (runs.proposals p found.0) there, waits_by p.phase (and_parts _ _ both.1).0, found.1, ballot)

  counts_promise : (promise : CountedPromise) → SawPromise here input promise false → Sound (turn_of here (plans.CountPromise promise))
  counts_promise promise saw =
      let one : Promise = (promise.from, promise.last) in
      let is : once_counted here promise ≡ record running { proposals = with_proposal running.proposals (with_promise saw.proposal one) } =
      promised_is here input promise false saw ∙ ap (λ (q : Proposal). record running { proposals = with_proposal running.proposals q }) (after_few nodes saw.proposal one saw.counted) in
      subst (λ (known : Running). Sound (notes known)) (sym is)
      (quiet nodes x records sent _ (runs_with sent records running (with_promise saw.proposal one) runs (counted promise false saw).0))

  offers_action : (promise : CountedPromise) (v : Action) → SawMajority here input promise v → Sound (turn_of here (plans.Offer promise v))
  offers_action promise v saw =
      let one : Promise = (promise.from, promise.last) in
      let s = saw.promised in
      let after = with_promise s.proposal one in
      let stays = counted promise true s in
      let is : once_counted here promise ≡ record running { proposals = with_proposal running.proposals (offering after) } =
      promised_is here input promise true s ∙ ap (λ (q : Proposal). record running { proposals = with_proposal running.proposals q }) (after_majority nodes s.proposal one s.counted) in
      let offer = offers_sound nodes x node sent running after sound runs stays.0 stays.1 s.counted in
      let says : (j c : ℕ) → (w : Action) → Turn = λ j c w. sends (record running { proposals = with_proposal running.proposals (offering after) }) (says_to_all nodes x (bodies.Accept j c w)) in
      subst (λ (known : Running). Sound (sends known (says_to_all nodes x (bodies.Accept promise.position promise.ballot v)))) (sym is)
      (subst (λ (j : ℕ). Sound (says j promise.ballot v)) stays.2 (subst (λ (c : ℕ). Sound (says s.proposal.position c v)) stays.3 (subst (λ (w : Action). Sound (says s.proposal.position s.proposal.ballot w)) saw.action_is offer)))

  -- ---- the learner

  cast : (from i : ℕ) (vote : Vote) (majority : Bool) → SawVote here input from i vote majority → HasVoted sent from i vote.ballot vote.action
  cast from i vote majority saw = (x, came_said here node sent input sound right from (bodies.Accepted i vote.ballot vote.action) saw.came (λ call. call))

  learns_last : (i : ℕ) (v : Action) → SawLast here input i v → Sound (turn_of here (plans.Learn i v))
  learns_last i v saw =
      let vote : Vote = record { ballot = saw.ballot; action = v } in
      let more = records ++ Learned i v ∷ [] in
      let heard = heard_more sent running.heard saw.from i vote runs.heard (cast saw.from i vote true saw.vote) in
      learned_sound s.next s.answers s.begin nodes x records sent running i v (says_to_others nodes x (bodies.Decided i v)) []
      (decides nodes sent i vote (with_member same_heard running.heard (saw.from, i, vote)) heard saw.vote.counted) runs
      (said_plain nodes x sent more (bodies.Decided i v) (has_right (Learned i v) records (Learned i v ∷ []) (inl refl)) (λ h. h) (filter (λ k. not (nat_eq k x)) (one_to nodes)))
      (none_plain nodes x sent more)

  follows : (from i : ℕ) (v : Action) → SawDecision here input from i v → Sound (turn_of here (plans.Follow from i v))
  follows from i v saw =
      let more = records ++ Learned i v ∷ [] in
      let h = came_said here node sent input sound right from (bodies.Decided i v) saw.came (λ call. call) in
      learned_sound s.next s.answers s.begin nodes x records sent running i v [] (asks_for x from (missing_position more)) (sound.learned from i v (sound.says _ h).1) runs
      (none_plain nodes x sent more) (asking_plain nodes x sent more from (missing_position more))

  -- ---- each plan

  plan_sound : (plan : Plan) → Saw here input plan → Sound (turn_of here plan)
  plan_sound (plans.Pass dropped) saw = still (turn_of here (plans.Pass dropped)) refl refl runs
  plan_sound (plans.Promise header last) saw =
      writes_one (Promised header.position header.ballot) (bodies.Promise header.position header.ballot last) header.to tt
      (promise_is_so nodes sent records header.position header.ballot last saw.last_is saw.above) (λ h. h)
  plan_sound (plans.PromiseRange p) saw =
      writes_one (PromisedRange p.range p.ballot) (bodies.PromiseRange p.range p.ballot (last_votes records p.range)) p.to tt (range_is_so nodes sent records p.range p.ballot saw.above) (λ h. h)
  plan_sound (plans.Vote header v) saw =
      let allowed = subst (AllowsVote records header.position header.ballot v) saw.answer (vote_allowed records header.position header.ballot v) in
      writes_one (Voted header.position header.ballot v) (bodies.Accepted header.position header.ballot v) header.to
      ((header.to, x, came_said here node sent input sound right header.to (bodies.Accept header.position header.ballot v) saw.came (λ call. call)), allowed.1)
      (has_right (Voted header.position header.ballot v) records (Voted header.position header.ballot v ∷ []) (inl refl)) (λ h. h)
  plan_sound (plans.Repeat to i b v) saw = says_one (bodies.Accepted i b v) to (subst (AllowsVote records i b v) saw.answer (vote_allowed records i b v)) (λ h. h)
  plan_sound (plans.Refuse to i b bound) saw = says_one (bodies.Nack i b bound) to tt (λ h. h)
  plan_sound (plans.Inform to i v) saw = says_one (bodies.Decided i v) to (learned_has records i v saw.learned) (λ h. h)
  plan_sound (plans.Answer task number reply) saw =
      sending nodes x records sent running (says_to_task x (bodies.Reply number reply) task ∷ [])
      (one_plain nodes x sent records (says_to_task x (bodies.Reply number reply) task) (record { from = refl; so = tt; no_offer = λ h. h })) runs
  plan_sound (plans.Await item) saw = quiet nodes x records sent _ (runs_pending sent records running item runs (item_asked item saw.brought))
  plan_sound (plans.Lead i b own) saw = leads i b own saw
  plan_sound (plans.LeadRange range b) saw = leads_range range b saw
  plan_sound (plans.OfferPrepared i b v) saw = offers_prepared i b v saw
  plan_sound (plans.CountPromise promise) saw = counts_promise promise saw
  plan_sound (plans.CountRangePromise p) saw =
      let body = bodies.PromiseRange p.range p.ballot p.votes in
      let h = came_said here node sent input sound right p.from body saw (λ call. call) in
      quiet nodes x records sent _ (range_noted nodes records sent running p.from p.range p.ballot p.votes runs
      (λ i covered. (record { from = Node p.from; to = Node x; body = body }, h, refl, (covered, refl, refl))))
  plan_sound (plans.Offer promise v) saw = offers_action promise v saw
  plan_sound (plans.Yield i b bound) saw = quiet nodes x records sent _ (refused_sound nodes x records sent running i b bound runs)
  plan_sound (plans.CountVote from i vote) saw =
      quiet nodes x records sent _ (runs_heard sent records running _ runs (heard_more sent running.heard from i vote runs.heard (cast from i vote false saw)))
  plan_sound (plans.Learn i v) saw = learns_last i v saw
  plan_sound (plans.Follow from i v) saw = follows from i v saw
  plan_sound (plans.Report first) saw =
      sending nodes x records sent running (report_of x first (applied_of records) ∷ [])
      (one_plain nodes x sent records (report_of x first (applied_of records)) (record { from = refl; so = reported_now (applied_of records) first; no_offer = λ h. h })) runs
  plan_sound (plans.AskMissing to) saw =
      let positions = missing_in_window s.config.max_positions records in
      sending nodes x records sent running (asks_for_each x to positions)
      (mapped_plain nodes x sent records (λ i. says x (bodies.Ask i) to) positions
      (λ i. let is : IsPlain nodes x sent records (says x (bodies.Ask i) to) = record { from = refl; so = tt; no_offer = λ h. h } in is)) runs

pub running_sound : {S : Type 0} (s : Setting S) (x : ℕ) (node : ℕ → NodePart) (sent : List Message) (running : Running) (input : NodeInput)
    → x < 8 → IsSound s.config.nodes node sent → IsRunning sent (node x).records running → IsInput sent input
    → IsSoundIf s.config.nodes x (node x).records sent (running_effect s x (node x).records running input)
running_sound s x node sent running input small sound runs right =
    by_plan (running_node s x (node x).records running) input (IsSoundIf s.config.nodes x (node x).records sent) (λ fault. tt) (plan_sound s x node sent running input small sound runs right)
