-- A node has the same effects from starts that answer alike.
use Rattle.std.proofs.Common.{◌≡◌, ℕ, cond, Option, Some, None, Result, Ok, Err, List, [], ◌∷◌, ◌++◌, length, drop, filter, refl, sym, ap, ◌∙◌}
use Rattle.std.specs.Prelude.{is_some, nat_lt}
use Rattle.rp_base.specs.Promises.{heard_elsewhere, offer_of}
use Rattle.rp_base.specs.Proposals.{Proposal, proposal_at, without_proposal, is_prepared}
use Rattle.rp_base.specs.Records.{applied_of, learned_at}
use Rattle.rp_base.specs.declared.action.Action.{Action}
use Rattle.rp_base.specs.declared.action.Action.TheVariants as actions
use Rattle.rp_base.specs.declared.config.Config.{Config}
use Rattle.rp_base.specs.declared.fault.Fault.{Fault}
use Rattle.rp_base.specs.declared.fault.Fault.TheVariants.{BallotsSpent, LogFull}
use Rattle.rp_base.specs.declared.record.Rec.{Rec}
use Rattle.rp_base.specs.declared.record.Rec.TheVariants.{Learned}
use Rattle.rp_base.specs.declared.record.Vote.{Vote}
use Rattle.rp_base.specs.declared.reply.Answer.{Answer}
use Rattle.rp_base.specs.declared.reply.Reply.{Reply}
use Rattle.rp_model.specs.rp_codec.specs.Message.{Message}
use Rattle.rp_model.specs.rp_codec.specs.declared.packet.Body.{Body}
use Rattle.rp_model.specs.rp_codec.specs.declared.packet.Body.TheVariants as bodies
use Rattle.rp_model.specs.rp_machine.specs.Asked.{last_number, last_occurrence, kept_reply}
use Rattle.rp_model.specs.rp_machine.specs.Replay.{counted_of, replay_answers}
use Rattle.rp_model.specs.Arrivals.{adds_pending, on_numbered, on_call}
use Rattle.rp_model.specs.Effect.{Setting, NodeInput, plan_of, turn_if, running_effect}
use Rattle.rp_model.specs.Leader.{begins_if, leads_at, on_lead, chosen_position, is_beyond, is_out_of_reach, ballot_of, is_exhausted}
use Rattle.rp_model.specs.Learner.{on_vote, missing_position, asks_for}
use Rattle.rp_model.specs.Node.{RunningNode, running_node, own_for}
use Rattle.rp_model.specs.Parts.{Running, Turn}
use Rattle.rp_model.specs.Pending.{own_action, stays, replies_to}
use Rattle.rp_model.specs.Plans.{once_learned, turn_of}
use Rattle.rp_model.specs.Receiving.{is_for_node, on_body, sender_number}
use Rattle.rp_model.specs.Says.{says_to_others, writes}
use Rattle.rp_model.specs.declared.effect.Dropped.TheVariants.{No, Foreign}
use Rattle.rp_model.specs.declared.plan.Plan.{Plan}
use Rattle.rp_model.specs.declared.plan.Plan.TheVariants as plans
use Rattle.rp_installations.specs.Starts.{AnswerAlike}

module _ {S : Type 0} (config : Config) (next : S → Action → S) (answers : S → Action → List Answer) (one other : S) (alike : AnswerAlike next answers one other) (me : ℕ) (records : List Rec) (running : Running) where
  abbrev from_start : S → RunningNode S
  from_start begin = running_node (record { config = config; next = next; answers = answers; begin = begin }) me records running

  abbrev here : RunningNode S
  here = from_start one

  abbrev there : RunningNode S
  there = from_start other

  abbrev applied : List Action
  applied = applied_of records

  -- ---- both decide the same

  own_alike : (i : ℕ) → own_for here i ≡ own_for there i
  own_alike i = ap (λ (kept : List Action). own_action kept (without_proposal running.proposals i) running.pending) (alike.kept applied)

  -- a call, by what counted
  abbrev numbered_by : List Action → ℕ → ℕ → Action → Option Reply → Plan
  numbered_by kept task number call (Some reply) = plans.Answer task number reply
  numbered_by kept task number call None = cond (nat_lt number (last_number task kept)) (plans.Pass No) (adds_pending running.pending call)

  numbered_is : (begin : S) (task number : ℕ) (call : Action) (reply : Option Reply)
      → on_numbered (from_start begin) task number call reply ≡ numbered_by (counted_of next answers begin applied) task number call reply
  numbered_is begin task number call None = refl
  numbered_is begin task number call (Some reply) = refl

  call_alike : (call : Action) → on_call here call ≡ on_call there call
  call_alike actions.Noop = refl
  call_alike (actions.Call task number object operation arg) =
      let call = actions.Call task number object operation arg in
      let reply : List Action → List Answer → Option Reply = kept_reply task number in
      let same : numbered_by (counted_of next answers one applied) task number call (reply (counted_of next answers one applied) (replay_answers next answers one applied))
      ≡ numbered_by (counted_of next answers other applied) task number call (reply (counted_of next answers other applied) (replay_answers next answers other applied)) =
      λ i. numbered_by (alike.kept applied i) task number call (reply (alike.kept applied i) (alike.given applied i)) in
      numbered_is one task number call (reply (counted_of next answers one applied) (replay_answers next answers one applied)) ∙ same
      ∙ sym (numbered_is other task number call (reply (counted_of next answers other applied) (replay_answers next answers other applied)))
  call_alike (actions.Interrupt source occurrence) = refl
  call_alike (actions.Tick now) = refl

  vote_alike : (from i : ℕ) (vote : Vote) (learned : Option Action) → on_vote here from i vote learned ≡ on_vote there from i vote learned
  vote_alike from i vote None = refl
  vote_alike from i vote (Some learned) = refl

  body_alike : (from : ℕ) (body : Body) → on_body here from body ≡ on_body there from body
  body_alike from (bodies.Call action) = call_alike action
  body_alike from (bodies.Accepted i b v) = ap (λ (plan : Plan). cond {A = Plan} (is_beyond records i) (plans.Pass No) plan) (vote_alike from i (record { ballot = b; action = v }) (learned_at records i))
  body_alike from _ = refl

  begins_alike : (i : ℕ) → begins_if here i ≡ begins_if there i
  begins_alike i = ap (λ (own : Action). cond {A = Result Plan Fault} (is_exhausted here) (Err BallotsSpent) (Ok (plans.Lead i (ballot_of here) own))) (own_alike i)

  leads_alike : (i : ℕ) (found : Option Proposal) → leads_at here i found ≡ leads_at there i found
  leads_alike i None = begins_alike i
  leads_alike i (Some p) =
      λ n. cond {A = Result Plan Fault} (is_prepared config.nodes p) (Ok (plans.OfferPrepared i p.ballot (offer_of (Some (own_alike i n)) p.promises))) (begins_alike i n)

  lead_alike : (choice : Option ℕ) → on_lead here choice ≡ on_lead there choice
  lead_alike choice =
      let i = chosen_position config.nodes records running choice in
      ap (λ (r : Result Plan Fault). cond {A = Result Plan Fault} (is_some (learned_at records i)) (Ok (plans.Pass No)) (cond {A = Result Plan Fault} (is_out_of_reach config.max_positions records i) (Err LogFull) r))
      (leads_alike i (proposal_at running.proposals i))

  plan_alike : (input : NodeInput) → plan_of here input ≡ plan_of there input
  plan_alike (NodeInput.Receive m) =
      ap (λ (plan : Plan). (let r : Result Plan Fault = Ok (cond {A = Plan} (is_for_node config me m) plan (plans.Pass Foreign)) in r)) (body_alike (sender_number m.from) m.body)
  plan_alike (NodeInput.Lead choice) = lead_alike choice
  plan_alike (NodeInput.Interrupt source occurrence) =
      ap (λ (kept : List Action). (let r : Result Plan Fault = Ok (cond {A = Plan} (nat_lt (last_occurrence source kept) occurrence) (adds_pending running.pending (actions.Interrupt source occurrence)) (plans.Pass No)) in r))
      (alike.kept applied)
  plan_alike _ = refl

  -- ---- and a plan does the same

  learns_alike : (i : ℕ) (v : Action) (packets following : List Message) → once_learned here i v packets following ≡ once_learned there i v packets following
  learns_alike i v packets following =
      let after = applied_of (records ++ Learned i v ∷ []) in
      let turn : List Action → List Answer → List Answer → Turn = λ kept earlier given.
      writes (Learned i v)
      (record running {
        proposals = without_proposal running.proposals i;
        heard = heard_elsewhere running.heard i;
        pending = filter (stays kept given (drop (length applied) after)) running.pending;
      })
      (packets ++ replies_to me running.pending (drop (length earlier) given) ++ following) in
      λ n. turn (alike.kept after n) (alike.given applied n) (alike.given after n)

  turn_alike : (plan : Plan) → turn_of here plan ≡ turn_of there plan
  turn_alike (plans.Learn i v) = learns_alike i v (says_to_others config.nodes me (bodies.Decided i v)) []
  turn_alike (plans.Follow from i v) = learns_alike i v [] (asks_for me from (missing_position (records ++ Learned i v ∷ [])))
  turn_alike _ = refl

  turned_alike : (found : Result Plan Fault) → turn_if here found ≡ turn_if there found
  turned_alike (Ok plan) = ap (λ (turn : Turn). (let r : Result Turn Fault = Ok turn in r)) (turn_alike plan)
  turned_alike (Err fault) = refl

pub effect_alike : {S : Type 0} (config : Config) (next : S → Action → S) (answers : S → Action → List Answer) (one other : S) → AnswerAlike next answers one other → (me : ℕ) (records : List Rec) (running : Running) (input : NodeInput)
    → running_effect (record { config = config; next = next; answers = answers; begin = one }) me records running input ≡ running_effect (record { config = config; next = next; answers = answers; begin = other }) me records running input
effect_alike {S} config next answers one other alike me records running input =
    let node : RunningNode S = running_node (record { config = config; next = next; answers = answers; begin = one }) me records running in
    let known : RunningNode S = running_node (record { config = config; next = next; answers = answers; begin = other }) me records running in
    turned_alike config next answers one other alike me records running (plan_of node input) ∙ ap (turn_if known) (plan_alike config next answers one other alike me records running input)
