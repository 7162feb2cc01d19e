-- What waits at a node after a turn: where it learns nothing, what waited and one more at most; else what stays of it.
use Rattle.std.proofs.Common.{◌≡◌, ◌≢◌, ℕ, ◌≤◌, Bool, true, false, if◌then◌else◌, Result, Ok, Err, ◌⊎◌, inl, inr, Option, Some, None, List, [], ◌∷◌, ◌++◌, length, drop, filter, refl, sym, ap, subst, ◌∙◌, arith, suc, lt-ltb}
use Rattle.std.specs.Prelude.{nat_lt, ◌||◌}
use Rattle.std.specs.List.{list_any}
use Rattle.std.proofs.lemmas.Bool.{cases_lt, cond-true, cond-false, lt-leb}
use Rattle.rp_base.specs.declared.action.Action.{Action}
use Rattle.rp_base.specs.declared.action.Action.TheVariants as actions
use Rattle.rp_base.specs.declared.fault.Fault.{Fault}
use Rattle.rp_base.specs.declared.record.Rec.{Rec}
use Rattle.rp_base.specs.declared.record.Rec.TheVariants.{Learned}
use Rattle.rp_base.specs.Promises.{Promise}
use Rattle.rp_base.specs.Proposals.{Proposal, proposal_at, is_in}
use Rattle.rp_base.specs.Records.{applied_of}
use Rattle.rp_base.specs.Sets.{Has}
use Rattle.rp_base.proofs.Members.{has_right, has_passing, passes}
use Rattle.rp_codec.specs.declared.packet.Body.{Body}
use Rattle.rp_machine.specs.Asked.{last_occurrence}
use Rattle.rp_machine.specs.Replay.{counted_of, replay_answers}
use Rattle.rp_agreement.specs.Over.{calls_in_body, brought_by, AreKept, IsTaken, IsOverOnce}
use Rattle.rp_agreement.proofs.Lists.{some_same}
use Rattle.rp_agreement.proofs.PendingOver.{not_over, so_stays}
use Rattle.rp_model.specs.Effect.{Setting, NodeInput, Interrupt, Tick, running_effect}
use Rattle.rp_model.specs.Leader.{refused_running}
use Rattle.rp_model.specs.Node.{RunningNode, running_node, counted_by}
use Rattle.rp_model.specs.Parts.{Running, Turn}
use Rattle.rp_model.specs.Pending.{most_pending, is_same_call, stays}
use Rattle.rp_model.specs.Plans.{offered_running, promised_running, turn_of}
use Rattle.rp_model.specs.declared.plan.Plan.{Plan}
use Rattle.rp_model.specs.declared.plan.Plan.TheVariants as plans
use Rattle.rp_model.proofs.EveryPlan.{Brings, ByCall, ByInterrupt, ByTick, Saw, by_plan}
use Rattle.rp_model.specs.Arrivals.{adds_pending}
use Rattle.rp_model.specs.declared.effect.Dropped.TheVariants.{No, Full}
use Rattle.rp_base.specs.Ballot.{greatest_with}
use Rattle.std.specs.Prelude.{not}
use Rattle.rp_base.specs.Proposals.{is_given_up}

module _ {S : Type 0} (s : Setting S) (records : List Rec) (running : Running) (brought : List Action) where
  -- the items that stay once an action is learned
  abbrev those : ℕ → Action → List Action
  those i v =
      let before = applied_of records in
      let after = applied_of (records ++ Learned i v ∷ []) in
      filter (stays (counted_of s.next s.answers s.begin after) (replay_answers s.next s.answers s.begin after) (drop (length before) after)) running.pending

  abbrev Learns : Turn → Type 0
  Learns turn = (i : ℕ) × (v : Action) × (turn.written ≡ Some (Learned i v)) × (turn.running.pending ≡ those i v)

  abbrev Others : Turn → Type 0
  Others turn = ((i : ℕ) (v : Action) → ¬ (turn.written ≡ Some (Learned i v))) × AreKept running turn brought

  abbrev Fate : Turn → Type 0
  Fate turn = Learns turn ⊎ Others turn

  abbrev pub FateIf : Result Turn Fault → Type 0
  FateIf (Ok turn) = Fate turn
  FateIf (Err fault) = Unit {0}

-- an item that an input brings
brought_item : {S : Type 0} (node : RunningNode S) (input : NodeInput) (item : Action) → Brings node input item → Has item (brought_by input)
brought_item node input item (ByCall from task number object operation arg came is) =
    subst (λ (given : NodeInput). Has item (brought_by given)) (sym came.input_is)
    (subst (λ (body : Body). Has item (calls_in_body body)) (sym came.says) (inl refl))
brought_item node input item (ByInterrupt source occurrence given is) = subst (λ (input : NodeInput). Has item (brought_by input)) (sym given) (inl is)
brought_item node input item (ByTick now given is) = subst (λ (input : NodeInput). Has item (brought_by input)) (sym given) (inl is)

module _ {S : Type 0} (s : Setting S) (me : ℕ) (records : List Rec) (running : Running) (input : NodeInput) where
  abbrev here : RunningNode S
  here = running_node s me records running

  abbrev FateOf : Turn → Type 0
  FateOf turn = Fate s records running (brought_by input) turn

  promised_pending : (nodes b : ℕ) (promise : Promise) (found : Option Proposal) → (promised_running nodes running b promise found).pending ≡ running.pending
  promised_pending nodes b promise None = refl
  promised_pending nodes b promise (Some p) = refl

  offered_pending : (nodes : ℕ) (v : Action) (found : Option Proposal) → (offered_running nodes running v found).pending ≡ running.pending
  offered_pending nodes v None = refl
  offered_pending nodes v (Some p) = refl

  refused_pending : (nodes i b bound : ℕ) → (refused_running nodes running i b bound).pending ≡ running.pending
  refused_pending nodes i b bound =
      let known : Running = record running { proposals = filter (λ p. not (is_given_up nodes i b p)) running.proposals; refused = greatest_with running.refused bound } in
      elim (is_in b (proposal_at running.proposals i)) as (λ t. (let left : Running = if t then known else running in left.pending) ≡ running.pending) [ true ↦ refl | false ↦ refl ]

  plan_fate : (plan : Plan) → Saw here input plan → FateOf (turn_of here plan)
  plan_fate (plans.Vote header v) saw = inr (λ i v e. absurd cc, inl refl)
  plan_fate (plans.Repeat to i b v) saw = inr (λ i v e. absurd cc, inl refl)
  plan_fate (plans.Refuse to i b bound) saw = inr (λ i v e. absurd cc, inl refl)
  plan_fate (plans.Inform to i v) saw = inr (λ i v e. absurd cc, inl refl)
  plan_fate (plans.Await item) saw = inr (λ i v e. absurd cc, inr (item, brought_item here input item saw.brought, refl))
  plan_fate (plans.Lead i b own) saw = inr (λ i v e. absurd cc, inl refl)
  plan_fate (plans.OfferPrepared i b v) saw = inr (λ i v e. absurd cc, inl (offered_pending s.config.nodes v (proposal_at running.proposals i)))
  plan_fate (plans.CountPromise p) saw = inr (λ i v e. absurd cc, inl (promised_pending s.config.nodes p.ballot (p.from, p.last) (proposal_at running.proposals p.position)))
  plan_fate (plans.Offer p v) saw = inr (λ i v e. absurd cc, inl (promised_pending s.config.nodes p.ballot (p.from, p.last) (proposal_at running.proposals p.position)))
  plan_fate (plans.Yield i b bound) saw = inr (λ i v e. absurd cc, inl (refused_pending s.config.nodes i b bound))
  plan_fate (plans.CountVote from i vote) saw = inr (λ i v e. absurd cc, inl refl)
  plan_fate (plans.Learn i v) saw = inl (i, v, refl, refl)
  plan_fate (plans.Follow from i v) saw = inl (i, v, refl, refl)
  plan_fate _ saw = inr (λ i v e. absurd cc, inl refl)

-- any input
pub fate_of : {S : Type 0} (s : Setting S) (me : ℕ) (records : List Rec) (running : Running) (input : NodeInput) → FateIf s records running (brought_by input) (running_effect s me records running input)
fate_of s me records running input =
    by_plan (running_node s me records running) input (FateIf s records running (brought_by input)) (λ fault. tt) (plan_fate s me records running input)

-- ---- what that says of a turn

module _ {S : Type 0} (s : Setting S) (records : List Rec) (running : Running) (brought : List Action) (turn : Turn) where
  pub learned_so : (effect : Result Turn Fault) → FateIf s records running brought effect → effect ≡ Ok turn → (i : ℕ) (v : Action) → turn.written ≡ Some (Learned i v)
      → turn.running.pending ≡ those s records running brought i v
  learned_so effect is result i v wrote =
      elim (subst (FateIf s records running brought) result is) [
        | inl learned ↦
            let same : Learned learned.0 learned.1 ≡ Learned i v = some_same (sym learned.2 ∙ wrote) in
            let place : learned.0 ≡ i = cc in
            let action : learned.1 ≡ v = cc in
            learned.3 ∙ ap (λ (j : ℕ). those s records running brought j learned.1) place ∙ ap (λ (w : Action). those s records running brought i w) action
        | inr other ↦ absurd (other.0 i v wrote)
      ]

  pub others_so : (effect : Result Turn Fault) → FateIf s records running brought effect → effect ≡ Ok turn → ((i : ℕ) (v : Action) → turn.written ≢ Some (Learned i v)) → AreKept running turn brought
  others_so effect is result none =
      elim (subst (FateIf s records running brought) result is) [
        | inl learned ↦ absurd (none learned.0 learned.1 learned.2)
        | inr other ↦ other.1
      ]

  pub stay_exactly : (i : ℕ) (v item : Action) → turn.running.pending ≡ those s records running brought i v
      → (Has item turn.running.pending → Has item running.pending × (¬ IsOverOnce s records i v item)) × (Has item running.pending × (¬ IsOverOnce s records i v item) → Has item turn.running.pending)
  stay_exactly i v item is =
      let after = applied_of (records ++ Learned i v ∷ []) in
      let kept = counted_of s.next s.answers s.begin after in
      let given = replay_answers s.next s.answers s.begin after in
      let newly = drop (length (applied_of records)) after in (
        λ h.
            let both = has_passing (stays kept given newly) item running.pending (subst (λ (items : List Action). Has item items) is h) in
            (both.0, not_over kept given newly item both.1),
        λ h. subst (λ (items : List Action). Has item items) (sym is) (passes (stays kept given newly) item running.pending h.0 (so_stays kept given newly item h.1)),
      )

-- ---- an interrupt and a tick

none_same : (test : Action → Bool) (items : List Action) → ((item : Action) → test item ≡ false) → list_any test items ≡ false
none_same test [] none = refl
none_same test (item ∷ items) none = ap (λ (b : Bool). b || list_any test items) (none item) ∙ none_same test items none

adds_taken : {S : Type 0} (node : RunningNode S) (item : Action) → ((other : Action) → is_same_call item other ≡ false) → IsTaken node.running (turn_of node (adds_pending node.running.pending item)) item
adds_taken node item new =
    let pending = node.running.pending in
    let room = nat_lt (length pending) most_pending in
    let is : adds_pending pending item ≡ (if room then plans.Await item else plans.Pass Full) =
    cond-false (list_any (is_same_call item) pending) (plans.Pass No) _ (none_same (is_same_call item) pending new) in
    elim (cases_lt (length pending) 32) [
      | inl below ↦
          let plan : adds_pending pending item ≡ plans.Await item = is ∙ cond-true room (plans.Await item) (plans.Pass Full) (lt-ltb (length pending) 32 below) in
          subst (λ (p : Plan). IsTaken node.running (turn_of node p) item) (sym plan) (inl (has_right item pending (item ∷ []) (inl refl)))
      | inr past ↦
          let plan : adds_pending pending item ≡ plans.Pass Full = is ∙ cond-false room (plans.Await item) (plans.Pass Full) (not_below (length pending) 32 past) in
          subst (λ (p : Plan). IsTaken node.running (turn_of node p) item) (sym plan) (inr (refl, past))
    ]
  where
    not_below : (a n : ℕ) → n ≤ a → nat_lt a n ≡ false
    not_below a n past = lt-leb (suc a) n (omega (arith, past))

ok_same : (a b : Turn) → (let one : Result Turn Fault = Ok a in one) ≡ Ok b → a ≡ b
ok_same a b e = cc

module _ {S : Type 0} (s : Setting S) (me : ℕ) (records : List Rec) (running : Running) (turn : Turn) where
  pub tick_taken : (now : ℕ) → running_effect s me records running (Tick now) ≡ Ok turn → IsTaken running turn (actions.Tick now)
  tick_taken now result =
      let node = running_node s me records running in
      subst (λ (t : Turn). IsTaken running t (actions.Tick now)) (ok_same _ turn result) (adds_taken node (actions.Tick now) (λ other. refl))

  pub interrupt_taken : (source occurrence : ℕ) → running_effect s me records running (Interrupt source occurrence) ≡ Ok turn
      → (occurrence ≤ last_occurrence source (counted_of s.next s.answers s.begin (applied_of records))) ⊎ IsTaken running turn (actions.Interrupt source occurrence)
  interrupt_taken source occurrence result =
      let node = running_node s me records running in
      let item = actions.Interrupt source occurrence in
      let kept = counted_by node in
      elim (cases_lt (last_occurrence source kept) occurrence) [
        | inl above ↦
            let is : turn_of node (adds_pending running.pending item) ≡ turn =
            ap (turn_of node) (sym (cond-true (nat_lt (last_occurrence source kept) occurrence) (adds_pending running.pending item) (plans.Pass No) (lt-ltb _ _ above))) ∙ ok_same _ turn result in
            inr (subst (λ (t : Turn). IsTaken running t item) is (adds_taken node item (λ other. refl)))
        | inr past ↦ inl past
      ]
