-- What is pending at a node by handle counts if it is applied next, or is over.
use Rattle.std.proofs.Common.{◌≡◌, ◌≢◌, ℕ, zero, suc, ◌+◌, ◌<◌, ◌≤◌, max, ℤ, Bool, true, false, not, ◌&&◌, ◌||◌, cond, nat_eq, nat_lt, Option, Some, None, Result, Ok, Err, List, [], ◌∷◌, ◌++◌, length, filter, if◌then◌else◌, refl, sym, ap, subst, ◌∙◌, inl, inr, ◌⊎◌, arith, lt-ltb, ltb-true}
use Rattle.std.proofs.lemmas.List.{length-append}
use Rattle.std.proofs.lemmas.Bool.Decides.{eqb_tells}
use Rattle.std.specs.List.{list_all}
use Rattle.std.specs.Cmp.Lexicographic.{pointwise}
use Rattle.std.proofs.lemmas.Bool.{cases_lt}
use Rattle.rp_base.specs.Number.{greatest}
use Rattle.rp_base.specs.Records.{applied_of}
use Rattle.rp_base.specs.Sets.{Has}
use Rattle.rp_base.proofs.Members.{has_passing, has_split}
use Rattle.rp_base.specs.declared.action.Action.{Action}
use Rattle.rp_base.specs.declared.action.Action.TheVariants.{Noop, Call, Interrupt, Tick}
use Rattle.rp_base.specs.declared.action.Operation.{Operation}
use Rattle.rp_base.specs.declared.config.Config.{Config}
use Rattle.rp_base.specs.declared.fault.Fault.{Fault}
use Rattle.rp_base.specs.declared.record.Rec.{Rec}
use Rattle.rp_base.specs.declared.reply.Answer.{Answer}
use Rattle.rp_model.specs.rp_codec.specs.Message.{Message}
use Rattle.rp_model.specs.rp_codec.specs.declared.packet.Body.{Body}
use Rattle.rp_model.specs.rp_codec.specs.declared.packet.Body.TheVariants as bodies
use Rattle.rp_model.specs.rp_machine.specs.Asked.{last_number, last_occurrence}
use Rattle.rp_model.specs.rp_machine.specs.Replay.{number_for, numbers_of, one_to, all_answered, is_answered, is_next_number, counts, Replayed, replay_step, replay_from, replay_of, counted_of, replay_answers, unmoved}
use Rattle.rp_model.specs.rp_machine.proofs.Asking.{interrupt_counts}
use Rattle.rp_model.specs.rp_machine.proofs.Calling.{both_true}
use Rattle.rp_model.specs.rp_machine.proofs.Numbering.{greatest-one_to, greatest-push, length-one_to, next_numbers, numbers_other, numbers_own, still_answered}
use Rattle.rp_model.specs.rp_machine.proofs.Replaying.{replay_from-append}
use Rattle.rp_model.specs.Effect.{Setting, NodeInput, Receive, Interrupt as InterruptInput, running_effect, turn_if, plan_of}
use Rattle.rp_model.specs.Effect as inputs
use Rattle.rp_model.specs.Node.{RunningNode, running_node}
use Rattle.rp_model.specs.Parts.{Running, Turn, with_record}
use Rattle.rp_model.specs.Pending.{is_ahead}
use Rattle.rp_model.specs.Plans.{turn_of}
use Rattle.rp_model.specs.Receiving.{is_node, is_for_node, is_no_node_above, is_allowed, sender_number, receives, on_body}
use Rattle.rp_model.specs.declared.effect.Dropped.TheVariants.{Foreign}
use Rattle.rp_model.specs.declared.plan.Plan.{Plan}
use Rattle.rp_model.specs.declared.plan.Plan.TheVariants as plans
use Rattle.rp_model.proofs.AppliedGrowing.{applied_more}
use Rattle.rp_agreement.specs.Over.{AreKept, brought_by, calls_in_body}
use Rattle.rp_agreement.proofs.PendingTurns.{FateIf, fate_of}
use Rattle.rp_world.specs.rp_replica.specs.Inputs.{effect_if_given}
use Rattle.rp_world.specs.rp_replica.specs.State.{ReplicaState, after_turn, setting_of}
use Rattle.rp_requests.specs.Nodes.{NodeState, GivenAnswers, RequestAnswers, after_early, after_step, is_at_end}
use Rattle.rp_requests.specs.Opening.{IsOpenedNode}
use Rattle.rp_requests.specs.Requests.{Asked, Step, Applied, Image, LastAnswer, Left, Pending, Counted}
use Rattle.rp_requests.specs.Timing.{answered_by, comes_early, comes_late, counted_by, is_early, is_early_body}
use Rattle.rp_requests.specs.declared.buffer.Lengths.{Lengths}
use Rattle.rp_requests.specs.declared.refusal.Refusal.{Refusal}
use Rattle.rp_installations.specs.Moves.{is_step_made}
use Rattle.rp_installations.specs.Countable.{CountsOrIsOver, PendingCounts}
use Rattle.rp_installations.proofs.NodeAnswers.{Outcome, Stepped, Unchanged, outcome}

-- the same, after a log
abbrev Fine : List Action → List Answer → Action → Type 0
Fine counted given item = (counts counted given item ≡ true) ⊎ (is_ahead counted item ≡ false)

both_are : (a b : Bool) → a ≡ true → b ≡ true → (a && b) ≡ true
both_are true b e f = f
both_are false b e f = absurd (cc)

and_true : (b : Bool) → (b && true) ≡ false → b ≡ false
and_true true e = absurd (cc)
and_true false e = refl

not_below : (a n : ℕ) → n ≤ a → nat_lt a n ≡ false
not_below a n past = by (nat_lt a n) refl
  where
    by : (b : Bool) → nat_lt a n ≡ b → b ≡ false
    by true e = absurd (let lt = ltb-true a n e in omega arith)
    by false e = refl

at_least : (a n : ℕ) → nat_lt a n ≡ false → n ≤ a
at_least a n e = elim (cases_lt a n) [ inl below ↦ (let is = lt-ltb a n below in absurd (cc)) | inr past ↦ past ]

interrupt_fine : (counted : List Action) (given : List Answer) (source occurrence : ℕ) → Fine counted given (Interrupt source occurrence)
interrupt_fine counted given source occurrence = by (nat_lt (last_occurrence source counted) occurrence) refl
  where
    by : (b : Bool) → nat_lt (last_occurrence source counted) occurrence ≡ b → Fine counted given (Interrupt source occurrence)
    by true e = (let lt = ltb-true (last_occurrence source counted) occurrence e in inl (sym (interrupt_counts counted given source occurrence (omega arith)) ∙ e))
    by false e = inr e

-- ---- one action more

module _ (counted : List Action) (given more : List Answer) (task number object : ℕ) (operation : Operation) (arg : ℤ) where
  abbrev call : Action
  call = Call task number object operation arg

  -- more answers leave no call of its task without one
  all_still : (numbers : List ℕ) → list_all (is_answered given task) numbers ≡ true → list_all (is_answered (given ++ more) task) numbers ≡ true
  all_still [] e = refl
  all_still (n ∷ rest) e =
      let both = both_true (is_answered given task n) (list_all (is_answered given task) rest) e in
      both_are (is_answered (given ++ more) task n) (list_all (is_answered (given ++ more) task) rest) (still_answered given more task n both.0) (all_still rest both.1)

  -- after an action that is no call of its task it counts as before
  beside : (action : Action) → number_for task action ≡ None → Fine counted given call → Fine (counted ++ action ∷ []) (given ++ more) call
  beside action none (inl e) =
      let both = both_true (is_next_number counted task number) (all_answered counted given task) e in
      let same : numbers_of task (counted ++ action ∷ []) ≡ numbers_of task counted = numbers_other task action counted none in
      inl (both_are (is_next_number (counted ++ action ∷ []) task number) (all_answered (counted ++ action ∷ []) (given ++ more) task)
      (ap (λ (xs : List ℕ). pointwise nat_eq (one_to number) (xs ++ number ∷ [])) same ∙ both.0)
      (ap (λ (xs : List ℕ). list_all (is_answered (given ++ more) task) xs) same ∙ all_still (numbers_of task counted) both.1))
  beside action none (inr e) =
      let same : numbers_of task (counted ++ action ∷ []) ≡ numbers_of task counted = numbers_other task action counted none in
      inr (ap (λ (xs : List ℕ). nat_lt (greatest xs) number) same ∙ e)

  -- after a call of its task that counts it is over
  own : (m o : ℕ) (q : Operation) (b : ℤ) → is_next_number counted task m ≡ true → Fine counted given call → Fine (counted ++ Call task m o q b ∷ []) (given ++ more) call
  own m o q b next (inl e) =
      let both = both_true (is_next_number counted task number) (all_answered counted given task) e in
      let here = next_numbers counted task m next in
      let there = next_numbers counted task number both.0 in
      let one : length (numbers_of task counted) + 1 ≡ m = sym (length-append (numbers_of task counted) (m ∷ [])) ∙ ap (λ (xs : List ℕ). length xs) here ∙ length-one_to m in
      let two : length (numbers_of task counted) + 1 ≡ number = sym (length-append (numbers_of task counted) (number ∷ [])) ∙ ap (λ (xs : List ℕ). length xs) there ∙ length-one_to number in
      let last : last_number task (counted ++ Call task m o q b ∷ []) ≡ m = ap greatest (numbers_own task m o q b counted ∙ here) ∙ greatest-one_to m in
      inr (not_below (last_number task (counted ++ Call task m o q b ∷ [])) number (omega (arith, one, two, last)))
  own m o q b next (inr e) =
      let last : last_number task (counted ++ Call task m o q b ∷ []) ≡ max (last_number task counted) m = ap greatest (numbers_own task m o q b counted) ∙ greatest-push (numbers_of task counted) m in
      let past = at_least (last_number task counted) number e in
      inr (not_below (last_number task (counted ++ Call task m o q b ∷ [])) number (omega (arith, last, past)))

  one_more : (action : Action) → counts counted given action ≡ true → Fine counted given call → Fine (counted ++ action ∷ []) (given ++ more) call
  one_more Noop e fine = absurd (cc)
  one_more (Call t m o q b) e fine = elim (eqb_tells t task) [
    | inl same ↦
        let P : ℕ → Type 0 = λ u. is_next_number counted u m ≡ true → Fine (counted ++ Call u m o q b ∷ []) (given ++ more) call in
        subst P (sym same.1) (λ next. own m o q b next fine) (both_true (is_next_number counted t m) (all_answered counted given t) e).0
    | inr other ↦ beside (Call t m o q b) (ap (λ (x : Bool). if x then Some m else None) other.0) fine
  ]
  one_more (Interrupt s o) e fine = beside (Interrupt s o) refl fine
  one_more (Tick now) e fine = beside (Tick now) refl fine

item_more : (counted : List Action) (given more : List Answer) (item action : Action) → counts counted given action ≡ true → Fine counted given item → Fine (counted ++ action ∷ []) (given ++ more) item
item_more counted given more Noop action e fine = inr refl
item_more counted given more (Call task number object operation arg) action e fine = one_more counted given more task number object operation arg action e fine
item_more counted given more (Interrupt source occurrence) action e fine = interrupt_fine (counted ++ action ∷ []) (given ++ more) source occurrence
item_more counted given more (Tick now) action e fine = inl refl

-- ---- an item that comes, and does not come early

timely : (counted : List Action) (given : List Answer) (action : Action) → is_early counted given action ≡ false → Fine counted given action
timely counted given Noop e = inr refl
timely counted given (Call task number object operation arg) e = by (counts counted given (Call task number object operation arg)) refl
  where
    by : (b : Bool) → counts counted given (Call task number object operation arg) ≡ b → Fine counted given (Call task number object operation arg)
    by true is = inl is
    by false is = inr (and_true (nat_lt (last_number task counted) number) (ap (λ (b : Bool). nat_lt (last_number task counted) number && not b) (sym is) ∙ e))
timely counted given (Interrupt source occurrence) e = interrupt_fine counted given source occurrence
timely counted given (Tick now) e = inl refl

call_fine : (counted : List Action) (given : List Answer) (body : Body) (item : Action) → Has item (calls_in_body body) → is_early_body counted given body ≡ false → Fine counted given item
call_fine counted given (bodies.Call action) item (inl same) e = subst (Fine counted given) (sym same) (timely counted given action e)
call_fine counted given (bodies.Call action) item (inr none) e = absurd none
call_fine counted given body item none e = absurd none

-- ---- a node

module _ {S : Type 0} (next : S → Action → S) (answers : S → Action → List Answer) where
  abbrev taken : Replayed S → Action → Replayed S
  taken r action = record { state = next r.state action; kept = r.kept ++ action ∷ []; given = r.given ++ answers r.state action }

  step_fine : (r : Replayed S) (item action : Action) (b : Bool) → counts r.kept r.given action ≡ b → Fine r.kept r.given item → (let after = (if b then taken r action else r) in Fine after.kept after.given item)
  step_fine r item action true e fine = item_more r.kept r.given (answers r.state action) item action e fine
  step_fine r item action false e fine = fine

  from_fine : (r : Replayed S) (more : List Action) (item : Action) → Fine r.kept r.given item → (let after = replay_from next answers r more in Fine after.kept after.given item)
  from_fine r [] item fine = fine
  from_fine r (action ∷ rest) item fine = from_fine (replay_step next answers r action) rest item (step_fine r item action (counts r.kept r.given action) refl fine)

  abbrev FineAt : S → List Rec → Action → Type 0
  FineAt begin records item = Fine (counted_of next answers begin (applied_of records)) (replay_answers next answers begin (applied_of records)) item

  more_fine : (begin : S) (records more : List Rec) (item : Action) → FineAt begin records item → FineAt begin (records ++ more) item
  more_fine begin records more item fine =
      let further = applied_more records more in
      let rest : replay_of next answers begin (applied_of records ++ further.0) ≡ replay_from next answers (replay_of next answers begin (applied_of records)) further.0 = replay_from-append next answers (unmoved begin) (applied_of records) further.0 in
      subst (λ (xs : List Action). Fine (counted_of next answers begin xs) (replay_answers next answers begin xs) item) (sym further.1)
      (subst (λ (r : Replayed S). Fine r.kept r.given item) (sym rest) (from_fine (replay_of next answers begin (applied_of records)) further.0 item fine))

  written_fine : (begin : S) (records : List Rec) (written : Option Rec) (item : Action) → FineAt begin records item → FineAt begin (with_record records written) item
  written_fine begin records None item fine = fine
  written_fine begin records (Some rec) item fine = more_fine begin records (rec ∷ []) item fine

  module _ (old : ReplicaState S) where
    abbrev FineNow : Action → Type 0
    FineNow item = FineAt old.begin old.records item

    -- what is pending after a step was, or came
    items : (input : NodeInput) (turn : Turn) → effect_if_given next answers old (Ok input) ≡ Ok turn → (item : Action) → Has item turn.running.pending → Has item old.running.pending ⊎ Has item (brought_by input)
    items input turn effect item has =
        elim (subst (FateIf (setting_of next answers old) old.records old.running (brought_by input)) effect (fate_of (setting_of next answers old) old.me old.records old.running input)) [
          | inl learned ↦ inl (has_passing _ item old.running.pending (subst (λ (l : List Action). Has item l) learned.3 has)).0
          | inr others ↦ elim others.1 [
            | inl same ↦ inl (subst (λ (l : List Action). Has item l) same has)
            | inr one ↦ elim (has_split item old.running.pending (one.0 ∷ []) (subst (λ (l : List Action). Has item l) one.2 has)) [
              | inl was ↦ inl was
              | inr new ↦ elim new [ inl same ↦ inr (subst (λ (x : Action). Has x (brought_by input)) (sym same) one.1) | inr none ↦ absurd none ]
            ]
          ]
        ]

    -- a packet for another node leaves what is pending
    passed : (message : Message) (turn : Turn) → effect_if_given next answers old (Ok (Receive message)) ≡ Ok turn → is_node old.me message.to ≡ false → turn.running.pending ≡ old.running.pending
    passed message turn effect other =
        let node : RunningNode S = running_node (setting_of next answers old) old.me old.records old.running in
        let not_for : is_for_node old.config old.me message ≡ false =
        ap (λ (b : Bool). (b && is_no_node_above old.config.nodes message.from) && is_allowed old.config.max_positions (sender_number message.from) message.body) other in
        let plan : receives node message ≡ plans.Pass Foreign = ap (λ (b : Bool). cond b (on_body node (sender_number message.from) message.body) (plans.Pass Foreign)) not_for in
        let made : (let one : Result Turn Fault = Ok (turn_of node (plans.Pass Foreign)) in one) ≡ Ok turn = ap (λ (p : Plan). let one : Result Turn Fault = Ok (turn_of node p) in one) (sym plan) ∙ effect in
        let same : turn_of node (plans.Pass Foreign) ≡ turn = cc in
        ap (λ (t : Turn). t.running.pending) (sym same)

    -- each item that is pending after a step was, or is fine
    came : (input : NodeInput) (turn : Turn) → effect_if_given next answers old (Ok input) ≡ Ok turn → comes_early next answers old (Ok input) ≡ false → (item : Action) → Has item turn.running.pending → Has item old.running.pending ⊎ FineNow item
    came (Receive message) turn effect early item has = by (is_node old.me message.to) refl
      where
        by : (b : Bool) → is_node old.me message.to ≡ b → Has item old.running.pending ⊎ FineNow item
        by true is = elim (items (Receive message) turn effect item has) [
          | inl was ↦ inl was
          | inr new ↦ inr (call_fine (counted_by next answers old) (answered_by next answers old) message.body item new
              (ap (λ (b : Bool). b && is_early_body (counted_by next answers old) (answered_by next answers old) message.body) (sym is) ∙ early))
        ]
        by false is = inl (subst (λ (l : List Action). Has item l) (passed message turn effect is) has)
    came (InterruptInput source occurrence) turn effect early item has = elim (items (InterruptInput source occurrence) turn effect item has) [
      | inl was ↦ inl was
      | inr new ↦ elim new [ inl same ↦ inr (subst FineNow (sym same) (interrupt_fine (counted_by next answers old) (answered_by next answers old) source occurrence)) | inr none ↦ absurd none ]
    ]
    came (inputs.NodeInput.Tick now) turn effect early item has = elim (items (inputs.NodeInput.Tick now) turn effect item has) [
      | inl was ↦ inl was
      | inr new ↦ elim new [ inl same ↦ inr (subst FineNow (sym same) (inl refl)) | inr none ↦ absurd none ]
    ]
    came (inputs.NodeInput.Lead choice) turn effect early item has = elim (items (inputs.NodeInput.Lead choice) turn effect item has) [ inl was ↦ inl was | inr none ↦ absurd none ]
    came (inputs.NodeInput.LeadRange first count) turn effect early item has = elim (items (inputs.NodeInput.LeadRange first count) turn effect item has) [ inl was ↦ inl was | inr none ↦ absurd none ]
    came (inputs.NodeInput.Report first) turn effect early item has = elim (items (inputs.NodeInput.Report first) turn effect item has) [ inl was ↦ inl was | inr none ↦ absurd none ]
    came (inputs.NodeInput.Ask to) turn effect early item has = elim (items (inputs.NodeInput.Ask to) turn effect item has) [ inl was ↦ inl was | inr none ↦ absurd none ]

  abbrev AllFine : ReplicaState S → Type 0
  AllFine replica = (item : Action) → Has item replica.running.pending → FineAt replica.begin replica.records item

  -- a step that did not leave a call out
  stepped_fine : (old : ReplicaState S) (input : NodeInput) (turn : Turn) → effect_if_given next answers old (Ok input) ≡ Ok turn → comes_early next answers old (Ok input) ≡ false → AllFine old → AllFine (after_turn old turn)
  stepped_fine old input turn effect early were item has =
      written_fine old.begin old.records turn.written item
      (elim (came old input turn effect early item has) [ inl was ↦ were item was | inr fine ↦ fine ])

  by_outcome : (asked : Option Asked) (old new : NodeState S) (made : Bool) → Outcome next answers asked old new made → AllFine old.replica → AllFine new.replica
  by_outcome asked old new made (Stepped input stale turn is timely effect goes made_is) were = subst (λ (n : NodeState S). AllFine n.replica) (sym goes) (stepped_fine old.replica input turn effect timely were)
  by_outcome asked old new made (Unchanged goes made_is) were = subst AllFine (sym goes) were

  pub goes_on : (image : S → List ℕ) (asked : Option Asked) (old new : NodeState S) (before after : List ℕ) (result : Result Lengths Refusal) → RequestAnswers next answers image asked old new before after result → PendingCounts next answers old → PendingCounts next answers new
  goes_on image asked old new before after result a were =
      by_outcome asked old new (is_step_made asked result new.not_taken) (outcome next answers image asked old new before after result a) were

  pub begins : (me : ℕ) (config : Config) (begin : S) (bytes : List ℕ) (node : NodeState S) (records kept : ℕ) → IsOpenedNode me config begin bytes node records kept → PendingCounts next answers node
  begins me config begin bytes node records kept opened item has =
      let none : node.replica.running.pending ≡ [] = ap (λ (r : ReplicaState S). r.running.pending) opened.opens.starts in
      absurd (subst (λ (l : List Action). Has item l) none has)
