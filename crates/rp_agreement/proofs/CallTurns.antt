-- A call that is asked for waits at the node after the turn, unless it is over or no place is left.
use Rattle.std.proofs.Common.{◌≡◌, ℕ, suc, ◌≤◌, ℤ, Bool, true, false, if◌then◌else◌, Result, Ok, ◌⊎◌, inl, inr, Option, Some, None, List, [], ◌∷◌, length, refl, sym, ap, subst, ◌∙◌, arith, lt-ltb, eq-eqb, eqb-true, ltb-true}
use Rattle.std.specs.Prelude.{nat_eq, nat_lt, ◌&&◌, ◌||◌}
use Rattle.std.specs.Option.{option_map}
use Rattle.std.specs.List.{list_any}
use Rattle.std.proofs.lemmas.Bool.{cases_Bool, cases_lt, and_from, and_parts, cond-true, cond-false, lt-leb}
use Rattle.rp_base.specs.declared.action.Action.{Action}
use Rattle.rp_base.specs.declared.action.Action.TheVariants.{Noop, Call, Interrupt, Tick}
use Rattle.rp_base.specs.declared.action.Operation.{Operation}
use Rattle.rp_base.specs.declared.fault.Fault.{Fault}
use Rattle.rp_base.specs.declared.reply.Answer.{Answer}
use Rattle.rp_base.specs.declared.reply.Reply.{Reply}
use Rattle.rp_base.specs.Sets.{Has}
use Rattle.rp_base.proofs.Members.{has_right}
use Rattle.rp_machine.specs.Asked.{last_number, answer_to, kept_reply}
use Rattle.rp_machine.specs.Calls.{calls_of}
use Rattle.rp_machine.specs.Replay.{is_for}
use Rattle.rp_agreement.specs.Answered.{named}
use Rattle.rp_agreement.specs.Over.{IsOver, IsCallTaken}
use Rattle.rp_agreement.proofs.AnswerAgain.{call_is}
use Rattle.rp_agreement.proofs.Lists.{found_has}
use Rattle.rp_model.specs.Effect.{Setting, Receive, Interrupt, Tick, running_effect}
use Rattle.rp_model.specs.Node.{RunningNode, running_node, counted_by, given_by}
use Rattle.rp_model.specs.Parts.{Running, Turn}
use Rattle.rp_model.specs.Pending.{most_pending, is_same_call}
use Rattle.rp_model.specs.Plans.{turn_of}
use Rattle.rp_model.specs.declared.plan.Plan.{Plan}
use Rattle.rp_model.specs.declared.plan.Plan.TheVariants as plans
use Rattle.rp_base.specs.declared.record.Rec.{Rec}
use Rattle.rp_model.specs.Arrivals.{adds_pending, on_numbered, on_call}
use Rattle.rp_model.specs.Receiving.{is_for_node}
use Rattle.rp_model.specs.Tasks.{asks}
use Rattle.rp_model.specs.declared.effect.Dropped.TheVariants.{No, Full, Foreign}

-- some item passes the test
some_passes : (test : Action → Bool) (items : List Action) → list_any test items ≡ true → (item : Action) × Has item items × (test item ≡ true)
some_passes test [] e = absurd (cc)
some_passes test (item ∷ items) e =
    elim (cases_Bool (test item)) [
      | inl hit ↦ (item, inl refl, hit)
      | inr miss ↦ let rest = some_passes test items (ap (λ (b : Bool). b || list_any test items) (sym miss) ∙ e) in (rest.0, inr rest.1, rest.2)
    ]

-- an item that is the same call has its name
same_name : (task number object : ℕ) (operation : Operation) (arg : ℤ) (item : Action) → is_same_call (Call task number object operation arg) item ≡ true → calls_of item ≡ named task number ∷ []
same_name task number object operation arg Noop e = absurd (cc)
same_name task number object operation arg (Call other same o p a) e =
    let both = and_parts _ _ e in
    let tasks : task ≡ other = eqb-true task other both.0 in
    let numbers : number ≡ same = eqb-true number same both.1 in
    λ i. record { task = sym tasks i; number = sym numbers i } ∷ []
same_name task number object operation arg (Interrupt source occurrence) e = absurd (cc)
same_name task number object operation arg (Tick now) e = absurd (cc)

-- a reply that is kept is that of an answer
reply_given : (task number : ℕ) (kept : List Action) (given : List Answer) (reply : Reply) → kept_reply task number kept given ≡ Some reply → (answer : Answer) × (answer_to task number given ≡ Some answer)
reply_given task number kept given reply e = by (nat_lt 0 number && nat_eq number (last_number task kept)) (answer_to task number given) refl e
  where
    by : (b : Bool) (o : Option Answer) → answer_to task number given ≡ o → (if b then option_map (λ answer. answer.reply) o else None) ≡ Some reply → (answer : Answer) × (answer_to task number given ≡ Some answer)
    by true (Some answer) found e = (answer, found)
    by true None found e = absurd (cc)
    by false o found e = absurd (cc)

module _ (task number object : ℕ) (operation : Operation) (arg : ℤ) where
  abbrev call : Action
  call = Call task number object operation arg

  module _ {S : Type 0} (s : Setting S) (me : ℕ) (records : List Rec) (running : Running) where
    abbrev here : RunningNode S
    here = running_node s me records running

    abbrev Taken : Turn → Type 0
    Taken turn = IsCallTaken running turn (named task number)

    abbrev TakenBy : Plan → Type 0
    TakenBy plan = Taken (turn_of here plan)

    added : TakenBy (adds_pending running.pending call)
    added =
        let there = list_any (is_same_call call) running.pending in
        let room = nat_lt (length running.pending) most_pending in
        let last : Plan = if room then plans.Await call else plans.Pass Full in
        elim (cases_Bool there) [
          | inl same ↦
              let hit = some_passes (is_same_call call) running.pending same in
              subst TakenBy (sym (cond-true there (plans.Pass No) last same)) (inl (hit.0, hit.1, same_name task number object operation arg hit.0 hit.2))
          | inr new ↦
              subst TakenBy (sym (cond-false there (plans.Pass No) last new))
              (elim (cases_lt (length running.pending) 32) [
                | inl below ↦ subst TakenBy (sym (cond-true room (plans.Await call) (plans.Pass Full) (lt-ltb (length running.pending) 32 below))) (inl (call, has_right call running.pending (call ∷ []) (inl refl), refl))
                | inr past ↦ subst TakenBy (sym (cond-false room (plans.Await call) (plans.Pass Full) (not_below (length running.pending) 32 past))) (inr (refl, past))
              ])
        ]
      where
        not_below : (a n : ℕ) → n ≤ a → nat_lt a n ≡ false
        not_below a n past = lt-leb (suc a) n (omega (arith, past))

    numbered : (reply : Option Reply) → kept_reply task number (counted_by here) (given_by here) ≡ reply → IsOver (counted_by here) (given_by here) [] call ⊎ TakenBy (on_numbered here task number call reply)
    numbered (Some reply) is =
        let found = reply_given task number (counted_by here) (given_by here) reply is in
        let first = found_has (is_for task number) found.0 (given_by here) found.1 in
        inl (inl (found.0, first.0, call_is task number found.0 first.1))
    numbered None is =
        elim (cases_Bool (nat_lt number (last_number task (counted_by here)))) [
          | inl below ↦ inl (inr (ltb-true number (last_number task (counted_by here)) below))
          | inr above ↦ inr (subst TakenBy (sym (cond-false (nat_lt number (last_number task (counted_by here))) (plans.Pass No) (adds_pending running.pending call) above)) added)
        ]

    ok_same : (a b : Turn) → (let one : Result Turn Fault = Ok a in one) ≡ Ok b → a ≡ b
    ok_same a b e = cc

    pub call_taken : (turn : Turn) → running_effect s me records running (Receive (asks task me call)) ≡ Ok turn → IsOver (counted_by here) (given_by here) [] call ⊎ Taken turn
    call_taken turn result =
        let mine : is_for_node s.config me (asks task me call) ≡ true = and_from _ _ (and_from _ _ (eq-eqb me me refl) refl) refl in
        let is : turn_of here (on_call here call) ≡ turn =
        ap (turn_of here) (sym (cond-true (is_for_node s.config me (asks task me call)) (on_call here call) (plans.Pass Foreign) mine)) ∙ ok_same _ turn result in
        elim (numbered (kept_reply task number (counted_by here) (given_by here)) refl) [
          | inl over ↦ inl over
          | inr taken ↦ inr (subst Taken is taken)
        ]
