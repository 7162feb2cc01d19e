-- What takes effect of a task's calls is what the task made.
use Rattle.std.proofs.Common.{◌≡◌, ℕ, ◌≤◌, true, Some, List, [], ◌∷◌, ◌++◌, if◌then◌else◌, inl, inr, refl, sym, ap, subst, ◌∙◌, arith}
use Rattle.std.specs.Prelude.{is_some, nat_eq}
use Rattle.std.proofs.lemmas.Bool.{cond-true, eq-eqb}
use Rattle.rp_base.specs.Sets.{Has}
use Rattle.rp_base.specs.declared.action.Action.{Action}
use Rattle.rp_base.specs.declared.action.Action.TheVariants as actions
use Rattle.rp_base.specs.declared.reply.Answer.{Answer}
use Rattle.rp_base.proofs.Members.{has_right, passes}
use Rattle.rp_codec.specs.Message.{Message}
use Rattle.rp_machine.specs.Calls.{CallName, calls_of}
use Rattle.rp_machine.specs.Places.{IsPlace}
use Rattle.rp_machine.specs.Replay.{counts, number_for, Replayed, unmoved, replay_from, replay_of, counted_of}
use Rattle.rp_machine.proofs.Calling.{has_left}
use Rattle.rp_machine.proofs.Replaying.{replay_from-append, goes_on_from}
use Rattle.rp_model.specs.Parts.{TaskPart}
use Rattle.rp_agreement.specs.Answered.{named, calls_so_far, calls_by, AreItsCalls}
use Rattle.rp_agreement.proofs.ItsCalls.{from_one, as_many, number_at}
use Rattle.rp_agreement.proofs.Places.{same_name, first_call}

module _ {S : Type 0} (next : S → Action → S) (answers : S → Action → List Answer) (begin : S) where
  -- an action that counts is among those that counted
  counted_stays : (before : List Action) (action : Action) (further : List Action)
      → (let r = replay_of next answers begin before in counts r.kept r.given action) ≡ true
      → Has action (counted_of next answers begin (before ++ action ∷ further))
  counted_stays before action further counting =
      let r = replay_of next answers begin before in
      let onward = goes_on_from next answers (record { state = next r.state action; kept = r.kept ++ action ∷ []; given = r.given ++ answers r.state action }) further in
      let same : (replay_of next answers begin (before ++ action ∷ further)).kept ≡ (r.kept ++ action ∷ []) ++ onward.further =
      ap (λ (all : Replayed S). all.kept) (replay_from-append next answers (unmoved begin) before (action ∷ further))
      ∙ ap (λ b. (replay_from next answers (if b then record { state = next r.state action; kept = r.kept ++ action ∷ []; given = r.given ++ answers r.state action } else r) further).kept) counting
      ∙ onward.kept in
      subst (λ (all : List Action). Has action all) (sym same) (has_left action (r.kept ++ action ∷ []) onward.further (has_right action r.kept (action ∷ []) (inl refl)))

  pub place_kept : (order : List Action) (call : CallName) (place : ℕ) (at : IsPlace next answers begin order call place) → Has at.action (counted_of next answers begin order)
  place_kept order call place at =
      subst (λ (all : List Action). Has at.action (counted_of next answers begin all)) (sym at.occurs) (counted_stays at.before at.action at.following at.takes_effect)

-- the number of a call of the task
its_number : (t n : ℕ) (action : Action) → calls_of action ≡ named t n ∷ [] → is_some (number_for t action) ≡ true
its_number t n actions.Noop is = absurd (cc)
its_number t n (actions.Call task number object operation arg) is =
    let own : task ≡ t = (same_name (first_call is)).0 in
    ap is_some (cond-true (nat_eq task t) (Some number) _ (eq-eqb task t own))
its_number t n (actions.Interrupt source occurrence) is = absurd (cc)
its_number t n (actions.Tick now) is = absurd (cc)

module _ (sent : List Message) (t : ℕ) (part : TaskPart) (counted : List Action) (its : AreItsCalls sent t part counted) where
  in_made : (action : Action) → Has action (calls_by t counted) → Has action its.made
  in_made action h =
      elim its.all_but_last [
        | inl all ↦ subst (λ (xs : List Action). Has action xs) (sym all) h
        | inr most ↦ subst (λ (xs : List Action). Has action xs) (sym most.2) (has_left action (calls_by t counted) (most.0 ∷ []) h)
      ]

  -- a call that counts is one that the task made
  pub counted_made : (n : ℕ) (action : Action) → calls_of action ≡ named t n ∷ [] → Has action counted → (1 ≤ n) × (n ≤ calls_so_far part)
  counted_made n action is h =
      let made = in_made action (passes (λ (a : Action). is_some (number_for t a)) action counted h (its_number t n action is)) in
      let number = number_at t 0 its.made action (from_one t (calls_so_far part) its.made its.are_made.numbered) made in
      let same : number.0 ≡ n = (same_name (first_call (sym number.1 ∙ is))).1 in
      let few = as_many t (calls_so_far part) its.made its.are_made.numbered in
      (omega (arith, number.2, same), omega (arith, number.3, same, few))
