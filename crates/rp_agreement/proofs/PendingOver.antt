-- A pending item stays exactly if it is not over.
use Rattle.std.proofs.Common.{◌≡◌, ℕ, Bool, true, false, not, ◌&&◌, nat_le, is_none, ◌⊎◌, inl, inr, Option, Some, None, List, refl, sym, ap, ◌∙◌, arith, lt-ltb}
use Rattle.std.specs.List.{list_any}
use Rattle.std.proofs.lemmas.Bool.{cases_Bool, cases_lt, le-leb, lt-leb}
use Rattle.rp_base.specs.Action.{same_action}
use Rattle.rp_base.specs.declared.action.Action.{Action}
use Rattle.rp_base.specs.declared.action.Action.TheVariants.{Noop, Call, Interrupt, Tick}
use Rattle.rp_base.specs.declared.reply.Answer.{Answer}
use Rattle.rp_base.proofs.Members.{found, finds}
use Rattle.rp_base.proofs.Sameness.{action_decides}
use Rattle.rp_machine.specs.Asked.{last_number, last_occurrence, answer_to}
use Rattle.rp_machine.specs.Replay.{is_for}
use Rattle.rp_model.specs.Pending.{stays}
use Rattle.rp_agreement.specs.Over.{IsOver}
use Rattle.rp_agreement.proofs.AnswerAgain.{finds_one, is_for_call, call_is}
use Rattle.rp_agreement.proofs.Lists.{found_has}

-- the test and what it tells
abbrev pub Tells : List Action → List Answer → List Action → Action → Type 0
Tells kept given newly item = ((stays kept given newly item ≡ true) × (¬ IsOver kept given newly item)) ⊎ ((stays kept given newly item ≡ false) × IsOver kept given newly item)

and_false : (x y : Bool) → y ≡ false → (x && y) ≡ false
and_false true y e = e
and_false false y e = refl

pub stays_tells : (kept : List Action) (given : List Answer) (newly : List Action) (item : Action) → Tells kept given newly item
stays_tells kept given newly Noop = inr (refl, tt)
stays_tells kept given newly (Call task number object operation arg) = by (answer_to task number given) refl
  where
    last : ℕ
    last = last_number task kept

    by : (o : Option Answer) → answer_to task number given ≡ o → Tells kept given newly (Call task number object operation arg)
    by (Some answer) hit =
        let is = found_has (is_for task number) answer given hit in
        inr (ap (λ (o : Option Answer). is_none o && nat_le last number) hit, inl (answer, is.0, call_is task number answer is.1))
    by None miss =
        elim (cases_lt number last) [
          | inl below ↦ inr (and_false (is_none (answer_to task number given)) (nat_le last number) (lt-leb last number below), inr below)
          | inr above ↦
              inl (
                ap (λ (o : Option Answer). is_none o && nat_le last number) miss ∙ le-leb last number above,
                λ over.
                    elim over [
                      | inl said ↦ let hit = finds_one (is_for task number) said.0 given said.1 (is_for_call task number said.0 said.2) in let both : Some hit.0 ≡ None = sym hit.1 ∙ miss in absurd (cc)
                      | inr below ↦ omega (arith, below, above)
                    ],
              )
        ]
stays_tells kept given newly (Interrupt source occurrence) =
    elim (cases_lt (last_occurrence source kept) occurrence) [
      | inl above ↦ inl (lt-ltb (last_occurrence source kept) occurrence above, λ over. omega (arith, above, over))
      | inr past ↦ inr (lt-leb _ _ (omega (arith, past)), past)
    ]
stays_tells kept given newly (Tick now) =
    elim (cases_Bool (list_any (same_action (Tick now)) newly)) [
      | inl there ↦ inr (ap not there, found same_action action_decides (Tick now) newly there)
      | inr none ↦ inl (ap not none, λ over. let hit : true ≡ false = sym (finds same_action action_decides (Tick now) newly over) ∙ none in absurd (cc))
    ]

-- it stays
pub not_over : (kept : List Action) (given : List Answer) (newly : List Action) (item : Action) → stays kept given newly item ≡ true → ¬ IsOver kept given newly item
not_over kept given newly item stay over = elim (stays_tells kept given newly item) [ inl tells ↦ tells.1 over | inr tells ↦ let both : true ≡ false = sym stay ∙ tells.0 in absurd (cc) ]

-- it is not over
pub so_stays : (kept : List Action) (given : List Answer) (newly : List Action) (item : Action) → (¬ IsOver kept given newly item) → stays kept given newly item ≡ true
so_stays kept given newly item none = elim (stays_tells kept given newly item) [ inl tells ↦ tells.0 | inr tells ↦ absurd (none tells.1) ]
