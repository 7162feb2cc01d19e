-- A call is answered by some answers, or by none.
use Rattle.std.proofs.Common.{◌≡◌, ◌⊎◌, List, [], ◌∷◌, inl, inr, refl, sym, ap, ◌∙◌}
use Rattle.std.proofs.lemmas.Bool.{cases_eq}
use Rattle.rp_base.specs.Sets.{Has}
use Rattle.rp_base.specs.declared.reply.Answer.{Answer}
use Rattle.rp_machine.specs.Calls.{CallName, call_of}

-- the answer is one of these, and for this call
abbrev pub Answers : List Answer → CallName → Answer → Type 0
Answers given call answer = (call_of answer ≡ call) × Has answer given

name_is : (a : Answer) (call : CallName) → a.task ≡ call.task → a.number ≡ call.number → call_of a ≡ call
name_is a call task number = λ i. record { task = task i; number = number i }

pub answered_or_not : (given : List Answer) (call : CallName) → ((answer : Answer) × Answers given call answer) ⊎ ((answer : Answer) → ¬ Answers given call answer)
answered_or_not [] call = inr (λ answer is. is.1)
answered_or_not (a ∷ rest) call =
    elim (answered_or_not rest call) [
      | inl later ↦ inl (later.0, (later.1.0, inr later.1.1))
      | inr none ↦
          let other : (¬ (call_of a ≡ call)) → (answer : Answer) → ¬ Answers (a ∷ rest) call answer = λ differs answer is.
          elim is.1 [
            | inl same ↦ differs (ap call_of (sym same) ∙ is.0)
            | inr later ↦ none answer (is.0, later)
          ] in
          elim (cases_eq a.task call.task) [
            | inl task ↦ elim (cases_eq a.number call.number) [
              | inl number ↦ inl (a, (name_is a call task number, inl refl))
              | inr differs ↦ inr (other (λ e. differs (ap (λ (c : CallName). c.number) e)))
            ]
            | inr differs ↦ inr (other (λ e. differs (ap (λ (c : CallName). c.task) e)))
          ]
    ]
