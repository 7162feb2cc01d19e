-- A call of which the answer was given: its reply is found again.
use Rattle.std.proofs.Common.{◌≡◌, ℕ, ◌≤◌, Bool, true, Some, None, List, [], ◌∷◌, sym, ap, ◌∙◌, inl, inr, eq-eqb, lt-ltb, eqb-true}
use Rattle.std.specs.Prelude.{nat_eq, nat_lt, find, ◌&&◌}
use Rattle.std.specs.Option.{option_map}
use Rattle.std.proofs.lemmas.Bool.{and_from, and_parts, cases_Bool, cond-true, cond-false}
use Rattle.rp_base.specs.declared.action.Action.{Action}
use Rattle.rp_base.specs.declared.reply.Answer.{Answer}
use Rattle.rp_base.specs.Sets.{Has}
use Rattle.rp_machine.specs.Asked.{last_number, answer_to, kept_reply}
use Rattle.rp_machine.specs.Calls.{CallName, call_of}
use Rattle.rp_machine.specs.Replay.{is_for}
use Rattle.rp_agreement.specs.Answered.{named}
use Rattle.rp_agreement.proofs.Lists.{found_has}

-- a search finds a member where some member passes the test
pub finds_one : {A : Type 0} (test : A → Bool) (x : A) (xs : List A) → Has x xs → test x ≡ true → (y : A) × (find test xs ≡ Some y)
finds_one test x [] h passes = absurd h
finds_one {A} test x (y ∷ ys) h passes =
    elim (cases_Bool (test y)) [
      | inl hit ↦ (y, cond-true (test y) (Some y) (find test ys) hit)
      | inr miss ↦
          elim h [
            | inl same ↦ (y, cond-true (test y) (Some y) (find test ys) (ap test (sym same) ∙ passes))
            | inr later ↦ let rest = finds_one test x ys later passes in (rest.0, cond-false (test y) (Some y) (find test ys) miss ∙ rest.1)
          ]
    ]

-- an answer for a call passes the test for it, and no other does
pub is_for_call : (task number : ℕ) (answer : Answer) → call_of answer ≡ named task number → is_for task number answer ≡ true
is_for_call task number answer is =
    and_from (nat_eq answer.task task) (nat_eq answer.number number) (eq-eqb answer.task task (ap (λ (c : CallName). c.task) is)) (eq-eqb answer.number number (ap (λ (c : CallName). c.number) is))

pub call_is : (task number : ℕ) (answer : Answer) → is_for task number answer ≡ true → call_of answer ≡ named task number
call_is task number answer passes =
    let both = and_parts _ _ passes in
    let tasks : answer.task ≡ task = eqb-true answer.task task both.0 in
    let numbers : answer.number ≡ number = eqb-true answer.number number both.1 in
    (λ i. record { task = tasks i; number = numbers i })

-- where no other answer is for the call, its reply is kept for the task's last call
pub reply_is_kept : (task number : ℕ) (kept : List Action) (given : List Answer) (answer : Answer) → 1 ≤ number → last_number task kept ≡ number → call_of answer ≡ named task number → Has answer given
    → ((other : Answer) → call_of other ≡ named task number → Has other given → other ≡ answer) → kept_reply task number kept given ≡ Some answer.reply
reply_is_kept task number kept given answer above last is there only =
    let reply_to = option_map (λ (a : Answer). a.reply) (answer_to task number given) in
    let test : (nat_lt 0 number && nat_eq number (last_number task kept)) ≡ true =
    and_from (nat_lt 0 number) (nat_eq number (last_number task kept)) (lt-ltb 0 number above) (eq-eqb number (last_number task kept) (sym last)) in
    let hit = finds_one (is_for task number) answer given there (is_for_call task number answer is) in
    let found = found_has (is_for task number) hit.0 given hit.1 in
    let same : hit.0 ≡ answer = only hit.0 (call_is task number hit.0 found.1) found.0 in
    cond-true (nat_lt 0 number && nat_eq number (last_number task kept)) reply_to None test
    ∙ ap (option_map (λ (a : Answer). a.reply)) hit.1
    ∙ ap (λ (a : Answer). Some a.reply) same
