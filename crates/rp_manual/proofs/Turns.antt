-- What follows from an action that counts, and when one does.
use Rattle.std.proofs.Common.{◌≡◌, ℕ, zero, suc, ◌≤◌, Bool, true, false, ◌&&◌, ◌||◌, nat_eq, Option, Some, None, List, [], ◌∷◌, map, filter_map, if◌then◌else◌, refl, sym, ap, subst, ◌∙◌, inl, inr, arith, eq-eqb, eqb-true}
use Rattle.std.proofs.lemmas.Bool.{cases_lt}
use Rattle.std.specs.List.{list_any, list_all, cons_option}
use Rattle.rp_object.specs.rp_base.specs.Sets.{Has}
use Rattle.rp_object.specs.rp_base.specs.declared.action.Action.{Action}
use Rattle.rp_object.specs.rp_base.specs.declared.action.Action.TheVariants.{Noop, Call, Interrupt, Tick}
use Rattle.rp_object.specs.rp_base.specs.declared.reply.Answer.{Answer}
use Rattle.rp_object.specs.rp_machine.specs.Calls.{CallName, calls_made, call_of}
use Rattle.rp_object.specs.rp_machine.specs.Replay.{number_for, one_to, is_for, is_answered, occurrence_for, occurrences_of}
use Rattle.rp_object.specs.rp_machine.proofs.Calling.{has_left, has_right, has_cons_option}

-- the call of this task and number
abbrev pub call_named : ℕ → ℕ → CallName
call_named task number = record { task = task; number = number }

-- each number from 1 to n is among these
pub is_one_to : (n k : ℕ) → 1 ≤ k → k ≤ n → Has k (one_to n)
is_one_to zero k above below = absurd (omega arith)
is_one_to (suc n) k above below =
    elim (cases_lt k (suc n)) [
      | inl lower ↦ has_left k (one_to n) (suc n ∷ []) (is_one_to n k above (omega arith))
      | inr past ↦ has_right k (one_to n) (suc n ∷ []) (inl (omega arith))
    ]

-- a number of the task's is that of a call that was made
pub number_made : (task number : ℕ) (xs : List Action) → Has number (filter_map (number_for task) xs) → Has (call_named task number) (calls_made xs)
number_made task number [] h = absurd h
number_made task number (Noop ∷ xs) h = number_made task number xs h
number_made task number (Call caller own object operation arg ∷ xs) h = by (nat_eq caller task) refl (number_made task number xs)
  where
    by : (b : Bool) → nat_eq caller task ≡ b → (Has number (filter_map (number_for task) xs) → Has (call_named task number) (calls_made xs)) → Has (call_named task number) (calls_made (Call caller own object operation arg ∷ xs))
    by true same later =
        let callers : task ≡ caller = sym (eqb-true caller task same) in
        let P : Bool → Type 0 = λ b. Has number (cons_option (if b then Some own else None) (filter_map (number_for task) xs)) in
        elim (subst P same h) [
          | inl is ↦ inl (λ i. record { task = callers i; number = is i })
          | inr more ↦ inr (later more)
        ]
    by false other later =
        let P : Bool → Type 0 = λ b. Has number (cons_option (if b then Some own else None) (filter_map (number_for task) xs)) in
        inr (later (subst P other h))
number_made task number (Interrupt source occurrence ∷ xs) h = number_made task number xs h
number_made task number (Tick now ∷ xs) h = number_made task number xs h

-- an answer for the call makes it answered
pub is_answered_by : (task number : ℕ) (given : List Answer) → Has (call_named task number) (map call_of given) → is_answered given task number ≡ true
is_answered_by task number [] h = absurd h
is_answered_by task number (answer ∷ given) h =
    elim h [
      | inl same ↦
          let tasks : nat_eq answer.task task ≡ true = eq-eqb answer.task task (λ i. (sym same i).task) in
          let numbers : nat_eq answer.number number ≡ true = eq-eqb answer.number number (λ i. (sym same i).number) in
          ap (λ (b : Bool). (b && nat_eq answer.number number) || list_any (is_for task number) given) tasks
          ∙ ap (λ (b : Bool). b || list_any (is_for task number) given) numbers
      | inr rest ↦ ap (λ (b : Bool). is_for task number answer || b) (is_answered_by task number given rest) ∙ or_is_true (is_for task number answer)
    ]
  where
    or_is_true : (b : Bool) → (b || true) ≡ true
    or_is_true true = refl
    or_is_true false = refl

-- a test is true of all where it is of each
pub all_from : (test : ℕ → Bool) (xs : List ℕ) → ((x : ℕ) → Has x xs → test x ≡ true) → list_all test xs ≡ true
all_from test [] each = refl
all_from test (x ∷ xs) each = ap (λ (b : Bool). b && list_all test xs) (each x (inl refl)) ∙ all_from test xs (λ y h. each y (inr h))

-- an occurrence of the source is that of an interrupt, and the other way round
pub occurrence_there : (source occurrence : ℕ) (xs : List Action) → Has (Interrupt source occurrence) xs → Has occurrence (occurrences_of source xs)
occurrence_there source occurrence [] h = absurd h
occurrence_there source occurrence (x ∷ xs) h =
    elim h [
      | inl same ↦
          let own : nat_eq source source ≡ true = eq-eqb source source refl in
          let is : occurrence_for source (Interrupt source occurrence) ≡ Some occurrence = ap (λ (b : Bool). if b then Some occurrence else None) own in
          let P : Option ℕ → Type 0 = λ o. Has occurrence (cons_option o (occurrences_of source xs)) in
          subst P (sym (sym (ap (occurrence_for source) same) ∙ is)) (inl refl)
      | inr more ↦ has_cons_option occurrence (occurrence_for source x) (occurrences_of source xs) (occurrence_there source occurrence xs more)
    ]

pub is_occurrence : (source occurrence : ℕ) (xs : List Action) → Has occurrence (occurrences_of source xs) → Has (Interrupt source occurrence) xs
is_occurrence source occurrence [] h = absurd h
is_occurrence source occurrence (Noop ∷ xs) h = inr (is_occurrence source occurrence xs h)
is_occurrence source occurrence (Call task number object operation arg ∷ xs) h = inr (is_occurrence source occurrence xs h)
is_occurrence source occurrence (Interrupt other own ∷ xs) h = by (nat_eq other source) refl (is_occurrence source occurrence xs)
  where
    P : Bool → Type 0
    P b = Has occurrence (cons_option (if b then Some own else None) (occurrences_of source xs))

    by : (b : Bool) → nat_eq other source ≡ b → (Has occurrence (occurrences_of source xs) → Has (Interrupt source occurrence) xs) → Has (Interrupt source occurrence) (Interrupt other own ∷ xs)
    by true same later =
        let sources : source ≡ other = sym (eqb-true other source same) in
        elim (subst P same h) [
          | inl is ↦ inl (λ i. Interrupt (sources i) (is i))
          | inr more ↦ inr (later more)
        ]
    by false apart later = inr (later (subst P apart h))
is_occurrence source occurrence (Tick now ∷ xs) h = inr (is_occurrence source occurrence xs h)
