-- Calls that count are numbered from 1 on, each after the answer to the one before.
use Rattle.std.proofs.Common.{◌≡◌, ◌≢◌, ℕ, zero, suc, ◌<◌, max, ℤ, Bool, true, false, ◌||◌, Option, Some, None, List, [], ◌∷◌, ◌++◌, length, if◌then◌else◌, refl, sym, ap, subst, ◌∙◌, inl, inr, arith, append-nil, eq-eqb, nat_lt, ltb-true}
use Rattle.std.proofs.lemmas.List.{length-append}
use Rattle.std.proofs.lemmas.List.Elements.{filter_map-append}
use Rattle.std.proofs.lemmas.List.Folds.{list_any-append}
use Rattle.std.proofs.lemmas.Bool.Decides.{eqb_tells}
use Rattle.std.specs.List.{cons_option}
use Rattle.std.specs.Cmp.Lexicographic.{bytes_decides}
use Rattle.rp_base.specs.Sets.{Has, IsSet}
use Rattle.rp_base.specs.declared.action.Action.{Action}
use Rattle.rp_base.specs.declared.action.Action.TheVariants.{Noop, Call, Interrupt, Tick}
use Rattle.rp_base.specs.declared.action.Operation.{Operation}
use Rattle.rp_base.specs.declared.reply.Answer.{Answer}
use Rattle.rp_machine.specs.Calls.{CallName, calls_of, calls_made}
use Rattle.rp_machine.specs.Replay.{number_for, numbers_of, occurrence_for, occurrences_of, one_to, is_for, is_answered, all_answered, is_next_number, counts, Replayed, unmoved, replay_step, replay_from, replay_of}
use Rattle.rp_base.specs.Number.{greatest}
use Rattle.rp_machine.specs.Asked.{last_number}
use Rattle.rp_machine.proofs.Calling.{has_either, both_true, all_true, calls_made-append, is_new, set_append}

-- ---- the numbers 1 to n

pub length-one_to : (n : ℕ) → length (one_to n) ≡ n
length-one_to zero = refl
length-one_to (suc n) = length-append (one_to n) (suc n ∷ []) ∙ (let e = length-one_to n in omega arith)

pub greatest-push : (xs : List ℕ) (n : ℕ) → greatest (xs ++ n ∷ []) ≡ max (greatest xs) n
greatest-push [] n = omega arith
greatest-push (x ∷ xs) n = let e = greatest-push xs n in let both : greatest (x ∷ xs ++ n ∷ []) ≡ max x (max (greatest xs) n) = ap (max x) e in both ∙ omega arith

pub greatest-one_to : (n : ℕ) → greatest (one_to n) ≡ n
greatest-one_to zero = refl
greatest-one_to (suc n) = greatest-push (one_to n) (suc n) ∙ (let e = greatest-one_to n in omega arith)

-- ---- a task's numbers, one action more

pub numbers_own : (task number object : ℕ) (operation : Operation) (arg : ℤ) (kept : List Action) → numbers_of task (kept ++ Call task number object operation arg ∷ []) ≡ numbers_of task kept ++ number ∷ []
numbers_own task number object operation arg kept =
    filter_map-append (number_for task) kept (Call task number object operation arg ∷ [])
    ∙ ap (λ (b : Bool). numbers_of task kept ++ cons_option (if b then Some number else None) []) (eq-eqb task task refl)

pub numbers_other : (t : ℕ) (action : Action) (kept : List Action) → number_for t action ≡ None → numbers_of t (kept ++ action ∷ []) ≡ numbers_of t kept
numbers_other t action kept none =
    filter_map-append (number_for t) kept (action ∷ [])
    ∙ ap (λ (found : Option ℕ). numbers_of t kept ++ cons_option found []) none
    ∙ append-nil (numbers_of t kept)

-- ---- what holds of the calls that counted

-- the numbers of each task are 1 to the last one, and all but that are answered
pub record IsCounted (kept : List Action) (given : List Answer) : Type 0 where
  pub numbered : (t : ℕ) → numbers_of t kept ≡ one_to (last_number t kept)
  pub earlier : (t m : ℕ) → Has m (numbers_of t kept) → m < last_number t kept → is_answered given t m ≡ true

or_true : (a b : Bool) → a ≡ true → (a || b) ≡ true
or_true true b e = refl
or_true false b e = absurd (cc)

-- an answer stays
pub still_answered : (given more : List Answer) (t m : ℕ) → is_answered given t m ≡ true → is_answered (given ++ more) t m ≡ true
still_answered given more t m e = list_any-append (is_for t m) given more ∙ or_true (is_answered given t m) (is_answered more t m) e

pub counted_answers : (kept : List Action) (given more : List Answer) → IsCounted kept given → IsCounted kept (given ++ more)
counted_answers kept given more fine = record { numbered = fine.numbered; earlier = λ t m h l. still_answered given more t m (fine.earlier t m h l) }

-- an action that is no call of the task leaves its numbers
module _ (kept : List Action) (given : List Answer) (action : Action) (t : ℕ) where
  passes_numbered : number_for t action ≡ None → IsCounted kept given → numbers_of t (kept ++ action ∷ []) ≡ one_to (last_number t (kept ++ action ∷ []))
  passes_numbered none fine =
      let same = numbers_other t action kept none in
      same ∙ fine.numbered t ∙ ap one_to (sym (ap greatest same))

  passes_earlier : number_for t action ≡ None → IsCounted kept given → (m : ℕ) → Has m (numbers_of t (kept ++ action ∷ [])) → m < last_number t (kept ++ action ∷ []) → is_answered given t m ≡ true
  passes_earlier none fine m h l =
      let same = numbers_other t action kept none in
      fine.earlier t m (subst (λ (xs : List ℕ). Has m xs) same h) (subst (λ (xs : List ℕ). m < greatest xs) same l)

-- a call that counts has the numbers 1 to its own
pub next_numbers : (kept : List Action) (task number : ℕ) → is_next_number kept task number ≡ true → numbers_of task kept ++ number ∷ [] ≡ one_to number
next_numbers kept task number e = sym ((bytes_decides (one_to number) (numbers_of task kept ++ number ∷ [])).0 e)

module _ (kept : List Action) (given : List Answer) (task number object : ℕ) (operation : Operation) (arg : ℤ) where
  abbrev this : Action
  this = Call task number object operation arg

  own_last : is_next_number kept task number ≡ true → last_number task (kept ++ this ∷ []) ≡ number
  own_last e = ap greatest (numbers_own task number object operation arg kept ∙ next_numbers kept task number e) ∙ greatest-one_to number

  own_numbered : is_next_number kept task number ≡ true → numbers_of task (kept ++ this ∷ []) ≡ one_to (last_number task (kept ++ this ∷ []))
  own_numbered e = numbers_own task number object operation arg kept ∙ next_numbers kept task number e ∙ ap one_to (sym (own_last e))

  own_earlier : is_next_number kept task number ≡ true → all_answered kept given task ≡ true → (m : ℕ) → Has m (numbers_of task (kept ++ this ∷ [])) → m < last_number task (kept ++ this ∷ []) → is_answered given task m ≡ true
  own_earlier e all m h l =
      let below : m < number = subst (λ (n : ℕ). m < n) (own_last e) l in
      elim (has_either m (numbers_of task kept) (number ∷ []) (subst (λ (xs : List ℕ). Has m xs) (numbers_own task number object operation arg kept) h)) [
        | inl before ↦ all_true (is_answered given task) (numbers_of task kept) m all before
        | inr last ↦ elim last [ inl same ↦ absurd (omega arith) | inr none ↦ absurd none ]
      ]

  other_number : (t : ℕ) → task ≢ t → number_for t this ≡ None
  other_number t other = elim (eqb_tells task t) [
    | inl same ↦ absurd (other same.1)
    | inr is ↦ ap (λ (b : Bool). if b then Some number else None) is.0
  ]

  call_counted : is_next_number kept task number ≡ true → all_answered kept given task ≡ true → IsCounted kept given → IsCounted (kept ++ this ∷ []) given
  call_counted e all fine = record {
    numbered = λ t. elim (eqb_tells task t) [
      | inl same ↦ subst (λ (u : ℕ). numbers_of u (kept ++ this ∷ []) ≡ one_to (last_number u (kept ++ this ∷ []))) same.1 (own_numbered e)
      | inr is ↦ passes_numbered kept given this t (other_number t is.1) fine
    ];
    earlier = λ t m h l. elim (eqb_tells task t) [
      | inl same ↦
          let P : ℕ → Type 0 = λ u. Has m (numbers_of u (kept ++ this ∷ [])) → m < last_number u (kept ++ this ∷ []) → is_answered given u m ≡ true in
          subst P same.1 (own_earlier e all m) h l
      | inr is ↦ passes_earlier kept given this t (other_number t is.1) fine m h l
    ];
  }

pub counted_action : (kept : List Action) (given : List Answer) (action : Action) → counts kept given action ≡ true → IsCounted kept given → IsCounted (kept ++ action ∷ []) given
counted_action kept given Noop e fine = absurd (cc)
counted_action kept given (Call task number object operation arg) e fine =
    let both = both_true (is_next_number kept task number) (all_answered kept given task) e in
    call_counted kept given task number object operation arg both.0 both.1 fine
counted_action kept given (Interrupt source occurrence) e fine = record {
  numbered = λ t. passes_numbered kept given (Interrupt source occurrence) t refl fine;
  earlier = λ t m h l. passes_earlier kept given (Interrupt source occurrence) t refl fine m h l;
}
counted_action kept given (Tick now) e fine = record {
  numbered = λ t. passes_numbered kept given (Tick now) t refl fine;
  earlier = λ t m h l. passes_earlier kept given (Tick now) t refl fine m h l;
}

pub counted_start : IsCounted [] []
counted_start = record { numbered = λ t. refl; earlier = λ t m h l. absurd h }

-- ---- each call counts once

calls_set : (action : Action) → IsSet (calls_of action)
calls_set Noop = tt
calls_set (Call task number object operation arg) = (λ h. h, tt)
calls_set (Interrupt source occurrence) = tt
calls_set (Tick now) = tt

-- ---- each occurrence of a source counts once

module _ (source : ℕ) (kept : List Action) (given : List Answer) where
  -- an action that is no interrupt of the source leaves its occurrences
  no_occurrence : (action : Action) → occurrence_for source action ≡ None → IsSet (occurrences_of source kept) → IsSet (occurrences_of source (kept ++ action ∷ []))
  no_occurrence action none set =
      let same = filter_map-append (occurrence_for source) kept (action ∷ [])
      ∙ ap (λ (found : Option ℕ). occurrences_of source kept ++ cons_option found []) none ∙ append-nil (occurrences_of source kept) in
      subst (λ (xs : List ℕ). IsSet xs) (sym same) set

  -- an interrupt of the source that counts is above those before
  own_occurrence : (occurrence : ℕ) → counts kept given (Interrupt source occurrence) ≡ true → IsSet (occurrences_of source kept) → IsSet (occurrences_of source (kept ++ Interrupt source occurrence ∷ []))
  own_occurrence occurrence e set =
      let more = filter_map-append (occurrence_for source) kept (Interrupt source occurrence ∷ [])
      ∙ ap (λ (b : Bool). occurrences_of source kept ++ cons_option (if b then Some occurrence else None) []) (eq-eqb source source refl) in
      subst (λ (xs : List ℕ). IsSet xs) (sym more)
      (set_append (occurrences_of source kept) (occurrence ∷ []) set (λ h. h, tt) (λ x h before. elim h [
        | inl same ↦
            let below = ltb-true x occurrence (all_true (λ earlier. nat_lt earlier occurrence) (occurrences_of source kept) x e before) in
            omega arith
        | inr none ↦ absurd none
      ]))

  one_more_occurrence : (action : Action) → counts kept given action ≡ true → IsSet (occurrences_of source kept) → IsSet (occurrences_of source (kept ++ action ∷ []))
  one_more_occurrence Noop e set = no_occurrence Noop refl set
  one_more_occurrence (Call task number object operation arg) e set = no_occurrence (Call task number object operation arg) refl set
  one_more_occurrence (Interrupt other occurrence) e set = elim (eqb_tells other source) [
    | inl same ↦
        let P : ℕ → Type 0 = λ s. counts kept given (Interrupt s occurrence) ≡ true → IsSet (occurrences_of source (kept ++ Interrupt s occurrence ∷ [])) in
        subst P (sym same.1) (λ own. own_occurrence occurrence own set) e
    | inr is ↦ no_occurrence (Interrupt other occurrence) (ap (λ (b : Bool). if b then Some occurrence else None) is.0) set
  ]
  one_more_occurrence (Tick now) e set = no_occurrence (Tick now) refl set

module _ {S : Type 0} (next : S → Action → S) (answers : S → Action → List Answer) where
  abbrev taken : Replayed S → Action → Replayed S
  taken r action = record { state = next r.state action; kept = r.kept ++ action ∷ []; given = r.given ++ answers r.state action }

  counted_if : (r : Replayed S) (action : Action) (b : Bool) → counts r.kept r.given action ≡ b → IsCounted r.kept r.given
      → (let after = (if b then taken r action else r) in IsCounted after.kept after.given)
  counted_if r action true e fine = counted_answers (r.kept ++ action ∷ []) r.given (answers r.state action) (counted_action r.kept r.given action e fine)
  counted_if r action false e fine = fine

  counted_from : (r : Replayed S) (rest : List Action) → IsCounted r.kept r.given → (let after = replay_from next answers r rest in IsCounted after.kept after.given)
  counted_from r [] fine = fine
  counted_from r (action ∷ rest) fine = counted_from (replay_step next answers r action) rest (counted_if r action (counts r.kept r.given action) refl fine)

  -- so it holds after any log
  pub counted : (begin : S) (actions : List Action) → (let r = replay_of next answers begin actions in IsCounted r.kept r.given)
  counted begin actions = counted_from (unmoved begin) actions counted_start

  once_if : (r : Replayed S) (action : Action) (b : Bool) → counts r.kept r.given action ≡ b → IsSet (calls_made r.kept)
      → (let after = (if b then taken r action else r) in IsSet (calls_made after.kept))
  once_if r action true e set =
      subst (λ (calls : List CallName). IsSet calls) (sym (calls_made-append r.kept (action ∷ []) ∙ ap (λ (rest : List CallName). calls_made r.kept ++ rest) (append-nil (calls_of action))))
      (set_append (calls_made r.kept) (calls_of action) set (calls_set action) (is_new r action e))
  once_if r action false e set = set

  once_from : (r : Replayed S) (rest : List Action) → IsSet (calls_made r.kept) → IsSet (calls_made (replay_from next answers r rest).kept)
  once_from r [] set = set
  once_from r (action ∷ rest) set = once_from (replay_step next answers r action) rest (once_if r action (counts r.kept r.given action) refl set)

  -- a call counts once in any log
  pub counts_once : (begin : S) (actions : List Action) → IsSet (calls_made (replay_of next answers begin actions).kept)
  counts_once begin actions = once_from (unmoved begin) actions tt

  occurs_if : (source : ℕ) (r : Replayed S) (action : Action) (b : Bool) → counts r.kept r.given action ≡ b → IsSet (occurrences_of source r.kept)
      → (let after = (if b then taken r action else r) in IsSet (occurrences_of source after.kept))
  occurs_if source r action true e set = one_more_occurrence source r.kept r.given action e set
  occurs_if source r action false e set = set

  occurs_from : (source : ℕ) (r : Replayed S) (rest : List Action) → IsSet (occurrences_of source r.kept) → IsSet (occurrences_of source (replay_from next answers r rest).kept)
  occurs_from source r [] set = set
  occurs_from source r (action ∷ rest) set = occurs_from source (replay_step next answers r action) rest (occurs_if source r action (counts r.kept r.given action) refl set)

  -- an occurrence of a source counts once in any log
  pub occurs_once : (begin : S) (actions : List Action) (source : ℕ) → IsSet (occurrences_of source (replay_of next answers begin actions).kept)
  occurs_once begin actions source = occurs_from source (unmoved begin) actions tt
