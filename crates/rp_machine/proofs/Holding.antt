-- How what memory holds of a machine after a log goes on.
use Rattle.std.proofs.Common.{◌≡◌, ◌≢◌, ℕ, zero, suc, ◌+◌, ◌-◌, ◌<◌, ◌≤◌, ℤ, Bool, true, false, ◌&&◌, ◌||◌, nat_eq, nat_lt, Option, Some, None, List, [], ◌∷◌, ◌++◌, length, take, map, get_or, set, if◌then◌else◌, refl, sym, ap, subst, ◌∙◌, inl, inr, arith, append_assoc, append-nil, eq-eqb, eqb-true, lt-ltb, ltb-true}
use Rattle.std.specs.Option.{option_map, option_or}
use Rattle.std.specs.List.{cons_option}
use Rattle.std.proofs.lemmas.Bool.{cases_lt, cases_eq, ne_eqb}
use Rattle.std.proofs.lemmas.List.{take_more, get_or-set_same, get_or-set_other, length-set}
use Rattle.std.proofs.lemmas.List.Elements.{filter_map-append}
use Rattle.std.proofs.lemmas.List.Folds.{find-append, list_any-append}
use Rattle.rp_base.specs.Sets.{Has, IsSet}
use Rattle.rp_base.specs.Action.{IsRight}
use Rattle.rp_base.specs.Number.{IsTask}
use Rattle.rp_base.specs.declared.action.Action.{Action}
use Rattle.rp_base.specs.declared.action.Action.TheVariants.{Noop, Call, Interrupt, Tick}
use Rattle.rp_base.specs.declared.action.Operation.{Operation}
use Rattle.rp_base.specs.declared.reply.Reply.{Reply}
use Rattle.rp_base.specs.declared.reply.Answer.{Answer}
use Rattle.rp_machine.specs.declared.numbered.Caller.{Caller}
use Rattle.rp_machine.specs.Calls.{CallName, calls_of, calls_made, call_of, MayApply, AccountsFor}
use Rattle.rp_machine.specs.Replay.{numbers_of, occurrence_for, occurrences_of, one_to, is_for, is_answered, all_answered, is_next_number, counts, Replayed, unmoved, replay_from, replay_of}
use Rattle.rp_base.specs.Number.{greatest}
use Rattle.rp_machine.specs.Asked.{last_number, last_occurrence, answer_to, kept_reply}
use Rattle.rp_machine.specs.Numbered.{Applied, outcome, caller_of, AreCallers, AreOccurrences, IsNumbered, waiting_caller, with_action, with_occurrence, with_answer, with_answers}
use Rattle.rp_machine.proofs.Calling.{has_left, has_right, has_either, both_true, answered, calls_made-append, made_number, one_to_bound, is_new}
use Rattle.rp_machine.proofs.Numbering.{IsCounted, counted, counted_action, numbers_other, numbers_own, next_numbers, greatest-push, greatest-one_to}
use Rattle.rp_machine.proofs.Replaying.{replay_from-append}
use Rattle.rp_machine.proofs.Asking.{not_found, interrupt_counts}
use Rattle.rp_machine.proofs.Applying.{AllRight, IsAccounted, accounted, may_apply}

with_answers-push : (callers : List Caller) (xs : List Answer) (x : Answer) → with_answers callers (xs ++ x ∷ []) ≡ with_answer (with_answers callers xs) x
with_answers-push callers [] x = refl
with_answers-push callers (y ∷ xs) x = with_answers-push (with_answer callers y) xs x

-- one answer more
pub with_answers-more : (callers : List Caller) (answers : List Answer) (i : ℕ) (x : Answer) → i < length answers → x ≡ get_or answers i x → with_answers callers (take (i + 1) answers) ≡ with_answer (with_answers callers (take i answers)) x
with_answers-more callers answers i x below read =
    ap (with_answers callers) (take_more answers i x below ∙ ap (λ (y : Answer). take i answers ++ y ∷ []) (sym read)) ∙ with_answers-push callers (take i answers) x

-- ---- which replies are found

no_reply : (task number : ℕ) (kept : List Action) (given : List Answer) → is_answered given task number ≡ false → kept_reply task number kept given ≡ None
no_reply task number kept given e =
    elim (nat_lt 0 number && nat_eq number (last_number task kept)) as (λ b. (if b then option_map (λ answer. answer.reply) (answer_to task number given) else None) ≡ None) [
      | true ↦ ap (option_map (λ answer. answer.reply)) (not_found (is_for task number) given e)
      | false ↦ refl
    ]

-- an answer that is for another task changes nothing for this one
other_answer : (task : ℕ) (kept : List Action) (given : List Answer) (x : Answer) → x.task ≢ task → caller_of task kept given ≡ caller_of task kept (given ++ x ∷ [])
other_answer task kept given x other =
    let number = last_number task kept in
    let missed : is_for task number x ≡ false = ap (λ (b : Bool). b && nat_eq x.number number) (ne_eqb x.task task other) in
    let found : answer_to task number given ≡ answer_to task number (given ++ x ∷ []) =
    same_or (answer_to task number given) ∙ ap (λ (b : Bool). option_or (answer_to task number given) (if b then Some x else None)) (sym missed) ∙ sym (find-append (is_for task number) given (x ∷ [])) in
    ap (λ (o : Option Answer). let c : Caller = record { last = number; reply = if nat_lt 0 number && nat_eq number number then option_map (λ answer. answer.reply) o else None } in c) found
  where
    same_or : (o : Option Answer) → o ≡ option_or o None
    same_or None = refl
    same_or (Some y) = refl

-- an answer to the last call of its task is its reply
own_answer : (kept : List Action) (given : List Answer) (x : Answer) → x.number ≡ last_number x.task kept → 1 ≤ x.number → is_answered given x.task x.number ≡ false
    → caller_of x.task kept (given ++ x ∷ []) ≡ record { last = last_number x.task kept; reply = Some x.reply }
own_answer kept given x last above e =
    let number = last_number x.task kept in
    let hit : is_for x.task number x ≡ true = ap (λ (b : Bool). b && nat_eq x.number number) (eq-eqb x.task x.task refl) ∙ eq-eqb x.number number last in
    let none : answer_to x.task number given ≡ None = not_found (is_for x.task number) given (subst (λ (n : ℕ). is_answered given x.task n ≡ false) last e) in
    let found : answer_to x.task number (given ++ x ∷ []) ≡ Some x =
    find-append (is_for x.task number) given (x ∷ []) ∙ ap (λ (o : Option Answer). option_or o (answer_to x.task number (x ∷ []))) none ∙ ap (λ (b : Bool). if b then Some x else None) hit in
    let holds : (nat_lt 0 number && nat_eq number number) ≡ true = ap (λ (b : Bool). b && nat_eq number number) (lt-ltb 0 number (omega arith)) ∙ eq-eqb number number refl in
    ap (λ (o : Option Answer). let c : Caller = record { last = number; reply = if nat_lt 0 number && nat_eq number number then option_map (λ answer. answer.reply) o else None } in c) found
    ∙ ap (λ (b : Bool). let c : Caller = record { last = number; reply = if b then Some x.reply else None } in c) holds

-- ---- one answer, and several

one_answer : (callers : List Caller) (kept : List Action) (given : List Answer) (x : Answer) → length callers ≡ 8 → AreCallers callers kept given → IsTask x.task
    → x.number ≡ last_number x.task kept → 1 ≤ x.number → is_answered given x.task x.number ≡ false → AreCallers (with_answer callers x) kept (given ++ x ∷ [])
one_answer callers kept given x long are task last above e t other low high =
    let place = x.task - 1 in
    let caller = get_or callers place (waiting_caller 0) in
    elim (cases_eq x.task t) [
      | inl same ↦
          let here : caller ≡ caller_of x.task kept given = are x.task (waiting_caller 0) task.0 task.1 in
          let written : get_or (with_answer callers x) place other ≡ record caller { reply = Some x.reply } = get_or-set_same callers place (record caller { reply = Some x.reply }) other (omega (arith, long, task)) in
          let stated : get_or (with_answer callers x) place other ≡ caller_of x.task kept (given ++ x ∷ []) =
          written ∙ ap (λ (c : Caller). record c { reply = Some x.reply }) here ∙ sym (own_answer kept given x last above e) in
          subst (λ (u : ℕ). get_or (with_answer callers x) (u - 1) other ≡ caller_of u kept (given ++ x ∷ [])) same stated
      | inr apart ↦
          let elsewhere : t - 1 ≢ place = λ e. apart (omega (arith, task)) in
          get_or-set_other callers place (t - 1) (record caller { reply = Some x.reply }) other elsewhere ∙ are t other low high ∙ other_answer t kept given x apart
    ]

-- what answers have to keep of the calls that wait
pub record AreReplies (kept : List Action) (given answers : List Answer) : Type 0 where
  pub tasks : (x : Answer) → Has x answers → IsTask x.task
  pub last : (x : Answer) → Has x answers → (x.number ≡ last_number x.task kept) × (1 ≤ x.number)
  pub new : (x : Answer) → Has x answers → is_answered given x.task x.number ≡ false
  pub once : IsSet (map call_of answers)

has_call : (x : Answer) (xs : List Answer) → Has x xs → Has (call_of x) (map call_of xs)
has_call x [] h = h
has_call x (y ∷ xs) h = elim h [ inl same ↦ inl (ap call_of same) | inr rest ↦ inr (has_call x xs rest) ]

still_new : (given : List Answer) (x y : Answer) → is_answered given y.task y.number ≡ false → call_of x ≢ call_of y → is_answered (given ++ x ∷ []) y.task y.number ≡ false
still_new given x y e other =
    list_any-append (is_for y.task y.number) given (x ∷ []) ∙ ap (λ (b : Bool). b || (is_for y.task y.number x || false)) e ∙ by (is_for y.task y.number x) refl
  where
    by : (b : Bool) → is_for y.task y.number x ≡ b → (is_for y.task y.number x || false) ≡ false
    by true t =
        let both = both_true (nat_eq x.task y.task) (nat_eq x.number y.number) t in
        let tasks : x.task ≡ y.task = eqb-true x.task y.task both.0 in
        let numbers : x.number ≡ y.number = eqb-true x.number y.number both.1 in
        absurd (other (λ i. record { task = tasks i; number = numbers i }))
    by false t = ap (λ (b : Bool). b || false) t

all_answers : (callers : List Caller) (kept : List Action) (given answers : List Answer) → length callers ≡ 8 → AreCallers callers kept given → AreReplies kept given answers → AreCallers (with_answers callers answers) kept (given ++ answers)
all_answers callers kept given [] long are replies = subst (λ (xs : List Answer). AreCallers callers kept xs) (sym (append-nil given)) are
all_answers callers kept given (x ∷ rest) long are replies =
    let last = replies.last x (inl refl) in
    let more = one_answer callers kept given x long are (replies.tasks x (inl refl)) last.0 last.1 (replies.new x (inl refl)) in
    subst (λ (xs : List Answer). AreCallers (with_answers (with_answer callers x) rest) kept xs) (append_assoc given (x ∷ []) rest)
    (all_answers (with_answer callers x) kept (given ++ x ∷ []) rest (length-set callers (x.task - 1) _ ∙ long) more (record {
      tasks = λ y h. replies.tasks y (inr h);
      last = λ y h. replies.last y (inr h);
      new = λ y h. still_new given x y (replies.new y (inr h)) (λ same. replies.once.0 (subst (λ (c : CallName). Has c (map call_of rest)) (sym same) (has_call y rest h)));
      once = replies.once.1;
    }))

-- ---- the action itself

own_last : (kept : List Action) (task number object : ℕ) (operation : Operation) (arg : ℤ) → is_next_number kept task number ≡ true → last_number task (kept ++ Call task number object operation arg ∷ []) ≡ number
own_last kept task number object operation arg e = ap greatest (numbers_own task number object operation arg kept ∙ next_numbers kept task number e) ∙ greatest-one_to number

not_answered : (kept : List Action) (given : List Answer) (call : CallName) → ¬ Has call (map call_of given) → is_answered given call.task call.number ≡ false
not_answered kept given call none = by (is_answered given call.task call.number) refl
  where
    by : (b : Bool) → is_answered given call.task call.number ≡ b → b ≡ false
    by true e = absurd (none (answered call.task call.number given e))
    by false e = refl

-- other tasks keep what is kept of them
other_task : (kept : List Action) (given : List Answer) (action : Action) (t : ℕ) → numbers_of t (kept ++ action ∷ []) ≡ numbers_of t kept → caller_of t kept given ≡ caller_of t (kept ++ action ∷ []) given
other_task kept given action t same =
    ap (λ (numbers : List ℕ). let c : Caller = record { last = greatest numbers; reply = if nat_lt 0 (greatest numbers) && nat_eq (greatest numbers) (greatest numbers) then option_map (λ answer. answer.reply) (answer_to t (greatest numbers) given) else None } in c) (sym same)

call_action : (callers : List Caller) (kept : List Action) (given : List Answer) (task number object : ℕ) (operation : Operation) (arg : ℤ) → length callers ≡ 8 → AreCallers callers kept given → IsTask task
    → is_next_number kept task number ≡ true → is_answered given task number ≡ false
    → AreCallers (set callers (task - 1) (waiting_caller number)) (kept ++ Call task number object operation arg ∷ []) given
call_action callers kept given task number object operation arg long are is e none t other low high =
    let this = Call task number object operation arg in
    elim (cases_eq task t) [
      | inl same ↦
          let last = own_last kept task number object operation arg e in
          let stated : get_or (set callers (task - 1) (waiting_caller number)) (task - 1) other ≡ caller_of task (kept ++ this ∷ []) given =
          get_or-set_same callers (task - 1) (waiting_caller number) other (omega (arith, long, is))
          ∙ sym (ap (λ (n : ℕ). let c : Caller = record { last = n; reply = kept_reply task n (kept ++ this ∷ []) given } in c) last
          ∙ ap (λ (reply : Option Reply). let c : Caller = record { last = number; reply = reply } in c) (no_reply task number (kept ++ this ∷ []) given none)) in
          subst (λ (u : ℕ). get_or (set callers (task - 1) (waiting_caller number)) (u - 1) other ≡ caller_of u (kept ++ this ∷ []) given) same stated
      | inr apart ↦
          let elsewhere : t - 1 ≢ task - 1 = λ same. apart (omega (arith, is)) in
          let passes : numbers_of t (kept ++ this ∷ []) ≡ numbers_of t kept = numbers_other t this kept (ap (λ (b : Bool). if b then Some number else None) (ne_eqb task t apart)) in
          get_or-set_other callers (task - 1) (t - 1) (waiting_caller number) other elsewhere ∙ are t other low high ∙ other_task kept given this t passes
    ]

-- the callers with an action that counts
with_counted : (callers : List Caller) (kept : List Action) (given : List Answer) (action : Action) → length callers ≡ 8 → AreCallers callers kept given → IsRight action → counts kept given action ≡ true
    → ((call : CallName) → Has call (calls_of action) → ¬ Has call (map call_of given)) → AreCallers (with_action callers action) (kept ++ action ∷ []) given
with_counted callers kept given Noop long are right e new = absurd (cc)
with_counted callers kept given (Call task number object operation arg) long are right e new =
    let both = both_true (is_next_number kept task number) (all_answered kept given task) e in
    call_action callers kept given task number object operation arg long are right.0 both.0 (not_answered kept given (record { task = task; number = number }) (new (record { task = task; number = number }) (inl refl)))
with_counted callers kept given (Interrupt source occurrence) long are right e new = λ t other low high. are t other low high ∙ other_task kept given (Interrupt source occurrence) t (numbers_other t (Interrupt source occurrence) kept refl)
with_counted callers kept given (Tick now) long are right e new = λ t other low high. are t other low high ∙ other_task kept given (Tick now) t (numbers_other t (Tick now) kept refl)

with_long : (callers : List Caller) (action : Action) → length callers ≡ 8 → length (with_action callers action) ≡ 8
with_long callers Noop long = long
with_long callers (Call task number object operation arg) long = length-set callers (task - 1) (waiting_caller number) ∙ long
with_long callers (Interrupt source occurrence) long = long
with_long callers (Tick now) long = long

all_long : (callers : List Caller) (answers : List Answer) → length (with_answers callers answers) ≡ length callers
all_long callers [] = refl
all_long callers (x ∷ rest) = all_long (with_answer callers x) rest ∙ length-set callers (x.task - 1) _

-- ---- the last occurrences

occurrences_same : (occurrences : List ℕ) (kept : List Action) (action : Action) → ((s : ℕ) → occurrence_for s action ≡ None) → AreOccurrences occurrences kept → AreOccurrences occurrences (kept ++ action ∷ [])
occurrences_same occurrences kept action none are s other low high =
    are s other low high ∙ ap greatest (sym (
    filter_map-append (occurrence_for s) kept (action ∷ [])
    ∙ ap (λ (found : Option ℕ). occurrences_of s kept ++ cons_option found []) (none s)
    ∙ append-nil (occurrences_of s kept)
    ))

interrupt_more : (kept : List Action) (source occurrence : ℕ) → occurrences_of source (kept ++ Interrupt source occurrence ∷ []) ≡ occurrences_of source kept ++ occurrence ∷ []
interrupt_more kept source occurrence =
    filter_map-append (occurrence_for source) kept (Interrupt source occurrence ∷ [])
    ∙ ap (λ (b : Bool). occurrences_of source kept ++ cons_option (if b then Some occurrence else None) []) (eq-eqb source source refl)

interrupt_other : (kept : List Action) (source occurrence s : ℕ) → source ≢ s → occurrences_of s (kept ++ Interrupt source occurrence ∷ []) ≡ occurrences_of s kept
interrupt_other kept source occurrence s other =
    filter_map-append (occurrence_for s) kept (Interrupt source occurrence ∷ [])
    ∙ ap (λ (b : Bool). occurrences_of s kept ++ cons_option (if b then Some occurrence else None) []) (ne_eqb source s other)
    ∙ append-nil (occurrences_of s kept)

occurrences_more : (occurrences : List ℕ) (kept : List Action) (given : List Answer) (action : Action) → length occurrences ≡ 8 → AreOccurrences occurrences kept → IsRight action → counts kept given action ≡ true
    → AreOccurrences (with_occurrence occurrences action) (kept ++ action ∷ [])
occurrences_more occurrences kept given Noop long are right e = absurd (cc)
occurrences_more occurrences kept given (Call task number object operation arg) long are right e = occurrences_same occurrences kept (Call task number object operation arg) (λ s. refl) are
occurrences_more occurrences kept given (Interrupt source occurrence) long are right e = λ s other low high.
    elim (cases_eq source s) [
      | inl same ↦
          let above : last_occurrence source kept < occurrence = ltb-true (last_occurrence source kept) occurrence (interrupt_counts kept given source occurrence right.1.0 ∙ e) in
          let stated : get_or (set occurrences (source - 1) occurrence) (source - 1) other ≡ last_occurrence source (kept ++ Interrupt source occurrence ∷ []) =
          get_or-set_same occurrences (source - 1) occurrence other (omega (arith, long, right.0))
          ∙ sym (ap greatest (interrupt_more kept source occurrence) ∙ greatest-push (occurrences_of source kept) occurrence ∙ omega (arith, above)) in
          subst (λ (u : ℕ). get_or (set occurrences (source - 1) occurrence) (u - 1) other ≡ last_occurrence u (kept ++ Interrupt source occurrence ∷ [])) same stated
      | inr apart ↦
          let elsewhere : s - 1 ≢ source - 1 = λ same. apart (omega (arith, right.0)) in
          get_or-set_other occurrences (source - 1) (s - 1) occurrence other elsewhere ∙ are s other low high ∙ ap greatest (sym (interrupt_other kept source occurrence s apart))
    ]
occurrences_more occurrences kept given (Tick now) long are right e = occurrences_same occurrences kept (Tick now) (λ s. refl) are

-- ---- a machine after a log, one action more

one_to_low : (m n : ℕ) → Has n (one_to m) → 1 ≤ n
one_to_low zero n h = absurd h
one_to_low (suc m) n h = elim (has_either n (one_to m) (suc m ∷ []) h) [
  | inl before ↦ one_to_low m n before
  | inr last ↦ elim last [ inl same ↦ omega arith | inr none ↦ absurd none ]
]

-- a call that counted and has no answer is the last of its task
unanswered_last : (kept : List Action) (given : List Answer) (call : CallName) → IsCounted kept given → Has call (calls_made kept) → ¬ Has call (map call_of given) → (call.number ≡ last_number call.task kept) × (1 ≤ call.number)
unanswered_last kept given call fine made none =
    let occurs = made_number call kept made in
    let listed : Has call.number (one_to (last_number call.task kept)) = subst (λ (xs : List ℕ). Has call.number xs) (fine.numbered call.task) occurs in
    let high = one_to_bound (last_number call.task kept) call.number listed in
    let low = one_to_low (last_number call.task kept) call.number listed in
    elim (cases_lt call.number (last_number call.task kept)) [
      | inl below ↦ absurd (none (answered call.task call.number given (fine.earlier call.task call.number occurs below)))
      | inr last ↦ (omega arith, low)
    ]

-- a call that was made is of a task
made_task : (kept : List Action) (call : CallName) → AllRight kept → Has call (calls_made kept) → IsTask call.task
made_task [] call right h = absurd h
made_task (Noop ∷ rest) call right h = made_task rest call (λ action m. right action (inr m)) h
made_task (Call task number object operation arg ∷ rest) call right h =
    elim h [
      | inl same ↦ subst (λ (c : CallName). IsTask c.task) (sym same) (right (Call task number object operation arg) (inl refl)).0
      | inr more ↦ made_task rest call (λ action m. right action (inr m)) more
    ]
made_task (Interrupt source occurrence ∷ rest) call right h = made_task rest call (λ action m. right action (inr m)) h
made_task (Tick now ∷ rest) call right h = made_task rest call (λ action m. right action (inr m)) h

right_more : (actions : List Action) (action : Action) → AllRight actions → IsRight action → AllRight (actions ++ action ∷ [])
right_more actions action all right other h = elim (has_either other actions (action ∷ []) h) [
  | inl before ↦ all other before
  | inr last ↦ elim last [ inl same ↦ subst IsRight (sym same) right | inr none ↦ absurd none ]
]

-- two values of one machine after a log agree on an action
pub viewed : {S : Type 0} (next : S → Action → S) (answers : S → Action → List Answer) (a b : Applied S) (action : Action) (t : Bool) → a ≡ b
    → (let r = outcome next answers b in counts r.kept r.given action) ≡ t → (let r = outcome next answers a in counts r.kept r.given action) ≡ t
viewed next answers a b action t same e = subst (λ (x : Applied _). (let r = outcome next answers x in counts r.kept r.given action) ≡ t) (sym same) e

-- what one state may take, an equal one may
pub still_may : {S : Type 0} (waiting : S → List CallName) (s t : S) (action : Action) → s ≡ t → MayApply (waiting t) action → MayApply (waiting s) action
still_may waiting s t action same may = subst (λ (x : _). MayApply (waiting x) action) (sym same) may

module _ {S P : Type 0} (next : S → Action → S) (answers : S → Action → List Answer) (waiting : S → List CallName) (begin : P → S) (runs : P → S → Type 0)
    (none_waits : (program : P) → waiting (begin program) ≡ [])
    (starts : (program : P) → runs program (begin program))
    (keeps : (program : P) (s : S) (action : Action) → runs program s → IsRight action → MayApply (waiting s) action → runs program (next s action))
    (accounts : (program : P) (s : S) (action : Action) → runs program s → IsRight action → MayApply (waiting s) action → AccountsFor (waiting s) action (answers s action) (waiting (next s action)))
  where
    abbrev taken : Replayed S → Action → Replayed S
    taken r action = record { state = next r.state action; kept = r.kept ++ action ∷ []; given = r.given ++ answers r.state action }

    -- what counted is among what was applied, so it is right
    kept_from : (r : Replayed S) (rest : List Action) → AllRight r.kept → AllRight rest → AllRight (replay_from next answers r rest).kept
    kept_from r [] all right = all
    kept_from r (action ∷ rest) all right =
        elim (counts r.kept r.given action) as (λ b. AllRight (replay_from next answers (if b then taken r action else r) rest).kept) [
          | true ↦ kept_from (taken r action) rest (right_more r.kept action all (right action (inl refl))) (λ other m. right other (inr m))
          | false ↦ kept_from r rest all (λ other m. right other (inr m))
        ]

    -- one action more, by whether it counts
    replay_push : (program : P) (actions : List Action) (action : Action) (b : Bool) → (let r = replay_of next answers (begin program) actions in counts r.kept r.given action) ≡ b
        → (let r = replay_of next answers (begin program) actions in if b then taken r action else r) ≡ replay_of next answers (begin program) (actions ++ action ∷ [])
    replay_push program actions action b e =
        let r = replay_of next answers (begin program) actions in
        sym (replay_from-append next answers (unmoved (begin program)) actions (action ∷ []) ∙ ap (λ (t : Bool). if t then taken r action else r) e)

    -- an action that does not count leaves all as it was
    pub numbered_not : (program : P) (actions after : List Action) (action : Action) (machine : S) (callers : List Caller) (occurrences : List ℕ)
        → IsNumbered (replay_of next answers (begin program) actions) actions machine callers occurrences → IsRight action
        → (let r = replay_of next answers (begin program) actions in counts r.kept r.given action) ≡ false → after ≡ actions ++ action ∷ []
        → IsNumbered (replay_of next answers (begin program) after) after machine callers occurrences
    numbered_not program actions after action machine callers occurrences held right e same =
        let P : List Action → Type 0 = λ list. IsNumbered (replay_of next answers (begin program) list) list machine callers occurrences in
        let r = replay_of next answers (begin program) actions in
        let plain : IsNumbered r (actions ++ action ∷ []) machine callers occurrences = record { right = right_more actions action held.right right; state = held.state; room = held.room; calls = held.calls; interrupts = held.interrupts } in
        subst P (sym same) (subst (λ (s : Replayed S). IsNumbered s (actions ++ action ∷ []) machine callers occurrences) (replay_push program actions action false e) plain)

    -- the answers of an action that counts are for calls that wait
    replies_of : (program : P) (actions : List Action) (action : Action) → AllRight actions → IsRight action
        → (let r = replay_of next answers (begin program) actions in counts r.kept r.given action) ≡ true
        → (let r = replay_of next answers (begin program) actions in AreReplies (r.kept ++ action ∷ []) r.given (answers r.state action))
    replies_of program actions action all right e =
        let r = replay_of next answers (begin program) actions in
        let fine : IsAccounted next answers waiting begin runs none_waits starts keeps accounts program r = accounted next answers waiting begin runs none_waits starts keeps accounts program actions all in
        let may = may_apply next answers waiting begin runs none_waits starts keeps accounts program r action fine e in
        let account = accounts program r.state action fine.inside right may in
        let kept_right : AllRight (r.kept ++ action ∷ []) = right_more r.kept action (kept_from (unmoved (begin program)) actions (λ other h. absurd h) all) right in
        let steps : IsCounted (r.kept ++ action ∷ []) r.given = counted_action r.kept r.given action e (counted next answers (begin program) actions) in
        let all_made : calls_made (r.kept ++ action ∷ []) ≡ calls_made r.kept ++ calls_of action = calls_made-append r.kept (action ∷ []) ∙ ap (λ (rest : List CallName). calls_made r.kept ++ rest) (append-nil (calls_of action)) in
        let both : (call : CallName) → Has call (map call_of (answers r.state action)) → Has call (calls_made (r.kept ++ action ∷ [])) × (¬ Has call (map call_of r.given)) = λ call h.
        elim (has_either call (calls_of action) (waiting r.state) (account.known call h)) [
          | inl own ↦ (
            subst (λ (list : List CallName). Has call list) (sym all_made) (has_right call (calls_made r.kept) (calls_of action) own),
            λ old. is_new r action e call own (fine.known call old),
          )
          | inr before ↦
              let old = (fine.waits call).0 before in
              (subst (λ (list : List CallName). Has call list) (sym all_made) (has_left call (calls_made r.kept) (calls_of action) old.0), old.1)
        ] in
        record {
          tasks = λ x h. made_task (r.kept ++ action ∷ []) (call_of x) kept_right (both (call_of x) (has_call x (answers r.state action) h)).0;
          last = λ x h. let c = both (call_of x) (has_call x (answers r.state action) h) in unanswered_last (r.kept ++ action ∷ []) r.given (call_of x) steps c.0 c.1;
          new = λ x h. not_answered r.kept r.given (call_of x) (both (call_of x) (has_call x (answers r.state action) h)).1;
          once = account.distinct;
        }

    -- an action that counts
    pub numbered_more : (program : P) (actions after : List Action) (action : Action) (machine machine' : S) (callers callers' : List Caller) (occurrences occurrences' : List ℕ)
        → IsNumbered (replay_of next answers (begin program) actions) actions machine callers occurrences → IsRight action → length occurrences ≡ 8
        → (let r = replay_of next answers (begin program) actions in counts r.kept r.given action) ≡ true → after ≡ actions ++ action ∷ []
        → machine' ≡ next machine action → callers' ≡ with_answers (with_action callers action) (answers machine action) → occurrences' ≡ with_occurrence occurrences action
        → IsNumbered (replay_of next answers (begin program) after) after machine' callers' occurrences'
    numbered_more program actions after action machine machine' callers callers' occurrences occurrences' held right wide e same moved stated noted =
        let r = replay_of next answers (begin program) actions in
        let fine : IsAccounted next answers waiting begin runs none_waits starts keeps accounts program r = accounted next answers waiting begin runs none_waits starts keeps accounts program actions held.right in
        let new = λ (call : CallName) (h : Has call (calls_of action)) (old : Has call (map call_of r.given)). is_new r action e call h (fine.known call old) in
        let counting = with_counted callers r.kept r.given action held.room held.calls right e new in
        let calls = all_answers (with_action callers action) (r.kept ++ action ∷ []) r.given (answers r.state action) (with_long callers action held.room) counting (replies_of program actions action held.right right e) in
        let callers_are : callers' ≡ with_answers (with_action callers action) (answers r.state action) = stated ∙ ap (λ (s : S). with_answers (with_action callers action) (answers s action)) held.state in
        let plain : IsNumbered (taken r action) (actions ++ action ∷ []) machine' callers' occurrences' = record {
          right = right_more actions action held.right right;
          state = moved ∙ ap (λ (s : S). next s action) held.state;
          room = ap length callers_are ∙ all_long (with_action callers action) (answers r.state action) ∙ with_long callers action held.room;
          calls = subst (λ (list : List Caller). AreCallers list (r.kept ++ action ∷ []) (r.given ++ answers r.state action)) (sym callers_are) calls;
          interrupts = subst (λ (list : List ℕ). AreOccurrences list (r.kept ++ action ∷ [])) (sym noted) (occurrences_more occurrences r.kept r.given action wide held.interrupts right e);
        } in
        let P : List Action → Type 0 = λ list. IsNumbered (replay_of next answers (begin program) list) list machine' callers' occurrences' in
        subst P (sym same) (subst (λ (s : Replayed S). IsNumbered s (actions ++ action ∷ []) machine' callers' occurrences') (replay_push program actions action true e) plain)

    -- no call is answered twice
    pub once_more : (program : P) (actions after : List Action) (action : Action) → AllRight actions → IsRight action → after ≡ actions ++ action ∷ []
        → IsSet (map call_of (replay_of next answers (begin program) after).given)
    once_more program actions after action all right same =
        (accounted next answers waiting begin runs none_waits starts keeps accounts program after
        (subst AllRight (sym same) (right_more actions action all right))).once
