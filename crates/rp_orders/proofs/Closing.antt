-- Orders that are closed under what may happen lead to every state.
use Rattle.std.proofs.Common.{◌≡◌, ◌≢◌, ℕ, ◌≤◌, max, Bool, true, false, not, IsTrue, ◌&&◌, ◌||◌, nat_eq, nat_lt, ◌⊎◌, Some, None, List, [], ◌∷◌, ◌++◌, map, filter_map, if◌then◌else◌, refl, sym, ap, subst, ◌∙◌, inl, inr, arith, append_assoc, append-nil, length, length-append, ◌+◌, eq-eqb, eqb-true}
use Rattle.std.specs.List.{list_any, list_all, cons_option}
use Rattle.std.specs.Cmp.Lexicographic.{pointwise}
use Rattle.std.proofs.lemmas.List.Elements.{filter_map-append}
use Rattle.rp_machine.specs.rp_base.specs.Number.{greatest, IsTask}
use Rattle.rp_machine.specs.rp_base.specs.Sets.{Has}
use Rattle.rp_machine.specs.rp_base.specs.Action.{IsRight}
use Rattle.rp_machine.specs.rp_base.specs.declared.action.Action.{Action}
use Rattle.rp_machine.specs.rp_base.specs.declared.action.Action.TheVariants.{Noop, Call, Interrupt, Tick}
use Rattle.rp_machine.specs.rp_base.specs.declared.reply.Answer.{Answer}
use Rattle.rp_machine.specs.Asked.{last_number}
use Rattle.rp_machine.specs.Calls.{CallName, calls_made, call_of, MayApply, AccountsFor}
use Rattle.rp_machine.specs.Replay.{number_for, numbers_of, occurrence_for, occurrences_of, one_to, is_for, is_answered, all_answered, is_next_number, counts, Replayed, unmoved, replay_step, replay_from, replay_of}
use Rattle.rp_machine.proofs.Calling.{has_left, has_right, has_either, all_true, answered, made_number}
use Rattle.rp_machine.proofs.Numbering.{IsCounted, counted}
use Rattle.rp_machine.proofs.Replaying.{replay_from-append, goes_on_from}
use Rattle.rp_machine.proofs.Asking.{interrupt_counts}
use Rattle.rp_machine.proofs.Applying.{IsAccounted, accounted}
use Rattle.rp_orders.specs.Guards.{is_allowed, may_go_on}
use Rattle.rp_orders.specs.Orders.{AreAmong, AreRight, AreAlike, MayFollow, IsGuarded, IsReached, IsGiven, IsStuck, AreClosed, IsOrderOf, CanBeGiven}
use Rattle.rp_orders.specs.declared.guard.Guard.{Guard}
use Rattle.rp_orders.proofs.Guarding.{goes_on_alike, allowed_next, guarded_push}

-- ---- tests

-- each of some numbers passes a test
all_of : (test : ℕ → Bool) (xs : List ℕ) → ((x : ℕ) → Has x xs → test x ≡ true) → list_all test xs ≡ true
all_of test [] each = refl
all_of test (x ∷ xs) each = ap (λ (b : Bool). b && list_all test xs) (each x (inl refl)) ∙ all_of test xs (λ y h. each y (inr h))

or_false : (a b : Bool) → (a || b) ≡ false → (a ≡ false) × (b ≡ false)
or_false true b e = absurd (cc)
or_false false b e = (refl, e)

-- two tests that are true together are one
same_truth : (a b : Bool) → (a ≡ true → b ≡ true) → (b ≡ true → a ≡ true) → a ≡ b
same_truth true b f g = sym (f refl)
same_truth false true f g = g refl
same_truth false false f g = refl

-- ---- calls that were made, and those that wait

-- a number of a task's calls is that of a call that was made
number_made : (task number : ℕ) (xs : List Action) → Has number (numbers_of task xs) → Has (record { task = task; number = number }) (calls_made xs)
number_made task number [] h = absurd h
number_made task number (Noop ∷ xs) h = number_made task number xs h
number_made task number (Call caller own object operation arg ∷ xs) h = by (nat_eq caller task) refl (number_made task number xs) h
  where
    by : (b : Bool) → nat_eq caller task ≡ b → (Has number (numbers_of task xs) → Has (record { task = task; number = number }) (calls_made xs)) → Has number (cons_option (if b then Some own else None) (numbers_of task xs)) → Has (record { task = task; number = number }) (calls_made (Call caller own object operation arg ∷ xs))
    by true e later g =
        let tasks : task ≡ caller = sym (eqb-true caller task e) in
        elim g [ inl same ↦ inl (λ i. record { task = tasks i; number = same i }) | inr rest ↦ inr (later rest) ]
    by false e later g = inr (later g)
number_made task number (Interrupt source occurrence ∷ xs) h = number_made task number xs h
number_made task number (Tick now ∷ xs) h = number_made task number xs h

-- where the test finds no answer for a call, it has none
no_answer : (task number : ℕ) (given : List Answer) → list_any (is_for task number) given ≡ false → ¬ Has (record { task = task; number = number }) (map call_of given)
no_answer task number [] e h = absurd h
no_answer task number (x ∷ xs) e h =
    let parts = or_false (is_for task number x) (list_any (is_for task number) xs) e in
    elim h [
      | inl same ↦
          let tasks : x.task ≡ task = λ i. (sym same i).task in
          let numbers : x.number ≡ number = λ i. (sym same i).number in
          let yes : is_for task number x ≡ true = ap (λ (b : Bool). b && nat_eq x.number number) (eq-eqb x.task task tasks) ∙ eq-eqb x.number number numbers in
          let met : true ≡ false = sym yes ∙ parts.0 in
          absurd (cc)
      | inr rest ↦ no_answer task number xs parts.1 rest
    ]

-- the greatest of two lists in a row
greatest_append : (xs ys : List ℕ) → greatest (xs ++ ys) ≡ max (greatest xs) (greatest ys)
greatest_append [] ys = omega arith
greatest_append (x ∷ xs) ys = let e = greatest_append xs ys in let both : greatest (x ∷ xs ++ ys) ≡ max x (max (greatest xs) (greatest ys)) = ap (max x) e in both ∙ omega arith

module _ {S P : Type 0} (next : S → Action → S) (answers : S → Action → List Answer) (waiting : S → List CallName) (begin : P → S) (runs : P → S → Type 0)
    (none_waits : (program : P) → waiting (begin program) ≡ [])
    (starts : (program : P) → runs program (begin program))
    (keeps : (program : P) (s : S) (action : Action) → runs program s → IsRight action → MayApply (waiting s) action → runs program (next s action))
    (accounts : (program : P) (s : S) (action : Action) → runs program s → IsRight action → MayApply (waiting s) action → AccountsFor (waiting s) action (answers s action) (waiting (next s action)))
    (program : P) (guards : List Guard)
  where
    -- what holds of the replay of right actions
    record IsFine (r : Replayed S) : Type 0 where
      accounted_for : IsAccounted next answers waiting begin runs none_waits starts keeps accounts program r
      counted_so : IsCounted r.kept r.given

    fine : (order : List Action) → AreRight order → IsFine (replay_of next answers (begin program) order)
    fine order right = record {
      accounted_for = accounted next answers waiting begin runs none_waits starts keeps accounts program order right;
      counted_so = counted next answers (begin program) order;
    }

    -- a task of which no call waits has all its answers
    all_are_answered : (r : Replayed S) (task : ℕ) → IsFine r → ((call : CallName) → Has call (waiting r.state) → call.task ≢ task) → all_answered r.kept r.given task ≡ true
    all_are_answered r task ok none = all_of (is_answered r.given task) (numbers_of task r.kept) (λ number h. each number h (is_answered r.given task number) refl)
      where
        each : (number : ℕ) → Has number (numbers_of task r.kept) → (b : Bool) → is_answered r.given task number ≡ b → is_answered r.given task number ≡ true
        each number h true e = e
        each number h false e =
            let call : CallName = record { task = task; number = number } in
            absurd (none call ((ok.accounted_for.waits call).1 (number_made task number r.kept h, no_answer task number r.given e)) refl)

    -- and the other way round
    none_waits_there : (r : Replayed S) (task : ℕ) → IsFine r → all_answered r.kept r.given task ≡ true → (call : CallName) → Has call (waiting r.state) → call.task ≢ task
    none_waits_there r task ok e call w same =
        let old = (ok.accounted_for.waits call).0 w in
        let numbered = subst (λ (t : ℕ). Has call.number (numbers_of t r.kept)) same (made_number call r.kept old.0) in
        let reply = answered task call.number r.given (all_true (is_answered r.given task) (numbers_of task r.kept) call.number e numbered) in
        old.1 (subst (λ (t : ℕ). Has (record { task = t; number = call.number }) (map call_of r.given)) (sym same) reply)

    -- so in one state the same tasks wait
    same_waits : (r s : Replayed S) (task : ℕ) → IsFine r → IsFine s → r.state ≡ s.state → all_answered r.kept r.given task ≡ all_answered s.kept s.given task
    same_waits r s task one other state =
        same_truth (all_answered r.kept r.given task) (all_answered s.kept s.given task)
        (λ e. all_are_answered s task other (λ call w. none_waits_there r task one e call (subst (λ (st : S). Has call (waiting st)) (sym state) w)))
        (λ e. all_are_answered r task one (λ call w. none_waits_there s task other e call (subst (λ (st : S). Has call (waiting st)) state w)))

    same_numbers : (r s : Replayed S) (task : ℕ) → IsTask task → IsFine r → IsFine s → AreAlike guards r s → numbers_of task r.kept ≡ numbers_of task s.kept
    same_numbers r s task is one other alike = one.counted_so.numbered task ∙ ap one_to (alike.calls task is) ∙ sym (other.counted_so.numbered task)

    -- and the same actions count
    same_counts : (r s : Replayed S) (action : Action) → IsFine r → IsFine s → AreAlike guards r s → IsRight action → counts r.kept r.given action ≡ counts s.kept s.given action
    same_counts r s Noop one other alike right = refl
    same_counts r s (Call task number object operation arg) one other alike right =
        ap (λ (xs : List ℕ). pointwise nat_eq (one_to number) (xs ++ number ∷ []) && all_answered r.kept r.given task) (same_numbers r s task right.0 one other alike)
        ∙ ap (λ (b : Bool). is_next_number s.kept task number && b) (same_waits r s task one other alike.state)
    same_counts r s (Interrupt source occurrence) one other alike right =
        sym (interrupt_counts r.kept r.given source occurrence right.1.0)
        ∙ ap (λ (n : ℕ). nat_lt n occurrence) (alike.occurrences source right.0)
        ∙ interrupt_counts s.kept s.given source occurrence right.1.0
    same_counts r s (Tick now) one other alike right = refl

    -- and those of them that the guards let be decided
    same_allowed : (r s : Replayed S) (action : Action) → IsFine r → IsFine s → AreAlike guards r s → IsRight action → counts r.kept r.given action ≡ true → counts s.kept s.given action ≡ true
        → is_allowed guards r.kept r.given action ≡ is_allowed guards s.kept s.given action
    same_allowed r s Noop one other alike right e f = refl
    same_allowed r s (Call task number object operation arg) one other alike right e f =
        allowed_next guards r.kept r.given one.counted_so task number object operation arg e
        ∙ alike.allowed task right.0
        ∙ sym (allowed_next guards s.kept s.given other.counted_so task number object operation arg f)
    same_allowed r s (Interrupt source occurrence) one other alike right e f = refl
    same_allowed r s (Tick now) one other alike right e f = refl

    -- one action more that counts, after both
    abbrev after : Replayed S → Action → Replayed S
    after r action = record { state = next r.state action; kept = r.kept ++ action ∷ []; given = r.given ++ answers r.state action }

    -- a task has called no less than before
    last_grows : (xs more : List Action) (task : ℕ) → last_number task xs ≤ last_number task (xs ++ more)
    last_grows xs more task =
        let e : last_number task (xs ++ more) ≡ max (last_number task xs) (greatest (filter_map (number_for task) more)) =
        ap greatest (filter_map-append (number_for task) xs more) ∙ greatest_append (numbers_of task xs) (filter_map (number_for task) more) in
        omega (arith, e)

    calls_after : (r s : Replayed S) (action : Action) (task : ℕ) → IsTask task → IsFine r → IsFine s → AreAlike guards r s → last_number task (after r action).kept ≡ last_number task (after s action).kept
    calls_after r s action task is one other alike =
        let more = filter_map (number_for task) (action ∷ []) in
        ap greatest (filter_map-append (number_for task) r.kept (action ∷ []))
        ∙ ap (λ (xs : List ℕ). greatest (xs ++ more)) (same_numbers r s task is one other alike)
        ∙ sym (ap greatest (filter_map-append (number_for task) s.kept (action ∷ [])))

    alike_after : (r s : Replayed S) (action : Action) → IsFine r → IsFine s → AreAlike guards r s → AreAlike guards (after r action) (after s action)
    alike_after r s action one other alike = record {
      state = ap (λ (st : S). next st action) alike.state;
      calls = λ task is. calls_after r s action task is one other alike;
      occurrences = λ source is.
          let more = filter_map (occurrence_for source) (action ∷ []) in
          ap greatest (filter_map-append (occurrence_for source) r.kept (action ∷ []))
          ∙ greatest_append (occurrences_of source r.kept) more
          ∙ ap (λ (n : ℕ). max n (greatest more)) (alike.occurrences source is)
          ∙ sym (greatest_append (occurrences_of source s.kept) more)
          ∙ sym (ap greatest (filter_map-append (occurrence_for source) s.kept (action ∷ [])));
      allowed = λ task is.
          goes_on_alike guards task r.kept s.kept (after r action).kept (after s action).kept r.given s.given (answers r.state action) one.counted_so other.counted_so
          one.accounted_for.known other.accounted_for.known (alike.calls task is) (calls_after r s action task is one other alike) (last_grows r.kept (action ∷ []) task)
          (ap not (same_waits r s task one other alike.state)) (alike.allowed task is)
          ∙ ap (λ (st : S). may_go_on guards (after s action).kept (s.given ++ answers st action) task) alike.state;
    }

    trans : (r s t : Replayed S) → AreAlike guards r s → AreAlike guards s t → AreAlike guards r t
    trans r s t one other = record {
      state = one.state ∙ other.state;
      calls = λ task is. one.calls task is ∙ other.calls task is;
      occurrences = λ source is. one.occurrences source is ∙ other.occurrences source is;
      allowed = λ task is. one.allowed task is ∙ other.allowed task is;
    }

    alike_start : (r : Replayed S) → AreAlike guards r r
    alike_start r = record { state = refl; calls = λ task is. refl; occurrences = λ source is. refl; allowed = λ task is. refl }

    abbrev whole : List Action → Replayed S
    whole order = replay_of next answers (begin program) order

    -- where an action counts, one step more is that
    step_counts : (r : Replayed S) (action : Action) → counts r.kept r.given action ≡ true → replay_step next answers r action ≡ after r action
    step_counts r action e = ap (λ (b : Bool). if b then after r action else r) e

    step_not : (r : Replayed S) (action : Action) → counts r.kept r.given action ≡ false → replay_step next answers r action ≡ r
    step_not r action e = ap (λ (b : Bool). if b then after r action else r) e

    symm : (r s : Replayed S) → AreAlike guards r s → AreAlike guards s r
    symm r s one = record {
      state = sym one.state;
      calls = λ task is. sym (one.calls task is);
      occurrences = λ source is. sym (one.occurrences source is);
      allowed = λ task is. sym (one.allowed task is);
    }

    -- whatever is decided next, both go on alike
    alike_step : (r s : Replayed S) (action : Action) → IsFine r → IsFine s → AreAlike guards r s → IsRight action → AreAlike guards (replay_step next answers r action) (replay_step next answers s action)
    alike_step r s action one other alike right = by (counts r.kept r.given action) refl
      where
        by : (b : Bool) → counts r.kept r.given action ≡ b → AreAlike guards (replay_step next answers r action) (replay_step next answers s action)
        by true e =
            subst (λ (t : Replayed S). AreAlike guards t (replay_step next answers s action)) (sym (step_counts r action e))
            (subst (λ (t : Replayed S). AreAlike guards (after r action) t) (sym (step_counts s action (sym (same_counts r s action one other alike right) ∙ e))) (alike_after r s action one other alike))
        by false e =
            subst (λ (t : Replayed S). AreAlike guards t (replay_step next answers s action)) (sym (step_not r action e))
            (subst (λ (t : Replayed S). AreAlike guards r t) (sym (step_not s action (sym (same_counts r s action one other alike right) ∙ e))) alike)

    pushed : (order : List Action) (action : Action) → whole (order ++ action ∷ []) ≡ replay_step next answers (whole order) action
    pushed order action = replay_from-append next answers (unmoved (begin program)) order (action ∷ [])

    right_push : (order : List Action) (action : Action) → AreRight order → IsRight action → AreRight (order ++ action ∷ [])
    right_push order action right own other h = elim (has_either other order (action ∷ []) h) [
      | inl before ↦ right other before
      | inr last ↦ elim last [ inl same ↦ subst (λ (a : Action). IsRight a) (sym same) own | inr none ↦ absurd none ]
    ]

    module _ (may : List Action) where
      -- what counts of the whole is there after more
      kept_stays : (done rest : List Action) (action : Action) → Has action (whole done).kept → Has action (whole (done ++ rest)).kept
      kept_stays done rest action h =
          let on = goes_on_from next answers (whole done) rest in
          let joined = replay_from-append next answers (unmoved (begin program)) done rest in
          subst (λ (r : Replayed S). Has action r.kept) (sym joined) (subst (λ (xs : List Action). Has action xs) (sym on.kept) (has_left action (whole done).kept on.further h))

      -- an order of what may happen
      abbrev Order : List Action → Type 0
      Order order = IsOrderOf next answers (begin program) guards may order

      -- an action that counts next may happen, since it is kept
      counts_may : (done : List Action) (action : Action) (rest : List Action) → Order ((done ++ action ∷ []) ++ rest) → counts (whole done).kept (whole done).given action ≡ true → Has action may
      counts_may done action rest is e =
          let now : Has action (whole (done ++ action ∷ [])).kept =
          subst (λ (r : Replayed S). Has action r.kept) (sym (pushed done action ∙ step_counts (whole done) action e)) (has_right action (whole done).kept (action ∷ []) (inl refl)) in
          is.among action (kept_stays (done ++ action ∷ []) rest action now)

      -- and the guards let it be decided
      counts_follows : (done : List Action) (action : Action) (rest : List Action) → Order ((done ++ action ∷ []) ++ rest) → counts (whole done).kept (whole done).given action ≡ true
          → MayFollow next answers (begin program) guards done action
      counts_follows done action rest is e = is.guarded done action rest (append_assoc done (action ∷ []) rest) e

      -- what is done of an order is right
      right_done : (done : List Action) (action : Action) (rest : List Action) → Order ((done ++ action ∷ []) ++ rest) → AreRight done
      right_done done action rest is a h = is.right a (has_left a (done ++ action ∷ []) rest (has_left a done (action ∷ []) h))

    module _ (may : List Action) (found : List (List Action)) (all_right : AreRight may) (closed : AreClosed next answers (begin program) guards may found) where
      found_right : (order : List Action) → Has order found → AreRight order
      found_right order h action a = all_right action (closed.among order h action a)

      -- an order that was done, and the found one that leads to the same state
      abbrev Reached : List Action → Type 0
      Reached order = IsReached next answers (begin program) guards found order

      -- one action more, which counts and may happen
      one_more : (done : List Action) (action : Action) → AreRight done → Reached done → Has action may → MayFollow next answers (begin program) guards done action → counts (whole done).kept (whole done).given action ≡ true
          → Reached (done ++ action ∷ [])
      one_more done action right reached h may_be e =
          let other = reached.0 in
          let alike = reached.2 in
          let one = fine done right in
          let two = fine other (found_right other reached.1) in
          let there : counts (whole other).kept (whole other).given action ≡ true = sym (same_counts (whole done) (whole other) action one two alike (all_right action h)) ∙ e in
          let here : AreAlike guards (whole (done ++ action ∷ [])) (after (whole done) action) =
          subst (λ (r : Replayed S). AreAlike guards r (after (whole done) action)) (sym (pushed done action ∙ step_counts (whole done) action e)) (alike_start (after (whole done) action)) in
          let across = alike_after (whole done) (whole other) action one two alike in
          let back : AreAlike guards (after (whole other) action) (whole (other ++ action ∷ [])) =
          subst (λ (r : Replayed S). AreAlike guards (after (whole other) action) r) (sym (pushed other action ∙ step_counts (whole other) action there)) (alike_start (after (whole other) action)) in
          let further = closed.goes_on other action reached.1 h (sym (same_allowed (whole done) (whole other) action one two alike (all_right action h) e there) ∙ may_be) in
          let joined = trans (whole (done ++ action ∷ [])) (after (whole done) action) (whole (other ++ action ∷ [])) here
          (trans (after (whole done) action) (after (whole other) action) (whole (other ++ action ∷ [])) across back) in
          (further.0, further.1, trans (whole (done ++ action ∷ [])) (whole (other ++ action ∷ [])) (whole further.0) joined further.2)

      -- one that does not count changes nothing
      no_more : (done : List Action) (action : Action) → Reached done → counts (whole done).kept (whole done).given action ≡ false → Reached (done ++ action ∷ [])
      no_more done action reached e =
          (reached.0, reached.1, subst (λ (r : Replayed S). AreAlike guards r (whole reached.0)) (sym (pushed done action ∙ step_not (whole done) action e)) reached.2)

      -- one action more of an order
      further_on : (done : List Action) (action : Action) (rest : List Action) → Order may ((done ++ action ∷ []) ++ rest) → Reached done → Reached (done ++ action ∷ [])
      further_on done action rest is reached = by (counts (whole done).kept (whole done).given action) refl
        where
          by : (b : Bool) → counts (whole done).kept (whole done).given action ≡ b → Reached (done ++ action ∷ [])
          by true e = one_more done action (right_done may done action rest is) reached (counts_may may done action rest is e) (counts_follows may done action rest is e) e
          by false e = no_more done action reached e

      go : (done rest : List Action) → Order may (done ++ rest) → Reached done → Reached (done ++ rest)
      go done [] is reached = subst (λ (xs : List Action). Reached xs) (sym (append-nil done)) reached
      go done (action ∷ rest) is reached =
          let shift : (done ++ action ∷ []) ++ rest ≡ done ++ action ∷ rest = append_assoc done (action ∷ []) rest in
          let is_now : Order may ((done ++ action ∷ []) ++ rest) = subst (λ (xs : List Action). Order may xs) (sym shift) is in
          subst (λ (xs : List Action). Reached xs) shift (go (done ++ action ∷ []) rest is_now (further_on done action rest is_now reached))

      -- every order of what may happen leads to a state to which a found one leads
      pub all_reached : (order : List Action) → Order may order → Reached order
      all_reached order is = go [] order is ([], closed.starts, alike_start (whole []))

      abbrev Given : Answer → Type 0
      Given answer = IsGiven next answers (begin program) guards may found answer

      -- what one more action gives is given after the found one too
      given_now : (done : List Action) (action : Action) (answer : Answer) → AreRight done → Reached done → Has action may → MayFollow next answers (begin program) guards done action → counts (whole done).kept (whole done).given action ≡ true
          → Has answer (answers (whole done).state action) → Given answer
      given_now done action answer right reached h may_be e has =
          let other = reached.0 in
          let alike = reached.2 in
          let one = fine done right in
          let two = fine other (found_right other reached.1) in
          let there : counts (whole other).kept (whole other).given action ≡ true = sym (same_counts (whole done) (whole other) action one two alike (all_right action h)) ∙ e in
          let moved : Has answer (answers (whole other).state action) = subst (λ (st : S). Has answer (answers st action)) alike.state has in
          record {
            before = other;
            action = action;
            found_before = reached.1;
            may_happen = h;
            may_follow = sym (same_allowed (whole done) (whole other) action one two alike (all_right action h) e there) ∙ may_be;
            gives = subst (λ (b : Bool). Has answer (if b then answers (whole other).state action else [])) (sym there) moved;
          }

      -- each answer of one action more was given before, or is now
      given_step : (done : List Action) (action : Action) (answer : Answer) (b : Bool) → counts (whole done).kept (whole done).given action ≡ b
          → Has answer (if b then after (whole done) action else whole done).given
          → Has answer (whole done).given ⊎ ((b ≡ true) × Has answer (answers (whole done).state action))
      given_step done action answer true e h = elim (has_either answer (whole done).given (answers (whole done).state action) h) [ inl before ↦ inl before | inr now ↦ inr (refl, now) ]
      given_step done action answer false e h = inl h

      go_given : (done rest : List Action) (answer : Answer) → Order may (done ++ rest) → Reached done
          → (Has answer (whole done).given → Given answer) → Has answer (whole (done ++ rest)).given → Given answer
      go_given done [] answer is reached old h = old (subst (λ (xs : List Action). Has answer (whole xs).given) (append-nil done) h)
      go_given done (action ∷ rest) answer is reached old h =
          let shift : (done ++ action ∷ []) ++ rest ≡ done ++ action ∷ rest = append_assoc done (action ∷ []) rest in
          let is_now : Order may ((done ++ action ∷ []) ++ rest) = subst (λ (xs : List Action). Order may xs) (sym shift) is in
          let h_now : Has answer (whole ((done ++ action ∷ []) ++ rest)).given = subst (λ (xs : List Action). Has answer (whole xs).given) (sym shift) h in
          go_given (done ++ action ∷ []) rest answer is_now
          (further_on done action rest is_now reached)
          (λ g. elim (given_step done action answer (counts (whole done).kept (whole done).given action) refl (subst (λ (r : Replayed S). Has answer r.given) (pushed done action) g)) [
            | inl earlier ↦ old earlier
            | inr now ↦ given_now done action answer (right_done may done action rest is_now) reached (counts_may may done action rest is_now now.0) (counts_follows may done action rest is_now now.0) now.0 now.1
          ])
          h_now

      -- and each of its answers is given by a found one and one action more
      pub all_given : (order : List Action) (answer : Answer) → Order may order → Has answer (whole order).given → Given answer
      all_given order answer is h = go_given [] order answer is ([], closed.starts, alike_start (whole [])) (λ none. absurd none) h

      -- where a task waits for ever, it does so after the found one too
      pub all_stuck : (task : ℕ) (order : List Action) → Order may order → IsStuck next answers (begin program) guards may task order
          → (other : List Action) × Has other found × IsStuck next answers (begin program) guards may task other
      all_stuck task order is stuck =
          let reached = all_reached order is in
          let other = reached.0 in
          let alike = reached.2 in
          let one = fine order is.right in
          let two = fine other (found_right other reached.1) in (
            other,
            reached.1,
            record {
              waits = subst (λ (b : Bool). IsTrue (not b)) (same_waits (whole order) (whole other) task one two alike.state) stuck.waits;
              quiet = λ action h may_be. quiet_too order other one two alike action (all_right action h) (stuck.quiet action h) may_be;
            },
          )
        where
          quiet_too : (order other : List Action) → IsFine (whole order) → IsFine (whole other) → AreAlike guards (whole order) (whole other) → (action : Action) → IsRight action
              → (MayFollow next answers (begin program) guards order action → AreAlike guards (whole (order ++ action ∷ [])) (whole order))
              → MayFollow next answers (begin program) guards other action → AreAlike guards (whole (other ++ action ∷ [])) (whole other)
          quiet_too order other one two alike action right quiet may_be = by (counts (whole other).kept (whole other).given action) refl
            where
              by : (b : Bool) → counts (whole other).kept (whole other).given action ≡ b → AreAlike guards (whole (other ++ action ∷ [])) (whole other)
              by false e = subst (λ (r : Replayed S). AreAlike guards r (whole other)) (sym (pushed other action ∙ step_not (whole other) action e)) (alike_start (whole other))
              by true e =
                  let there : counts (whole order).kept (whole order).given action ≡ true = same_counts (whole order) (whole other) action one two alike right ∙ e in
                  let allowed : MayFollow next answers (begin program) guards order action = same_allowed (whole order) (whole other) action one two alike right there e ∙ may_be in
                  let steps = alike_step (whole other) (whole order) action two one (symm (whole order) (whole other) alike) right in
                  let on = subst (λ (r : Replayed S). AreAlike guards r (replay_step next answers (whole order) action)) (sym (pushed other action)) steps in
                  let here = subst (λ (r : Replayed S). AreAlike guards r (whole order)) (pushed order action) (quiet allowed) in
                  trans (whole (other ++ action ∷ [])) (replay_step next answers (whole order) action) (whole other) on
                  (trans (replay_step next answers (whole order) action) (whole order) (whole other) here alike)

    -- an order that was found is no longer than this one and leads to the same state, or none is longer
    abbrev pub Near : List (List Action) → List Action → Type 0
    Near found order =
        ((other : List Action) × Has other found × AreAlike guards (whole order) (whole other) × (length other ≤ length order))
        ⊎ ((other : List Action) → Has other found → length other ≤ length order)

    module _ (may : List Action) (found : List (List Action)) (all_right : AreRight may) (starts_there : Has [] found) (among : (order : List Action) → Has order found → AreAmong may order)
        (near : (order : List Action) (action : Action) → Has order found → Has action may → MayFollow next answers (begin program) guards order action → Near found (order ++ action ∷ []))
      where
        longer : (order : List Action) (action : Action) → length (order ++ action ∷ []) ≡ length order + 1
        longer order action = length-append order (action ∷ [])

        near_step : (done : List Action) (action : Action) (rest : List Action) → Order may ((done ++ action ∷ []) ++ rest) → Near found done → Near found (done ++ action ∷ [])
        near_step done action rest is (inr none) = inr (λ other h. let le = none other h in omega (arith, le, longer done action))
        near_step done action rest is (inl soon) = by (counts (whole done).kept (whole done).given action) refl
          where
            by : (b : Bool) → counts (whole done).kept (whole done).given action ≡ b → Near found (done ++ action ∷ [])
            by false e =
                inl (soon.0, soon.1, subst (λ (r : Replayed S). AreAlike guards r (whole soon.0)) (sym (pushed done action ∙ step_not (whole done) action e)) soon.2, omega (arith, soon.3, longer done action))
            by true e =
                let one = fine done (right_done may done action rest is) in
                let two = fine soon.0 (λ a h. all_right a (among soon.0 soon.1 a h)) in
                let h = counts_may may done action rest is e in
                let right = all_right action h in
                let there : counts (whole soon.0).kept (whole soon.0).given action ≡ true = sym (same_counts (whole done) (whole soon.0) action one two soon.2 right) ∙ e in
                let follows = sym (same_allowed (whole done) (whole soon.0) action one two soon.2 right e there) ∙ counts_follows may done action rest is e in
                let steps = alike_step (whole done) (whole soon.0) action one two soon.2 right in
                let joined : AreAlike guards (whole (done ++ action ∷ [])) (whole (soon.0 ++ action ∷ [])) =
                subst (λ (r : Replayed S). AreAlike guards r (whole (soon.0 ++ action ∷ []))) (sym (pushed done action))
                (subst (λ (r : Replayed S). AreAlike guards (replay_step next answers (whole done) action) r) (sym (pushed soon.0 action)) steps) in
                elim (near soon.0 action soon.1 h follows) [
                  | inl found_soon ↦ inl (
                    found_soon.0,
                    found_soon.1,
                    trans (whole (done ++ action ∷ [])) (whole (soon.0 ++ action ∷ [])) (whole found_soon.0) joined found_soon.2,
                    omega (arith, found_soon.3, soon.3, longer done action, longer soon.0 action),
                  )
                  | inr none ↦ inr (λ a g. let le = none a g in omega (arith, le, soon.3, longer done action, longer soon.0 action))
                ]

        near_from : (done rest : List Action) → Order may (done ++ rest) → Near found done → Near found (done ++ rest)
        near_from done [] is reached = subst (λ (xs : List Action). Near found xs) (sym (append-nil done)) reached
        near_from done (action ∷ rest) is reached =
            let shift : (done ++ action ∷ []) ++ rest ≡ done ++ action ∷ rest = append_assoc done (action ∷ []) rest in
            let is_now : Order may ((done ++ action ∷ []) ++ rest) = subst (λ (xs : List Action). Order may xs) (sym shift) is in
            subst (λ (xs : List Action). Near found xs) shift (near_from (done ++ action ∷ []) rest is_now (near_step done action rest is_now reached))

        -- each order is as long as one that was found and leads to the same state, or as any
        pub all_near : (order : List Action) → Order may order → Near found order
        all_near order is = near_from [] order is (inl ([], starts_there, alike_start (whole []), omega arith))

    -- what counts is among the actions
    kept_if : (r : Replayed S) (action other : Action) (b : Bool) → Has other (if b then after r action else r).kept → Has other r.kept ⊎ (other ≡ action)
    kept_if r action other true h = elim (has_either other r.kept (action ∷ []) h) [
      | inl before ↦ inl before
      | inr last ↦ elim last [ inl same ↦ inr same | inr none ↦ absurd none ]
    ]
    kept_if r action other false h = inl h

    kept_from : (r : Replayed S) (rest : List Action) (other : Action) → Has other (replay_from next answers r rest).kept → Has other r.kept ⊎ Has other rest
    kept_from r [] other h = inl h
    kept_from r (action ∷ rest) other h = elim (kept_from (replay_step next answers r action) rest other h) [
      | inl before ↦ elim (kept_if r action other (counts r.kept r.given action) before) [ inl earlier ↦ inl earlier | inr now ↦ inr (inl now) ]
      | inr later ↦ inr (inr later)
    ]

    -- actions that may happen are an order of them
    pub is_order : (may order : List Action) → AreRight may → AreAmong may order → IsGuarded next answers (begin program) guards order → IsOrderOf next answers (begin program) guards may order
    is_order may order all_right among guarded = record {
      right = λ action h. all_right action (among action h);
      among = λ action h. elim (kept_from (unmoved (begin program)) order action h) [ inl none ↦ absurd none | inr is ↦ among action is ];
      guarded = guarded;
    }

    among_push : (may order : List Action) (action : Action) → AreAmong may order → Has action may → AreAmong may (order ++ action ∷ [])
    among_push may order action among own other h = elim (has_either other order (action ∷ []) h) [
      | inl before ↦ among other before
      | inr last ↦ elim last [ inl same ↦ subst (λ (a : Action). Has a may) (sym same) own | inr none ↦ absurd none ]
    ]

    -- what an action gives is among the answers after it
    step_gives : (r : Replayed S) (action : Action) (answer : Answer) (b : Bool) → Has answer (if b then answers r.state action else []) → Has answer (if b then after r action else r).given
    step_gives r action answer true h = has_right answer r.given (answers r.state action) h
    step_gives r action answer false h = absurd h

    -- an answer that a found order and one action more give, an order gives
    pub given_is : (may : List Action) (found : List (List Action)) (answer : Answer) → AreRight may → AreClosed next answers (begin program) guards may found
        → IsGiven next answers (begin program) guards may found answer → CanBeGiven next answers (begin program) guards may answer
    given_is may found answer all_right closed g =
        let order = g.before ++ g.action ∷ [] in (
          order,
          is_order may order all_right (among_push may g.before g.action (closed.among g.before g.found_before) g.may_happen)
              (guarded_push next answers (begin program) guards g.before g.action (closed.guarded g.before g.found_before) g.may_follow),
          subst (λ (r : Replayed S). Has answer r.given) (sym (pushed g.before g.action))
              (step_gives (whole g.before) g.action answer (counts (whole g.before).kept (whole g.before).given g.action) g.gives),
        )
