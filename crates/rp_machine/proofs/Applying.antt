-- Replay applies each action that counts where no call of its task waits, and accounts for each call.
use Rattle.std.proofs.Common.{◌≡◌, ℕ, Bool, true, false, ◌↔◌, ◌⊎◌, List, [], ◌∷◌, ◌++◌, map, if◌then◌else◌, refl, sym, ap, subst, ◌∙◌, inl, inr, append-nil}
use Rattle.std.proofs.lemmas.List.{map-append}
use Rattle.rp_base.specs.Sets.{Has, IsSet}
use Rattle.rp_base.specs.Action.{IsRight}
use Rattle.rp_base.specs.declared.action.Action.{Action}
use Rattle.rp_base.specs.declared.action.Action.TheVariants.{Noop, Call, Interrupt, Tick}
use Rattle.rp_base.specs.declared.reply.Answer.{Answer}
use Rattle.rp_machine.specs.Calls.{CallName, calls_of, calls_made, call_of, MayApply, AccountsFor}
use Rattle.rp_machine.specs.Replay.{numbers_of, is_answered, all_answered, is_next_number, counts, Replayed, unmoved, replay_step, replay_from, replay_of}
use Rattle.rp_machine.proofs.Calling.{has_left, has_right, has_either, both_true, all_true, answered, calls_made-append, made_number, is_new, set_append}

-- the calls that are answered
abbrev pub replied : List Answer → List CallName
replied given = map call_of given

-- every action of the list is right
abbrev pub AllRight : List Action → Type 0
AllRight actions = (action : Action) → Has action actions → IsRight action

module _ {S P : Type 0} (next : S → Action → S) (answers : S → Action → List Answer) (waiting : S → List CallName) (begin : P → S) (runs : P → S → Type 0)
    (none_waits : (program : P) → waiting (begin program) ≡ [])
    (starts : (program : P) → runs program (begin program))
    (keeps : (program : P) (s : S) (action : Action) → runs program s → IsRight action → MayApply (waiting s) action → runs program (next s action))
    (accounts : (program : P) (s : S) (action : Action) → runs program s → IsRight action → MayApply (waiting s) action → AccountsFor (waiting s) action (answers s action) (waiting (next s action)))
  where
    -- the state is the program's, only calls that were made are answered, each once, and exactly the others of
    -- these wait
    pub record IsAccounted (program : P) (r : Replayed S) : Type 0 where
      pub inside : runs program r.state
      pub waits : (call : CallName) → Has call (waiting r.state) ↔ (Has call (calls_made r.kept) × (¬ Has call (replied r.given)))
      pub known : (call : CallName) → Has call (replied r.given) → Has call (calls_made r.kept)
      pub once : IsSet (replied r.given)

    -- where an action counts, no call of its task waits
    pub may_apply : (program : P) (r : Replayed S) (action : Action) → IsAccounted program r → counts r.kept r.given action ≡ true → MayApply (waiting r.state) action
    may_apply program r Noop fine e own other h w same = h
    may_apply program r (Call task number object operation arg) fine e own other h w same =
        let numbers = numbers_of task r.kept in
        let both = both_true (is_next_number r.kept task number) (all_answered r.kept r.given task) e in
        let old = (fine.waits other).0 w in
        let own_task : own.task ≡ task = elim h [ inl is ↦ λ i. (is i).task | inr none ↦ absurd none ] in
        let tasks : other.task ≡ task = sym same ∙ own_task in
        let numbered = subst (λ (t : ℕ). Has other.number (numbers_of t r.kept)) tasks (made_number other r.kept old.0) in
        let reply = answered task other.number r.given (all_true (is_answered r.given task) numbers other.number both.1 numbered) in
        old.1 (subst (λ (t : ℕ). Has (record { task = t; number = other.number }) (map call_of r.given)) (sym tasks) reply)
    may_apply program r (Interrupt source occurrence) fine e own other h w same = h
    may_apply program r (Tick now) fine e own other h w same = h

    -- the replay with an action that counts
    abbrev pub taken : Replayed S → Action → Replayed S
    taken r action = record { state = next r.state action; kept = r.kept ++ action ∷ []; given = r.given ++ answers r.state action }

    -- this holds at the start, after each action that counts, and so after any actions
    pub accounted_start : (program : P) → IsAccounted program (unmoved (begin program))
    accounted_start program = record {
      inside = starts program;
      waits = λ call. (λ w. absurd (subst (λ (calls : List CallName). Has call calls) (none_waits program) w), λ h. absurd h.0);
      known = λ call h. absurd h;
      once = tt;
    }

    -- calls made and answered, one action more
    made_more : (r : Replayed S) (action : Action) → calls_made (r.kept ++ action ∷ []) ≡ calls_made r.kept ++ calls_of action
    made_more r action = calls_made-append r.kept (action ∷ []) ∙ ap (λ rest. calls_made r.kept ++ rest) (append-nil (calls_of action))

    made_is : (r : Replayed S) (action : Action) (call : CallName) → Has call (calls_made (r.kept ++ action ∷ [])) → Has call (calls_made r.kept) ⊎ Has call (calls_of action)
    made_is r action call h = has_either call (calls_made r.kept) (calls_of action) (subst (λ (list : List CallName). Has call list) (made_more r action) h)

    made_before : (r : Replayed S) (action : Action) (call : CallName) → Has call (calls_made r.kept) → Has call (calls_made (r.kept ++ action ∷ []))
    made_before r action call h = subst (λ (list : List CallName). Has call list) (sym (made_more r action)) (has_left call (calls_made r.kept) (calls_of action) h)

    made_now : (r : Replayed S) (action : Action) (call : CallName) → Has call (calls_of action) → Has call (calls_made (r.kept ++ action ∷ []))
    made_now r action call h = subst (λ (list : List CallName). Has call list) (sym (made_more r action)) (has_right call (calls_made r.kept) (calls_of action) h)

    replied_more : (r : Replayed S) (action : Action) → replied (r.given ++ answers r.state action) ≡ replied r.given ++ map call_of (answers r.state action)
    replied_more r action = map-append call_of r.given (answers r.state action)

    replied_is : (r : Replayed S) (action : Action) (call : CallName) → Has call (replied (r.given ++ answers r.state action)) → Has call (replied r.given) ⊎ Has call (map call_of (answers r.state action))
    replied_is r action call h = has_either call (replied r.given) (map call_of (answers r.state action)) (subst (λ (list : List CallName). Has call list) (replied_more r action) h)

    replied_before : (r : Replayed S) (action : Action) (call : CallName) → Has call (replied r.given) → Has call (replied (r.given ++ answers r.state action))
    replied_before r action call h =
        subst (λ (list : List CallName). Has call list) (sym (replied_more r action)) (has_left call (replied r.given) (map call_of (answers r.state action)) h)

    replied_now : (r : Replayed S) (action : Action) (call : CallName) → Has call (map call_of (answers r.state action)) → Has call (replied (r.given ++ answers r.state action))
    replied_now r action call h =
        subst (λ (list : List CallName). Has call list) (sym (replied_more r action)) (has_right call (replied r.given) (map call_of (answers r.state action)) h)

    pub accounted_step : (program : P) (r : Replayed S) (action : Action) → IsAccounted program r → IsRight action → counts r.kept r.given action ≡ true → IsAccounted program (taken r action)
    accounted_step program r action fine right e =
        let may = may_apply program r action fine e in
        let account = accounts program r.state action fine.inside right may in
        record {
          inside = keeps program r.state action fine.inside right may;
          waits = λ call. (
            λ w.
                let here = (account.waits call).0 w in
                elim (has_either call (calls_of action) (waiting r.state) here.0) [
                  | inl own ↦ (
                    made_now r action call own,
                    λ h. elim (replied_is r action call h) [ inl old ↦ is_new r action e call own (fine.known call old) | inr now ↦ here.1 now ],
                  )
                  | inr before ↦
                      let old = (fine.waits call).0 before in
                      (made_before r action call old.0, λ h. elim (replied_is r action call h) [ inl earlier ↦ old.1 earlier | inr now ↦ here.1 now ])
                ],
            λ h.
                let unanswered = λ (now : Has call (map call_of (answers r.state action))). h.1 (replied_now r action call now) in
                elim (made_is r action call h.0) [
                  | inl before ↦
                      let waited = (fine.waits call).1 (before, λ old. h.1 (replied_before r action call old)) in
                      (account.waits call).1 (has_right call (calls_of action) (waiting r.state) waited, unanswered)
                  | inr own ↦ (account.waits call).1 (has_left call (calls_of action) (waiting r.state) own, unanswered)
                ],
          );
          known = λ call h. elim (replied_is r action call h) [
            | inl old ↦ made_before r action call (fine.known call old)
            | inr now ↦ elim (has_either call (calls_of action) (waiting r.state) (account.known call now)) [
              | inl own ↦ made_now r action call own
              | inr before ↦ made_before r action call ((fine.waits call).0 before).0
            ]
          ];
          once =
              let apart : (call : CallName) → Has call (replied (answers r.state action)) → ¬ Has call (replied r.given) = λ call now old.
              elim (has_either call (calls_of action) (waiting r.state) (account.known call now)) [
                | inl own ↦ is_new r action e call own (fine.known call old)
                | inr before ↦ ((fine.waits call).0 before).1 old
              ] in
              subst (λ (calls : List CallName). IsSet calls) (sym (replied_more r action)) (set_append (replied r.given) (replied (answers r.state action)) fine.once account.distinct apart);
        }

    pub accounted_if : (program : P) (r : Replayed S) (action : Action) (b : Bool) → counts r.kept r.given action ≡ b → IsAccounted program r → IsRight action → IsAccounted program (if b then taken r action else r)
    accounted_if program r action true e fine right = accounted_step program r action fine right e
    accounted_if program r action false e fine right = fine

    accounted_from : (program : P) (r : Replayed S) (rest : List Action) → IsAccounted program r → AllRight rest → IsAccounted program (replay_from next answers r rest)
    accounted_from program r [] fine right = fine
    accounted_from program r (action ∷ rest) fine right =
        accounted_from program (replay_step next answers r action) rest (accounted_if program r action (counts r.kept r.given action) refl fine (right action (inl refl))) (λ other h. right other (inr h))

    -- so does each replay of right actions
    pub accounted : (program : P) (actions : List Action) → AllRight actions → IsAccounted program (replay_of next answers (begin program) actions)
    accounted program actions right = accounted_from program (unmoved (begin program)) actions (accounted_start program) right
