-- An action that is read is the action that was written, and what was written is read again.
use Rattle.std.proofs.Common.{◌≡◌, ℕ, zero, suc, true, eqb, List, [], ◌∷◌, ◌++◌, length, Ok, refl, sym, ap, ◌∙◌, append_assoc, arith, ℤ}
use Rattle.std.specs.Prelude.{All, flat_map}
use Rattle.std.proofs.lemmas.List.Elements.{All-nil, All-cons, All-head, All-tail}
use Rattle.std.specs.Int.{w32}
use Rattle.std.proofs.lemmas.Bool.{eqb-true, eq-eqb}
use Rattle.std.proofs.lemmas.Bool.Decides.{nat_tests}
use Rattle.rp_base.specs.Number.{IsTask, IsPosition}
use Rattle.rp_base.specs.Ballot.{IsBallot}
use Rattle.rp_base.specs.declared.record.Vote.{Vote}
use Rattle.rp_base.specs.declared.placed.PlacedVote.{PlacedVote}
use Rattle.rp_base.specs.Action.{IsIndex, IsRight, IsRightOperation}
use Rattle.rp_base.specs.declared.action.Operation.{Operation}
use Rattle.rp_base.specs.declared.action.Operation.TheVariants as operations
use Rattle.rp_base.specs.declared.action.Action.{Action}
use Rattle.rp_base.specs.declared.action.Action.TheVariants as actions
use Rattle.rp_codec.specs.declared.packet.Party.{Party}
use Rattle.rp_codec.specs.declared.packet.Party.TheVariants.{Node, Task, Audit}
use Rattle.rp_codec.specs.Message.{IsCallBy, IsCallOf}
use Rattle.rp_codec.specs.declared.version.Version.{Version}
use Rattle.rp_codec.specs.declared.version.Version.TheVariants.{V1, V2}
use Rattle.rp_codec.specs.Text.{number_text, signed_text, position_text, ballot_text, entry_byte, operation_text_at, action_text_at, placed_text_at, HasOperationText, HasActionText}
use Rattle.rp_codec.specs.Reading.{is_entry_byte, entry_of, indexed_at, entry_at, operation_at, call_at, any_call_at, interrupt_at, tick_at, action_at, vote_at, placed_vote_at, actions_at, is_task, own_call_at}
use Rattle.rp_codec.proofs.Steps.{IsBytes, Yields, Took, then, when, guarded, weaker}
use Rattle.rp_codec.proofs.FieldLaws.{TookByte, TookNumber32, TookSigned, TookIndex, TookCount, byte_took, number32_took, number32_again, signed_took, signed_again, index_took, index_again, count_took, count_again, IsLower, TookLower, lower_took, lower_again, TookPlace, place_took, place_again, regroup}

-- ---- operations

-- a right operation with a text of the version
abbrev pub IsOperationAt : Version → Operation → Type 0
IsOperationAt v operation = IsRightOperation operation × HasOperationText v operation

abbrev pub TookOperation : Version → List ℕ → Operation × List ℕ → Type 0
TookOperation v bytes = Took (operation_text_at v) (IsOperationAt v) bytes

indexed_took : (v : Version) (bytes rest : List ℕ) (kind : ℕ) (operation : ℕ → Operation) → bytes ≡ kind ∷ rest → IsBytes rest → ((i : ℕ) → operation_text_at v (operation i) ≡ kind ∷ i ∷ []) → ((i : ℕ) → IsIndex i → IsOperationAt v (operation i))
    → Yields (TookOperation v bytes) (indexed_at operation rest)
indexed_took v bytes rest kind operation begins h shape right =
    then (TookIndex rest) (TookOperation v bytes) _ _ (index_took rest h)
    (λ i t. record { parts = begins ∙ ap (λ (r : List ℕ). kind ∷ r) t.parts ∙ ap (λ (s : List ℕ). s ++ i.1) (sym (shape i.0)); rest = t.rest; right = right i.0 t.right })

entry_again : (v : Version) (n : ℕ) → is_entry_byte v n ≡ true → (n ≡ entry_byte v (entry_of v n)) × IsOperationAt v (operations.Entry (entry_of v n))
entry_again V1 n e = (eqb-true _ _ e, ((omega arith, omega arith), refl))
entry_again V2 n e = (refl, (grind (arith, nat_tests), tt))

entry_took : (v : Version) (bytes rest : List ℕ) → bytes ≡ 3 ∷ rest → IsBytes rest → Yields (TookOperation v bytes) (entry_at v rest)
entry_took v bytes rest begins h =
    then (TookByte rest) (TookOperation v bytes) _ _ (byte_took rest h)
    (λ i t. guarded (TookOperation v bytes) (is_entry_byte v i.0) i _
    (λ e.
    let is = entry_again v i.0 e in
    record { parts = begins ∙ ap (λ (r : List ℕ). 3 ∷ r) t.parts ∙ ap (λ (b : ℕ). 3 ∷ b ∷ i.1) is.0; rest = t.rest; right = is.1 }))

pub operation_took : (v : Version) (bytes : List ℕ) → IsBytes bytes → Yields (TookOperation v bytes) (operation_at v bytes)
unfolding operation_at
operation_took v bytes h =
    then (TookByte bytes) (TookOperation v bytes) _ _ (byte_took bytes h)
    (λ kind t.
    let begins : (k : ℕ) → eqb kind.0 k ≡ true → bytes ≡ k ∷ kind.1 = λ k e. t.parts ∙ ap (λ (b : ℕ). b ∷ kind.1) (eqb-true _ _ e) in
    when (TookOperation v bytes) (eqb kind.0 1) _ _ (λ e. indexed_took v bytes kind.1 1 operations.Function (begins 1 e) t.rest (λ i. refl) (λ i r. (r, tt)))
    (λ _. when (TookOperation v bytes) (eqb kind.0 2) _ _ (λ e. indexed_took v bytes kind.1 2 operations.Procedure (begins 2 e) t.rest (λ i. refl) (λ i r. (r, tt)))
    (λ _. when (TookOperation v bytes) (eqb kind.0 3) _ _ (λ e. entry_took v bytes kind.1 (begins 3 e) t.rest)
    (λ _. when (TookOperation v bytes) (eqb kind.0 4) _ _ (λ e. indexed_took v bytes kind.1 4 operations.SetTimer (begins 4 e) t.rest (λ i. refl) (λ i r. (r, tt)))
    (λ _. when (TookOperation v bytes) (eqb kind.0 5) _ _ (λ e. indexed_took v bytes kind.1 5 operations.CancelTimer (begins 5 e) t.rest (λ i. refl) (λ i r. (r, tt))) (λ _. tt))))))

entry_read : (v : Version) (index : ℕ) → IsOperationAt v (operations.Entry index) → (is_entry_byte v (entry_byte v index) ≡ true) × (entry_of v (entry_byte v index) ≡ index)
entry_read V1 index right = (refl, sym right.1)
entry_read V2 index right = (grind (arith, nat_tests), refl)

pub operation_again : (v : Version) (operation : Operation) (rest : List ℕ) → IsOperationAt v operation → operation_at v (operation_text_at v operation ++ rest) ≡ Ok (operation, rest)
unfolding operation_at
operation_again v (operations.Function index) rest right = rw (index_again index rest right.0) refl
operation_again v (operations.Procedure index) rest right = rw (index_again index rest right.0) refl
operation_again v (operations.Entry index) rest right = let read = entry_read v index right in rw (read.0, read.1) refl
operation_again v (operations.SetTimer index) rest right = rw (index_again index rest right.0) refl
operation_again v (operations.CancelTimer index) rest right = rw (index_again index rest right.0) refl

-- ---- actions

-- a right action with a text of the version
abbrev pub IsActionAt : Version → Action → Type 0
IsActionAt v action = IsRight action × HasActionText v action

-- a right call of this task
abbrev IsRightCall : Version → ℕ → Action → Type 0
IsRightCall v task action = IsCallBy task action × IsActionAt v action

abbrev TookCall : Version → ℕ → List ℕ → Action × List ℕ → Type 0
TookCall v task bytes = Took (action_text_at v) (IsRightCall v task) bytes

abbrev pub TookAction : Version → List ℕ → Action × List ℕ → Type 0
TookAction v bytes = Took (action_text_at v) (IsActionAt v) bytes

call_took : (v : Version) (bytes rest : List ℕ) (task : ℕ) → bytes ≡ 1 ∷ task ∷ rest → IsBytes rest → IsTask task → Yields (TookCall v task bytes) (call_at v task rest)
unfolding call_at
call_took v bytes rest task begins h right =
    then (TookCount rest) (TookCall v task bytes) _ _ (count_took rest h)
    (λ number n. then (TookIndex number.1) (TookCall v task bytes) _ _ (index_took number.1 n.rest)
    (λ object o. then (TookOperation v object.1) (TookCall v task bytes) _ _ (operation_took v object.1 o.rest)
    (λ operation p. then (TookSigned operation.1) (TookCall v task bytes) _ _ (signed_took operation.1 p.rest)
    (λ arg a. record {
      parts = begins ∙ rw (n.parts, o.parts, p.parts, a.parts) (simp append_assoc);
      rest = a.rest;
      right = (refl, ((right, n.right, o.right, p.right.0, a.right), p.right.1));
    }))))

call_again : (v : Version) (task number object : ℕ) (operation : Operation) (arg : ℤ) (rest : List ℕ) → IsActionAt v (actions.Call task number object operation arg)
    → call_at v task (number_text w32 number ++ (object ∷ (operation_text_at v operation ++ (signed_text arg ++ rest)))) ≡ Ok (actions.Call task number object operation arg, rest)
unfolding call_at
call_again v task number object operation arg rest right =
    rw (count_again number (object ∷ (operation_text_at v operation ++ (signed_text arg ++ rest))) right.0.1, index_again object (operation_text_at v operation ++ (signed_text arg ++ rest)) right.0.2, operation_again v operation (signed_text arg ++ rest) (right.0.3, right.1), signed_again arg rest right.0.4) refl

any_call_took : (v : Version) (bytes rest : List ℕ) → bytes ≡ 1 ∷ rest → IsBytes rest → Yields (TookAction v bytes) (any_call_at v rest)
unfolding any_call_at
any_call_took v bytes rest begins h =
    then (TookIndex rest) (TookAction v bytes) _ _ (index_took rest h)
    (λ task t. weaker (TookCall v task.0 bytes) (TookAction v bytes) _ (λ x c. record { parts = c.parts; rest = c.rest; right = c.right.1 })
    (call_took v bytes task.1 task.0 (begins ∙ ap (λ (r : List ℕ). 1 ∷ r) t.parts) t.rest t.right))

interrupt_took : (v : Version) (bytes rest : List ℕ) → bytes ≡ 2 ∷ rest → IsBytes rest → Yields (TookAction v bytes) (interrupt_at rest)
unfolding interrupt_at
interrupt_took v bytes rest begins h =
    then (TookIndex rest) (TookAction v bytes) _ _ (index_took rest h)
    (λ source s. then (TookCount source.1) (TookAction v bytes) _ _ (count_took source.1 s.rest)
    (λ occurrence o. record { parts = begins ∙ rw (s.parts, o.parts) refl; rest = o.rest; right = ((s.right, o.right), tt) }))

tick_took : (v : Version) (bytes rest : List ℕ) → bytes ≡ 3 ∷ rest → IsBytes rest → Yields (TookAction v bytes) (tick_at rest)
unfolding tick_at
tick_took v bytes rest begins h =
    then (TookNumber32 rest) (TookAction v bytes) _ _ (number32_took rest h)
    (λ now n. record { parts = begins ∙ rw n.parts refl; rest = n.rest; right = (n.right, tt) })

pub action_took : (v : Version) (bytes : List ℕ) → IsBytes bytes → Yields (TookAction v bytes) (action_at v bytes)
unfolding action_at
action_took v bytes h =
    then (TookByte bytes) (TookAction v bytes) _ _ (byte_took bytes h)
    (λ tag t.
    let begins : (k : ℕ) → eqb tag.0 k ≡ true → bytes ≡ k ∷ tag.1 = λ k e. t.parts ∙ ap (λ (b : ℕ). b ∷ tag.1) (eqb-true _ _ e) in
    when (TookAction v bytes) (eqb tag.0 0) _ _ (λ e. record { parts = begins 0 e; rest = t.rest; right = (tt, tt) })
    (λ _. when (TookAction v bytes) (eqb tag.0 1) _ _ (λ e. any_call_took v bytes tag.1 (begins 1 e) t.rest)
    (λ _. when (TookAction v bytes) (eqb tag.0 2) _ _ (λ e. interrupt_took v bytes tag.1 (begins 2 e) t.rest)
    (λ _. when (TookAction v bytes) (eqb tag.0 3) _ _ (λ e. tick_took v bytes tag.1 (begins 3 e) t.rest) (λ _. tt)))))

-- the text of a call, and what is after it, field by field
call_parts : (v : Version) (task number object : ℕ) (operation : Operation) (arg : ℤ) (rest : List ℕ)
    → action_text_at v (actions.Call task number object operation arg) ++ rest ≡ 1 ∷ task ∷ (number_text w32 number ++ (object ∷ (operation_text_at v operation ++ (signed_text arg ++ rest))))
call_parts v task number object operation arg rest = simp append_assoc

pub action_again : (v : Version) (action : Action) (rest : List ℕ) → IsActionAt v action → action_at v (action_text_at v action ++ rest) ≡ Ok (action, rest)
unfolding action_at any_call_at interrupt_at tick_at
action_again v actions.Noop rest right = refl
action_again v (actions.Call task number object operation arg) rest right =
    ap (action_at v) (call_parts v task number object operation arg rest) ∙ rw (index_again task (number_text w32 number ++ (object ∷ (operation_text_at v operation ++ (signed_text arg ++ rest)))) right.0.0, call_again v task number object operation arg rest right) refl
action_again v (actions.Interrupt source occurrence) rest right = rw (index_again source (number_text w32 occurrence ++ rest) right.0.0, count_again occurrence rest right.0.1) refl
action_again v (actions.Tick now) rest right = rw (number32_again now rest right.0) refl

-- ---- a vote in a ballot below another

abbrev pub TookVote : Version → ℕ → List ℕ → Vote × List ℕ → Type 0
TookVote v ballot bytes = Took (λ vote. ballot_text vote.ballot ++ action_text_at v vote.action) (λ vote. IsLower ballot vote.ballot × IsActionAt v vote.action) bytes

pub vote_took : (v : Version) (ballot : ℕ) (bytes : List ℕ) → IsBytes bytes → Yields (TookVote v ballot bytes) (vote_at v ballot bytes)
unfolding vote_at
vote_took v ballot bytes h =
    then (TookLower ballot bytes) (TookVote v ballot bytes) _ _ (lower_took ballot bytes h)
    (λ lower l. then (TookAction v lower.1) (TookVote v ballot bytes) _ _ (action_took v lower.1 l.rest)
    (λ action a. record { parts = rw (l.parts, a.parts) (simp append_assoc); rest = a.rest; right = (l.right, a.right) }))

pub vote_again : (v : Version) (ballot : ℕ) (vote : Vote) (rest : List ℕ) → IsLower ballot vote.ballot → IsActionAt v vote.action
    → vote_at v ballot ((ballot_text vote.ballot ++ action_text_at v vote.action) ++ rest) ≡ Ok (vote, rest)
unfolding vote_at
vote_again v ballot vote rest lower right =
    ap (vote_at v ballot) (append_assoc (ballot_text vote.ballot) (action_text_at v vote.action) rest)
    ∙ rw (lower_again ballot vote.ballot (action_text_at v vote.action ++ rest) lower, action_again v vote.action rest right) refl

-- ---- a vote with its position

abbrev pub TookPlacedVote : Version → List ℕ → PlacedVote × List ℕ → Type 0
TookPlacedVote v bytes = Took (placed_text_at v) (λ placed. IsPosition placed.position × IsBallot placed.vote.ballot × IsActionAt v placed.vote.action) bytes

pub placed_vote_took : (v : Version) (bytes : List ℕ) → IsBytes bytes → Yields (TookPlacedVote v bytes) (placed_vote_at v bytes)
unfolding placed_vote_at
placed_vote_took v bytes h =
    then (TookPlace bytes) (TookPlacedVote v bytes) _ _ (place_took bytes h)
    (λ place p. then (TookAction v place.1) (TookPlacedVote v bytes) _ _ (action_took v place.1 p.rest)
    (λ action a. record { parts = rw (p.parts, a.parts) (simp append_assoc); rest = a.rest; right = (p.right.0, p.right.1, a.right) }))

pub placed_vote_again : (v : Version) (position ballot : ℕ) (action : Action) (rest : List ℕ) → IsPosition position → IsBallot ballot → IsActionAt v action
    → placed_vote_at v ((position_text position ++ ballot_text ballot ++ action_text_at v action) ++ rest) ≡ Ok (record { position = position; vote = record { ballot = ballot; action = action } }, rest)
unfolding placed_vote_at
placed_vote_again v position ballot action rest is_position is_ballot right =
    ap (placed_vote_at v) (regroup (position_text position) (ballot_text ballot) (action_text_at v action) rest)
    ∙ rw (place_again position ballot (action_text_at v action ++ rest) is_position is_ballot, action_again v action rest right) refl

-- ---- a party's own call

own_from : (from : Party) (task : ℕ) (action : Action) → is_task from task ≡ true → IsCallBy task action → IsCallOf from action
own_from (Node n) task action e h = absurd cc
own_from (Task t) task actions.Noop e h = h
own_from (Task t) task (actions.Call caller number object operation arg) e h = h ∙ eqb-true _ _ e
own_from (Task t) task (actions.Interrupt source occurrence) e h = h
own_from (Task t) task (actions.Tick now) e h = h
own_from Audit task action e h = absurd cc

abbrev pub TookOwn : Version → Party → List ℕ → Action × List ℕ → Type 0
TookOwn v from bytes = Took (action_text_at v) (λ action. IsCallOf from action × IsActionAt v action) bytes

pub own_call_took : (v : Version) (from : Party) (bytes : List ℕ) → IsBytes bytes → Yields (TookOwn v from bytes) (own_call_at v from bytes)
unfolding own_call_at
own_call_took v from bytes h =
    then (TookByte bytes) (TookOwn v from bytes) _ _ (byte_took bytes h)
    (λ tag t. guarded (TookOwn v from bytes) (eqb tag.0 1) tag _
    (λ e. then (TookIndex tag.1) (TookOwn v from bytes) _ _ (index_took tag.1 t.rest)
    (λ task s. guarded (TookOwn v from bytes) (is_task from task.0) task _
    (λ own.
    let begins : bytes ≡ 1 ∷ task.0 ∷ task.1 = t.parts ∙ ap (λ (b : ℕ). b ∷ tag.1) (eqb-true _ _ e) ∙ ap (λ (r : List ℕ). 1 ∷ r) s.parts in
    weaker (TookCall v task.0 bytes) (TookOwn v from bytes) _
    (λ x c. record { parts = c.parts; rest = c.rest; right = (own_from from task.0 x.0 own c.right.0, c.right.1) })
    (call_took v bytes task.1 task.0 begins s.rest s.right)))))

own_call_by : (v : Version) (t : ℕ) (action : Action) (rest : List ℕ) → IsCallBy t action → IsActionAt v action → own_call_at v (Task t) (action_text_at v action ++ rest) ≡ Ok (action, rest)
unfolding own_call_at
own_call_by v t actions.Noop rest own right = absurd own
own_call_by v t (actions.Call task number object operation arg) rest own right =
    ap (own_call_at v (Task t)) (call_parts v task number object operation arg rest) ∙ rw (index_again task (number_text w32 number ++ (object ∷ (operation_text_at v operation ++ (signed_text arg ++ rest)))) right.0.0, eq-eqb _ _ own, call_again v task number object operation arg rest right) refl
own_call_by v t (actions.Interrupt source occurrence) rest own right = absurd own
own_call_by v t (actions.Tick now) rest own right = absurd own

pub own_call_again : (v : Version) (from : Party) (action : Action) (rest : List ℕ) → IsCallOf from action → IsActionAt v action → own_call_at v from (action_text_at v action ++ rest) ≡ Ok (action, rest)
own_call_again v (Node n) action rest own right = absurd own
own_call_again v (Task t) action rest own right = own_call_by v t action rest own right
own_call_again v Audit action rest own right = absurd own

-- ---- lists of actions

-- the texts of the actions, one after the other
abbrev pub each_text : Version → List Action → List ℕ
each_text v actions = flat_map (action_text_at v) actions

-- n right actions
abbrev pub AreRight : Version → ℕ → List Action → Type 0
AreRight v count actions = (length actions ≡ count) × All IsRight actions × All (HasActionText v) actions

abbrev pub TookActions : Version → ℕ → List ℕ → List Action × List ℕ → Type 0
TookActions v count bytes = Took (each_text v) (AreRight v count) bytes

pub actions_took : (v : Version) (count : ℕ) (bytes : List ℕ) → IsBytes bytes → Yields (TookActions v count bytes) (actions_at v count bytes)
unfolding actions_at
actions_took v zero bytes h = record { parts = refl; rest = h; right = (refl, All-nil IsRight, All-nil (HasActionText v)) }
actions_took v (suc more) bytes h =
    then (TookAction v bytes) (TookActions v (suc more) bytes) _ _ (action_took v bytes h)
    (λ action a. then (TookActions v more action.1) (TookActions v (suc more) bytes) _ _ (actions_took v more action.1 a.rest)
    (λ others o. record {
      parts = rw (a.parts, o.parts) (simp append_assoc);
      rest = o.rest;
      right = (ap suc o.right.0, All-cons IsRight action.0 others.0 a.right.0 o.right.1, All-cons (HasActionText v) action.0 others.0 a.right.1 o.right.2);
    }))

pub actions_again : (v : Version) (actions : List Action) (rest : List ℕ) → All IsRight actions → All (HasActionText v) actions → actions_at v (length actions) (each_text v actions ++ rest) ≡ Ok (actions, rest)
unfolding actions_at
actions_again v [] rest right has = refl
actions_again v (action ∷ others) rest right has =
    let parts : each_text v (action ∷ others) ++ rest ≡ action_text_at v action ++ (each_text v others ++ rest) = simp append_assoc in
    ap (actions_at v (suc (length others))) parts
    ∙ rw (action_again v action (each_text v others ++ rest) (All-head IsRight action others right, All-head (HasActionText v) action others has), actions_again v others rest (All-tail IsRight action others right) (All-tail (HasActionText v) action others has)) refl
