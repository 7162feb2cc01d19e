-- Guards are for calls that there are.
use Rattle.std.proofs.Common.{◌≡◌, ◌≢◌, ℕ, zero, suc, ◌+◌, ◌≤◌, Bool, true, false, List, [], ◌∷◌, ◌++◌, ◌⊎◌, inl, inr, length, filter, Some, None, Result, Ok, Err, refl, ap, sym, subst, ◌∙◌, arith, nat_eq, nat_lt, length-append}
use Rattle.std.specs.Prelude.{if◌then◌else◌, ◌&&◌, ◌||◌}
use Rattle.std.specs.List.{list_any}
use Rattle.std.proofs.lemmas.Bool.{eqb-true, eq-eqb}
use Rattle.std.proofs.lemmas.List.Elements.{filter-append}
use Rattle.rp_deck.specs.rp_base.specs.Action.{same_action}
use Rattle.rp_deck.specs.rp_base.specs.Sets.{Has}
use Rattle.rp_deck.specs.rp_base.specs.declared.action.Action.{Action}
use Rattle.rp_deck.specs.rp_base.specs.declared.action.Action.TheVariants as actions
use Rattle.rp_deck.specs.rp_base.specs.declared.fault.DeckReason.{DeckReason}
use Rattle.rp_deck.specs.rp_base.specs.declared.fault.DeckReason.TheVariants.{UnknownWord}
use Rattle.rp_deck.specs.rp_base.proofs.Members.{has_split}
use Rattle.rp_deck.specs.ScriptLines.{LineCommand, CommandText, Take}
use Rattle.rp_deck_declarations.specs.Declaring.{on_line}
use Rattle.rp_explore_deck.specs.GuardLines.{calls_above, guard_of, guards_of}
use Rattle.rp_explore_deck.specs.PlannedActions.{is_call_of, calls_among, actions_of, action_asked, with_planned, with_line, planned_after, HasCall}
use Rattle.rp_explore_deck.specs.declared.actions.PlannedAction.{PlannedAction}
use Rattle.rp_explore_deck.specs.declared.guard_lines.GuardLine.{GuardLine}
use Rattle.rp_orders.specs.rp_machine.specs.Replay.{number_for}
use Rattle.rp_deck.specs.rp_model.specs.Events.{Submit, Makes, Interrupt, Tick}
use Rattle.rp_orders.specs.declared.guard.Guard.{Guard}
use Rattle.rp_words.specs.LineFaults.{BadLine}
use Rattle.rp_words.specs.Reading.{◌>>=◌, unless}

-- the calls of each task are numbered from 1 on
abbrev AllCalls : List PlannedAction → Type 0
AllCalls planned = (task number : ℕ) → 1 ≤ number → number ≤ calls_among task planned → HasCall planned task number

has_more : (planned : List PlannedAction) (p : PlannedAction) (a : Action) → Has a (actions_of planned) → Has a (actions_of (planned ++ p ∷ []))
has_more [] p a has = absurd has
has_more (q ∷ planned) p a (inl is) = inl is
has_more (q ∷ planned) p a (inr later) = inr (has_more planned p a later)

has_new : (planned : List PlannedAction) (p : PlannedAction) → Has p.action (actions_of (planned ++ p ∷ []))
has_new [] p = inl refl
has_new (q ∷ planned) p = inr (has_new planned p)

call_more : (planned : List PlannedAction) (p : PlannedAction) (task number : ℕ) → HasCall planned task number → HasCall (planned ++ p ∷ []) task number
call_more planned p task number call = (call.0, has_more planned p call.0 call.1, call.2)

one_more : (task : ℕ) (planned : List PlannedAction) (p : PlannedAction) → calls_among task (planned ++ p ∷ []) ≡ calls_among task planned + calls_among task (p ∷ [])
one_more task planned p = ap length (filter-append (λ (q : PlannedAction). is_call_of task q.action) planned (p ∷ [])) ∙ length-append (filter (λ (q : PlannedAction). is_call_of task q.action) planned) (filter (λ (q : PlannedAction). is_call_of task q.action) (p ∷ []))

last_or_before : (number last : ℕ) → number ≤ last + 1 → (number ≤ last) ⊎ (number ≡ last + 1)
last_or_before zero last within = inl (omega arith)
last_or_before (suc number) zero within = inr (omega arith)
last_or_before (suc number) (suc last) within = elim (last_or_before number last (omega arith)) as (λ _. (suc number ≤ suc last) ⊎ (suc number ≡ suc last + 1)) [ inl low ↦ inl (omega arith) | inr is ↦ inr (omega arith) ]

appended_at : (is_call : Bool) (planned : List PlannedAction) (p : PlannedAction) (task number : ℕ) → is_call_of task p.action ≡ is_call → AllCalls planned
    → (is_call ≡ true → number_for task p.action ≡ Some (calls_among task planned + 1)) → 1 ≤ number → number ≤ calls_among task (planned ++ p ∷ []) → HasCall (planned ++ p ∷ []) task number
appended_at true planned p task number is all new low high =
    let one : calls_among task (p ∷ []) ≡ 1 = rw is refl in
    elim (last_or_before number (calls_among task planned) (omega (arith, high, one_more task planned p, one))) as (λ _. HasCall (planned ++ p ∷ []) task number) [
      | inl before ↦ call_more planned p task number (all task number low before)
      | inr last ↦ (p.action, has_new planned p, new refl ∙ ap Some (sym last))
    ]
appended_at false planned p task number is all new low high =
    let none : calls_among task (p ∷ []) ≡ 0 = rw is refl in
    call_more planned p task number (all task number low (omega (arith, high, one_more task planned p, none)))

appended : (planned : List PlannedAction) (p : PlannedAction) → AllCalls planned → ((task : ℕ) → is_call_of task p.action ≡ true → number_for task p.action ≡ Some (calls_among task planned + 1)) → AllCalls (planned ++ p ∷ [])
appended planned p all new task number low high = appended_at (is_call_of task p.action) planned p task number refl all (new task) low high

chosen : (test : Bool) (planned : List PlannedAction) (p : PlannedAction) → AllCalls planned → ((task : ℕ) → is_call_of task p.action ≡ true → number_for task p.action ≡ Some (calls_among task planned + 1)) → AllCalls (if test then planned else planned ++ p ∷ [])
chosen true planned p all new = all
chosen false planned p all new = appended planned p all new

new_call : (planned : List PlannedAction) (caller task : ℕ) → nat_eq caller task ≡ true → (if nat_eq caller task then Some (calls_among caller planned + 1) else None) ≡ Some (calls_among task planned + 1)
new_call planned caller task is =
    let same : caller ≡ task = eqb-true caller task is in
    rw is (ap (λ (t : ℕ). Some (calls_among t planned + 1)) same)

line_keeps : (planned : List PlannedAction) (number : ℕ) (command : CommandText) → AllCalls planned → AllCalls (with_planned planned number (action_asked planned command))
line_keeps planned number (Take (Submit task node object operation arg)) all =
    let p : PlannedAction = record { action = actions.Call task (calls_among task planned + 1) object operation arg; node = node; line = number } in
    chosen (list_any (λ (q : PlannedAction). same_action q.action p.action) planned) planned p all (λ (t : ℕ) is. new_call planned task t is)
line_keeps planned number (Take (Makes (Interrupt node source occurrence))) all =
    let p : PlannedAction = record { action = actions.Interrupt source occurrence; node = node; line = number } in
    chosen (list_any (λ (q : PlannedAction). same_action q.action p.action) planned) planned p all (λ (t : ℕ) is. absurd (cc))
line_keeps planned number (Take (Makes (Tick node now))) all =
    let p : PlannedAction = record { action = actions.Tick now; node = node; line = number } in
    chosen (list_any (λ (q : PlannedAction). same_action q.action p.action) planned) planned p all (λ (t : ℕ) is. absurd (cc))
line_keeps planned number _ all = all

calls_after : (planned : List PlannedAction) (script : List LineCommand) → AllCalls planned → AllCalls (planned_after planned script)
calls_after planned [] all = all
calls_after planned (line ∷ script) all = calls_after (with_line planned line) script (line_keeps planned line.number line.command all)

no_calls : AllCalls []
no_calls task number low high = absurd (omega arith)

-- ---- guards

fewer : (a b : Bool) (p : PlannedAction) (xs ys : List PlannedAction) → length xs ≤ length ys → length (if a && b then p ∷ xs else xs) ≤ length (if b then p ∷ ys else ys)
fewer true true p xs ys few = omega arith
fewer true false p xs ys few = few
fewer false true p xs ys few = omega arith
fewer false false p xs ys few = few

above_few : (line task : ℕ) (planned : List PlannedAction) → calls_above line task planned ≤ calls_among task planned
above_few line task [] = omega arith
above_few line task (p ∷ planned) = fewer (nat_lt p.line line) (is_call_of task p.action) p (filter (λ (q : PlannedAction). nat_lt q.line line && is_call_of task q.action) planned) (filter (λ (q : PlannedAction). is_call_of task q.action) planned) (above_few line task planned)

abbrev IsFor : List PlannedAction → Guard → Type 0
IsFor planned guard = (2 ≤ guard.number) × HasCall planned guard.task guard.number

neither : (a b : Bool) → (a || b) ≡ false → (a ≡ false) × (b ≡ false)
neither true b is = absurd (cc)
neither false b is = (refl, is)

unequal : (n m : ℕ) → nat_eq n m ≡ false → n ≢ m
unequal n m is same = absurd (cc (eq-eqb n m same))

placed_if : (test : Bool) (placed guard : Guard) → (unless UnknownWord test >>= (λ first. Ok placed)) ≡ Ok guard → (test ≡ false) × (placed ≡ guard)
placed_if true placed guard is = absurd (cc)
placed_if false placed guard is = (refl, cc)

guard_for : (planned : List PlannedAction) (line : GuardLine) (guard : Guard) → AllCalls planned → guard_of planned line ≡ Ok guard → IsFor planned guard
unfolding guard_of
guard_for planned line guard all is =
    let above = calls_above line.line line.task planned in
    let total = calls_among line.task planned in
    let placed : Guard = record { task = line.task; number = above + 1; reply = line.reply; is_wanted = line.is_wanted } in
    let good = placed_if (nat_eq above 0 || nat_eq above total) placed guard is in
    let apart = neither (nat_eq above 0) (nat_eq above total) good.0 in
    let some : above ≢ 0 = unequal above 0 apart.0 in
    let left : above ≢ total = unequal above total apart.1 in
    let few : above ≤ total = above_few line.line line.task planned in
    let call : HasCall planned line.task (above + 1) = all line.task (above + 1) (omega arith) (omega arith) in
    let low : 2 ≤ above + 1 = omega arith in
    subst (IsFor planned) good.1 (low, call)

line_ok : {X Y : Type 0} (number : ℕ) (read : Result X DeckReason) (next : X → Result Y BadLine) (y : Y) → on_line number read next ≡ Ok y → (x : X) × (read ≡ Ok x) × (next x ≡ Ok y)
line_ok number (Ok x) next y is = (x, refl, is)
line_ok number (Err reason) next y is = absurd (cc)

guards_for : (planned : List PlannedAction) (before : List Guard) (lines : List GuardLine) (guards : List Guard) → AllCalls planned → ((guard : Guard) → Has guard before → IsFor planned guard) → guards_of planned before lines ≡ Ok guards → (guard : Guard) → Has guard guards → IsFor planned guard
guards_for planned before [] guards all known is guard has =
    let same : before ≡ guards = cc in known guard (subst (λ (gs : List Guard). Has guard gs) (sym same) has)
guards_for planned before (line ∷ lines) guards all known is guard has =
    let placed = line_ok line.line (guard_of planned line) (λ (g : Guard). guards_of planned (before ++ g ∷ []) lines) guards is in
    guards_for planned (before ++ placed.0 ∷ []) lines guards all
    (λ g more. elim (has_split g before (placed.0 ∷ []) more) as (λ _. IsFor planned g) [
      | inl old ↦ known g old
      | inr new ↦ elim new as (λ _. IsFor planned g) [ inl same ↦ subst (IsFor planned) (sym same) (guard_for planned line placed.0 all placed.1) | inr none ↦ absurd none ]
    ]) placed.2 guard has

pub guards_are_for : (script : List LineCommand) (lines : List GuardLine) (guards : List Guard) → guards_of (planned_after [] script) [] lines ≡ Ok guards → (guard : Guard) → Has guard guards → IsFor (planned_after [] script) guard
guards_are_for script lines guards is guard has = guards_for (planned_after [] script) [] lines guards (calls_after [] script no_calls) (λ g none. absurd none) is guard has
