-- Events that are due fire, the first of them first.
use Rattle.std.proofs.Common.{◌≡◌, ◌≤◌, ◌<◌, ◌+◌, ◌-◌, ◌⊎◌, ◌<ℤ◌, ◌≤ℤ◌, inl, inr, ℕ, suc, ℤ, pos}
use Rattle.std.proofs.Common.{true, List, [], ◌∷◌, ◌++◌, length, set, map, Option, Some, None, refl}
use Rattle.std.proofs.Common.{sym, ◌∙◌, ap}
use Rattle.std.proofs.Common.{subst, arith, append_assoc, append-nil}
use Rattle.std.proofs.Common.{zero, Bool, Vec, option_map, length-set}
use Rattle.std.specs.Prelude.{int_le, slice_get}
use Rattle.std.specs.declared.alloc.Global.{Global}
use Rattle.std.proofs.lemmas.Int.{ints, by_lt_z}
use Rattle.rp_base.specs.Sets.{Has}
use Rattle.rp_base.proofs.Members.{has_mapped}
use Rattle.rp_base.specs.declared.reply.Answer.{Answer}
use Rattle.rp_base.specs.declared.action.Operation.TheVariants.{Procedure}
use Rattle.rp_entry.specs.rp_body.specs.declared.statement.Stmt.{Stmt}
use Rattle.rp_entry.specs.declared.operations.Operations.{Operations}
use Rattle.rp_entry.specs.declared.state.CallOutcome.{CallOutcome}
use Rattle.rp_entry.specs.Operations.{of_index}
use Rattle.rp_entry.specs.Queue.{State}
use Rattle.rp_entry.specs.Protected.{Protected}
use Rattle.rp_entry.specs.Actions.{Acts, event}
use Rattle.rp_entry.specs.Results.{event_handled, acted}
use Rattle.rp_entry.proofs.Queues.{index_there}
use Rattle.rp_entry.proofs.Naming.{all_at}
use Rattle.rp_entry.proofs.Results.{is_acted}
use Rattle.rp_object.specs.declared.program.Handler.{Handler}
use Rattle.rp_object.specs.declared.program.TimingEvent.{TimingEvent}
use Rattle.rp_object.specs.declared.program.ObjectDeclaration.{ObjectDeclaration}
use Rattle.rp_object.specs.declared.program.Declarations.{Declarations}
use Rattle.rp_object.specs.Program.{operations_of, has_operation, is_some_and, is_handler}
use Rattle.rp_object.specs.Program.{timer_handler, IsProgram}
use Rattle.rp_object.specs.State.{ProgramState}
use Rattle.rp_object.specs.Timers.{Setting, due_from, sorted, due_events}
use Rattle.rp_object.specs.Step.{Result, object_acts, handled, fires, fire, with_timer}
use Rattle.rp_object.specs.Ticks.{IsDue, IsFirstDue, RunsHandler, Fires, ends, goes_on}
use Rattle.rp_object.proofs.Due.{due_exactly}
use Rattle.rp_object.proofs.Timing.{IsBefore, BeforeAll, IsBest, none_more, first_found}
use Rattle.rp_object.proofs.Timing.{still_none, earlier_found, later_kept, IsFirst, best_is_first}
use Rattle.rp_object.proofs.Clock.{handled_alone}

-- ---- the one that is due first

abbrev Found : ℕ → List (Option ℤ) → Type 0
Found clock timers = (next : Option (ℤ × ℕ)) × IsBest clock timers next

one_more : (clock : ℕ) (seen : List (Option ℤ)) (timer : Option ℤ) (next : Option (ℤ × ℕ))
    → IsBest clock seen next → Found clock (seen ++ timer ∷ [])
one_more clock seen None next best = (next, none_more clock seen next best)
one_more clock seen (Some time) None best =
    by_lt_z (pos clock) time
    (λ later. (None, still_none clock seen time best later))
    (λ due. (
      Some (time, length seen + 1),
      first_found clock seen time (length seen + 1) best due refl,
    ))
one_more clock seen (Some time) (Some was) best =
    by_lt_z time was.0
    (λ less. (
      Some (time, length seen + 1),
      earlier_found clock seen was time (length seen + 1) best less refl,
    ))
    (λ more. (Some was, later_kept clock seen was time best more))

all_more : (clock : ℕ) (seen timers : List (Option ℤ)) (next : Option (ℤ × ℕ))
    → IsBest clock seen next → Found clock (seen ++ timers)
all_more clock seen [] next best =
    (next, subst (λ (l : List (Option ℤ)). IsBest clock l next) (sym (append-nil seen)) best)
all_more clock seen (timer ∷ rest) next best =
    let one = one_more clock seen timer next best in
    subst (Found clock) (append_assoc seen (timer ∷ []) rest)
    (all_more clock (seen ++ timer ∷ []) rest one.0 one.1)

best_of : (clock : ℕ) (timers : List (Option ℤ)) → Found clock timers
best_of clock timers = all_more clock [] timers None refl

-- ---- which are due

reached : (time : ℤ) (clock : ℕ) → int_le time (pos clock) ≡ true → time ≤ℤ pos clock
reached time clock test = grind (arith, ints, test)

reaches : (time : ℤ) (clock : ℕ) → time ≤ℤ pos clock → int_le time (pos clock) ≡ true
reaches time clock le = grind (arith, ints, le)

due_listed : (state : ProgramState) (time : ℤ) (number : ℕ) → IsDue state time number
    → Has (time, number) (sorted (due_from state.clock 1 state.timers))
due_listed state time number due =
    (due_exactly state.clock state.timers time number).1
    (due.set, reaches time state.clock due.reached)

listed_due : (state : ProgramState) (time : ℤ) (number : ℕ)
    → Has (time, number) (sorted (due_from state.clock 1 state.timers))
    → IsDue state time number
listed_due state time number has =
    let both = (due_exactly state.clock state.timers time number).0 has in
    record { set = both.0; reached = reached time state.clock both.1 }

before_each : (s x : Setting) (xs : List Setting) → BeforeAll s xs → Has x xs → IsBefore s x
before_each s x [] all has = absurd has
before_each s x (y ∷ ys) all (inl is) = subst (IsBefore s) (sym is) all.0
before_each s x (y ∷ ys) all (inr later) = before_each s x ys all.1 later

is_no_later : (s x : Setting) → (x ≡ s) ⊎ IsBefore s x → (s.0 <ℤ x.0) ⊎ ((s.0 ≡ x.0) × (s.1 ≤ x.1))
is_no_later s x (inl is) =
    let number : s.1 ≡ x.1 = ap (λ (z : Setting). z.1) (sym is) in
    inr (ap (λ (z : Setting). z.0) (sym is), omega (arith, number))
is_no_later s x (inr (inl less)) = inl less
is_no_later s x (inr (inr (same, below))) = inr (same, omega (arith, below))

first_due : (state : ProgramState) (time : ℤ) (number : ℕ)
    → IsFirst state.clock state.timers time number → IsFirstDue state time number
first_due state time number is =
    let s : Setting = (time, number) in
    let others = sorted (due_from state.clock 1 (set state.timers (number - 1) None)) in
    record {
      due = listed_due state time number
          (subst (λ (l : List Setting). Has s l) (sym is.all) (inl refl));
      first = λ later other due.
          let has : Has (later, other) (s ∷ others) =
          subst (λ (l : List Setting). Has (later, other) l) is.all
          (due_listed state later other due) in
          is_no_later s (later, other)
          (elim has [
            | inl e ↦ inl e
            | inr h ↦ inr (before_each s (later, other) others is.before h)
          ]);
    }

-- ---- its handler runs

slice_there : {X : Type 0} (xs : List X) (place : ℕ) → place < length xs
    → (x : X) × (slice_get xs place ≡ Some x)
slice_there [] place below = absurd (omega (arith, below))
slice_there (x ∷ xs) zero below = (x, refl)
slice_there (x ∷ xs) (suc place) below = slice_there xs place (omega (arith, below))

index_within : {X : Type 0} (xs : List X) (index : ℕ) → 1 ≤ index → index ≤ length xs
    → (x : X) × (of_index xs index ≡ Some x)
index_within xs zero some within = absurd (omega (arith, some))
index_within xs (suc place) some within = slice_there xs place (omega (arith, within))

some_passes : {X : Type 0} (test : X → Bool) (found : Option X) → is_some_and test found ≡ true
    → (x : X) × (found ≡ Some x)
some_passes test None passes = absurd (cc)
some_passes test (Some x) passes = (x, refl)

-- no task asks for an event
no_caller : (operations : Operations) (before : State) (found : Option (Vec Stmt Global))
    → (event_handled operations found before).caller ≡ None
no_caller operations before None = refl
no_caller operations before (Some body) = refl

event_acts : (operations : Operations) (before : State) (index : ℕ)
    → (let did = acted operations before (event index) in
    Acts operations before (event index) None did.replied did.after)
event_acts operations before index =
    let did = acted operations before (event index) in
    let none = no_caller operations before (of_index operations.procedures.items index) in
    subst
    (λ (c : Option CallOutcome). Acts operations before (event index) c did.replied did.after)
    none (is_acted operations before (event index))

-- the handler that is declared runs at the object that is there
handler_runs : (program : Declarations) (number : ℕ) (before : ProgramState) (handler : Handler)
    (object : Protected)
    → timer_handler program number ≡ Some handler
    → of_index before.objects handler.object ≡ Some object
    → (let does = handled before (timer_handler program number) in
    RunsHandler program number before does.replied does.after)
handler_runs program number before handler object declared there =
    let request = event handler.procedure in
    let did = acted object.operations object.state request in
    let result = object_acts before handler.object request (Some object) in
    let does : result ≡ handled before (timer_handler program number) =
    sym (ap (handled before) declared ∙ ap (object_acts before handler.object request) there) in
    let runs : RunsHandler program number before result.replied result.after =
    record {
      handler = handler;
      object = object;
      state = did.after;
      declared = declared;
      there = there;
      action = event_acts object.operations object.state handler.procedure;
      follows = refl {a = result.after};
    } in
    subst (λ (r : Result). RunsHandler program number before r.replied r.after) does runs

-- the declared objects and timing events are there
pub record AreThere (program : Declarations) (state : ProgramState) : Type 0 where
  pub objects : length state.objects ≡ length program.objects.items
  pub timers : length state.timers ≡ length program.timers.items

module _ (program : Declarations) (right : IsProgram program) where
  fires_one : (before : ProgramState) (number : ℕ) (time : ℤ) → AreThere program before
      → of_index before.timers number ≡ Some (Some time)
      → RunsHandler program number (with_timer before number None)
      (fires program before number).replied (fires program before number).after
  fires_one before number time are set =
      let cleared = with_timer before number None in
      let within = index_there before.timers number (Some time) set in
      let timer =
      index_within program.timers.items number within.0 (omega (arith, within.1, are.timers)) in
      let handler : Handler = timer.0.handler in
      let declared : timer_handler program number ≡ Some handler =
      ap (λ (t : Option TimingEvent). option_map (λ (x : TimingEvent). x.handler) t) timer.1 in
      let handled_by : is_handler program handler ≡ true =
      all_at (λ (t : TimingEvent). is_handler program t.handler ≡ true) program.timers.items number
      timer.0 right.timers timer.1 in
      let owner =
      some_passes
      (λ (d : ObjectDeclaration). has_operation (Procedure handler.procedure) (operations_of d))
      (of_index program.objects.items handler.object) handled_by in
      let place = index_there program.objects.items handler.object owner.0 owner.1 in
      let object =
      index_within before.objects handler.object place.0 (omega (arith, place.1, are.objects)) in
      handler_runs program number cleared handler object.0 declared object.1

  -- what it does leaves them there
  still_there : {before after : ProgramState} {number : ℕ} {served : List Answer}
      → RunsHandler program number (with_timer before number None) served after
      → AreThere program before → AreThere program after
  still_there {before} {after} {number} {served} runs are =
      let changed = record runs.object { state = runs.state } in
      record {
        objects =
            ap (λ (s : ProgramState). length s.objects) runs.follows
            ∙ length-set before.objects (runs.handler.object - 1) changed ∙ are.objects;
        timers =
            ap (λ (s : ProgramState). length s.timers) runs.follows
            ∙ length-set before.timers (number - 1) None ∙ are.timers;
      }

  -- ---- one after another

  pub fire_fires : (numbers : List ℕ) (state : ProgramState) → AreThere program state
      → due_events state.clock state.timers ≡ numbers
      → Fires program state (fire program state numbers).replied (fire program state numbers).after
  fire_fires [] state are none =
      ends (λ time number due.
      let has : Has number (due_events state.clock state.timers) =
      has_mapped (λ (x : Setting). x.1) (time, number)
      (sorted (due_from state.clock 1 state.timers))
      (due_listed state time number due) in
      absurd (subst (λ (l : List ℕ). Has number l) none has))
  fire_fires (number ∷ rest) state are all =
      decide (best_of state.clock state.timers) (λ after. fire_fires rest after) where
        decide : Found state.clock state.timers
            → ((after : ProgramState) → AreThere program after
            → due_events after.clock after.timers ≡ rest
            → Fires program after (fire program after rest).replied (fire program after rest).after)
            → Fires program state (fire program state (number ∷ rest)).replied
            (fire program state (number ∷ rest)).after
        decide (None, none) others_fire =
            let no : due_events state.clock state.timers ≡ [] =
            ap (λ (l : List Setting). map (λ (x : Setting). x.1) (sorted l)) none in
            absurd (cc)
        decide (Some (time, which), best) others_fire =
            let is = best_is_first state.clock state.timers time which best in
            let listed : number ∷ rest
            ≡ which ∷ due_events state.clock (set state.timers (which - 1) None) =
            sym all ∙ ap (map (λ (x : Setting). x.1)) is.all in
            let same : which ≡ number = cc in
            let others : due_events state.clock (set state.timers (which - 1) None) ≡ rest = cc in
            let first = subst (λ n. IsFirstDue state time n) same (first_due state time which is) in
            let one = fires program state number in
            let alone =
            handled_alone (with_timer state number None) (timer_handler program number) in
            let left : due_events one.after.clock one.after.timers ≡ rest =
            ap (λ (s : ProgramState). due_events s.clock s.timers) alone
            ∙ ap (λ n. due_events state.clock (set state.timers (n - 1) None)) (sym same)
            ∙ others in
            let runs = fires_one state number time are first.due.set in
            goes_on first runs (others_fire one.after (still_there runs are) left)
