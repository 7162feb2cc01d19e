-- One object's protected action, as the program's.
use Rattle.std.proofs.Common.{◌≡◌, ◌<◌, ◌≤◌, ◌+◌, ◌-◌, ℕ, zero, suc, ℤ, List, [], ◌∷◌, ◌++◌, length, get_or, set, Option, Some, None, map, inl, inr, refl, sym, ◌∙◌, ap, subst, arith, length-append, length-set}
use Rattle.std.specs.Prelude.{slice_get, flat_map}
use Rattle.std.specs.List.{AllZip, AllByRecursion}
use Rattle.std.proofs.lemmas.List.{length-map, set-get_or}
use Rattle.std.proofs.lemmas.List.Elements.{recursion_from_All}
use Rattle.std.proofs.lemmas.Option.{slice_get_read}
use Rattle.rp_base.specs.Number.{IsTask}
use Rattle.rp_base.specs.Sets.{Has, IsSet}
use Rattle.rp_base.proofs.Members.{mapped_has, has_left, has_right}
use Rattle.rp_base.specs.declared.action.Action.TheVariants.{Call}
use Rattle.rp_base.specs.declared.action.Operation.{Operation}
use Rattle.rp_base.specs.declared.reply.Answer.{Answer}
use Rattle.rp_entry.specs.declared.operations.Operations.{Operations}
use Rattle.rp_entry.specs.declared.state.Waiting.{Waiting}
use Rattle.rp_entry.specs.declared.state.CallOutcome.{CallOutcome}
use Rattle.rp_entry.specs.declared.state.CallOutcome.TheVariants.{Reply, Waits}
use Rattle.rp_entry.specs.Operations.{of_index}
use Rattle.rp_entry.specs.Queue.{all_calls, tasks_waiting}
use Rattle.rp_entry.specs.Protected.{Protected}
use Rattle.rp_entry.specs.Actions.{Request, Acts, calls_entry, event}
use Rattle.rp_entry.specs.Results.{Acted}
use Rattle.rp_entry.specs.Accounting.{joins}
use Rattle.rp_entry.proofs.Permuting.{Perm, mapped_permuted, length_permuted, has_permuted, set_permuted, back}
use Rattle.rp_entry.proofs.Queues.{few_tasks}
use Rattle.rp_entry.proofs.Results.{acts_acted}
use Rattle.rp_machine.specs.Calls.{CallName, call_of, MayApply}
use Rattle.rp_object.specs.declared.program.ObjectDeclaration.{ObjectDeclaration}
use Rattle.rp_object.specs.declared.program.Declarations.{Declarations}
use Rattle.rp_object.specs.Program.{DeclarationFits}
use Rattle.rp_object.specs.State.{ProgramState, Running, call_name_of}
use Rattle.rp_object.specs.Step.{Result, object_acts, asks, with_object, called, own_answer, waiting_at, tasks_of}
use Rattle.rp_object.specs.Reached.{HaveQueues}
use Rattle.rp_object.specs.InMemory.{IsMade, AreObjects, tasks_at, waiting_count}
use Rattle.rp_object.proofs.MachineLaws.Queues.{acts_many}
use Rattle.rp_object.proofs.MachineLaws.Distinct.{set_right}
use Rattle.rp_object.proofs.MachineLaws.Accounting.{map_append, one_leaves, among, has_each, called_leaves}

-- ---- one object among the others

-- the object of a number is the one at its place
pub of_number : {X : Type 0} (xs : List X) (number : ℕ) (x : X) → 1 ≤ number → number ≤ length xs → x ≡ get_or xs (number - 1) x → of_index xs number ≡ Some x
of_number xs zero x some within read = absurd (omega (arith, some))
of_number xs (suc place) x some within read =
    let same : suc place - 1 ≡ place = omega arith in
    slice_get_read xs (length xs) place x refl (omega arith) (rw same at read)

-- what one object does is what the program does
pub asks_one : (state : ProgramState) (number : ℕ) (request : Request) (object new : Protected) (caller : Option CallOutcome) (replied : List Answer)
    → 1 ≤ number → number ≤ length state.objects → object ≡ get_or state.objects (number - 1) object
    → Acts object.operations object.state request caller replied new.state → new.operations ≡ object.operations
    → asks state number request ≡ record { caller = caller; replied = replied; after = record state { objects = set state.objects (number - 1) new } }
asks_one state number request object new caller replied some within read acts operations =
    let did = (acts_acted object.operations object.state request (record { caller = caller; replied = replied; after = new.state })).0 acts in
    ap (object_acts state number request) (of_number state.objects number object some within read)
    ∙ ap (λ (d : Acted). record { caller = d.caller; replied = d.replied; after = with_object state number (record object { state = d.after }) }) did
    ∙ ap (λ (o : Operations). record { caller = caller; replied = replied; after = with_object state number (record { operations = o; state = new.state }) }) (sym operations)

-- the same, as the code does it
pub asks_at : {held now : Running} → held ≡ now → {from number : ℕ} → from ≡ number → {asked request : Request} → asked ≡ request → (object new : Protected) (caller : Option CallOutcome) (replied : List Answer)
    → 1 ≤ number → number ≤ length now.state.objects → object ≡ get_or held.state.objects (from - 1) object
    → Acts object.operations object.state asked caller replied new.state → new.operations ≡ object.operations
    → asks now.state number request ≡ record { caller = caller; replied = replied; after = record held.state { objects = set held.state.objects (from - 1) new } }
asks_at {held} {now} is {from} {number} same {asked} {request} equal object new caller replied some within read acts operations =
    let place : from - 1 ≡ number - 1 = ap (λ (n : ℕ). n - 1) same in
    let there : number ≤ length held.state.objects = subst (λ (r : Running). number ≤ length r.state.objects) (sym is) within in
    let found : object ≡ get_or held.state.objects (number - 1) object = subst (λ (n : ℕ). object ≡ get_or held.state.objects n object) place read in
    let does = subst (λ (r : Request). Acts object.operations object.state r caller replied new.state) equal acts in
    ap (λ (r : Running). asks r.state number request) (sym is) ∙ asks_one held.state number request object new caller replied some there found does operations
    ∙ ap (λ (n : ℕ). record { caller = caller; replied = replied; after = record held.state { objects = set held.state.objects n new } }) (sym place)

-- the same of an action that leaves its object as it is
pub asks_still : {held now : Running} → held ≡ now → {from number : ℕ} → from ≡ number → {asked request : Request} → asked ≡ request → (object : Protected) (caller : Option CallOutcome) (replied : List Answer)
    → 1 ≤ number → number ≤ length now.state.objects → object ≡ get_or held.state.objects (from - 1) object
    → Acts object.operations object.state asked caller replied object.state
    → asks now.state number request ≡ record { caller = caller; replied = replied; after = now.state }
asks_still {held} {now} is {from} {number} same equal object caller replied some within read acts =
    asks_at is same equal object object caller replied some within read acts refl
    ∙ ap (λ (l : List Protected). record { caller = caller; replied = replied; after = record held.state { objects = l } }) (ap (set held.state.objects (from - 1)) read ∙ set-get_or held.state.objects (from - 1) object)
    ∙ ap (λ (r : Running). record { caller = caller; replied = replied; after = r.state }) is

-- ---- a task waits at one place at most

-- those that wait and a request's own call, if it is to wait, are of distinct tasks
pub record MayJoin (objects : List Protected) (request : Request) (caller : Option CallOutcome) : Type 0 where
  pub tasks : (task : ℕ) → Has task (tasks_of (map call_name_of (joins request caller) ++ flat_map waiting_at objects)) → IsTask task
  pub apart : IsSet (tasks_of (map call_name_of (joins request caller) ++ flat_map waiting_at objects))

-- each object has its queues
made_each : (declared : List ObjectDeclaration) (objects : List Protected) → AllByRecursion DeclarationFits declared → AllZip IsMade declared objects → HaveQueues objects
made_each [] [] fits made = tt
made_each [] (o ∷ objects) fits made = absurd made
made_each (d ∷ declared) [] fits made = absurd made
made_each (d ∷ declared) (o ∷ objects) fits made =
    (made.0.queues ∙ fits.0.entries ∙ ap (λ (p : Operations). length p.entries.items) (sym made.0.operations), made_each declared objects fits.1 made.1)

still_made : (declared : List ObjectDeclaration) (objects : List Protected) (place : ℕ) (object new : Protected) → AllZip IsMade declared objects → slice_get objects place ≡ Some object
    → new.operations ≡ object.operations → length new.state.queues ≡ length object.state.queues → AllZip IsMade declared (set objects place new)
still_made [] [] place object new made there operations queues = absurd (cc)
still_made [] (o ∷ objects) place object new made there operations queues = absurd made
still_made (d ∷ declared) [] place object new made there operations queues = absurd made
still_made (d ∷ declared) (o ∷ objects) zero object new made there operations queues =
    let is : o ≡ object = cc in (
      record {
        operations = operations ∙ ap (λ (p : Protected). p.operations) (sym is) ∙ made.0.operations;
        queues = queues ∙ ap (λ (p : Protected). length p.state.queues) (sym is) ∙ made.0.queues;
      },
      made.1,
    )
still_made (d ∷ declared) (o ∷ objects) (suc place) object new made there operations queues = (made.0, still_made declared objects place object new made.1 there operations queues)

module _ {program : Declarations} {timers : List (Option ℤ)} where
  -- nobody joins them
  pub nobody_joins : (objects : List Protected) (request : Request) (caller : Option CallOutcome) → AreObjects program objects timers → joins request caller ≡ [] → MayJoin objects request caller
  nobody_joins objects request caller held none =
      let all : tasks_of (flat_map waiting_at objects) ≡ tasks_of (map call_name_of (joins request caller) ++ flat_map waiting_at objects) = ap (λ (l : List Waiting). tasks_of (map call_name_of l ++ flat_map waiting_at objects)) (sym none) in
      record {
        tasks = λ task has. held.tasks task (subst (λ (l : List ℕ). Has task l) (sym all) has);
        apart = subst (λ (l : List ℕ). IsSet l) all held.apart;
      }

  -- a call of a task that waits nowhere may
  pub caller_joins : (objects : List Protected) (index : ℕ) (call : Waiting) (caller : Option CallOutcome) → AreObjects program objects timers → IsTask call.task → ¬ Has call.task (tasks_at objects) → MayJoin objects (calls_entry index call) caller
  caller_joins objects index call None held task free = nobody_joins objects (calls_entry index call) None held refl
  caller_joins objects index call (Some (Reply reply)) held task free = nobody_joins objects (calls_entry index call) (Some (Reply reply)) held refl
  caller_joins objects index call (Some Waits) held task free = record {
    tasks = λ other has. elim has [ inl is ↦ subst IsTask (sym is) task | inr was ↦ held.tasks other was ];
    apart = (free, held.apart);
  }

  pub objects_each : (objects : List Protected) → AreObjects program objects timers → HaveQueues objects
  objects_each objects held = made_each program.objects.items objects (recursion_from_All DeclarationFits program.objects.items held.right.objects) held.made

  module _ (objects : List Protected) (place : ℕ) (object new : Protected) (request : Request) (caller : Option CallOutcome) (replied : List Answer) (held : AreObjects program objects timers)
      (below : place < length objects) (read : object ≡ get_or objects place object) (acts : Acts object.operations object.state request caller replied new.state) where
    at_place : slice_get objects place ≡ Some object
    at_place = slice_get_read objects (length objects) place object refl below read

    -- those that wait, the one that joins them, those that are answered and those that wait after
    leaves : Perm (map call_name_of (joins request caller) ++ flat_map waiting_at objects) (map call_of replied ++ flat_map waiting_at (set objects place new))
    leaves = among objects place object new (map call_name_of (joins request caller)) (map call_of replied) at_place (one_leaves (has_each objects place object (objects_each objects held) at_place) acts)

    -- an action keeps what is held
    pub objects_after : new.operations ≡ object.operations → MayJoin objects request caller → AreObjects program (set objects place new) timers
    objects_after operations may =
        let task_of : CallName → ℕ = λ call. call.task in
        let answered = map call_of replied in
        let waiting = flat_map waiting_at (set objects place new) in
        let perm = mapped_permuted task_of leaves in
        let apart : tasks_of (answered ++ waiting) ≡ tasks_of answered ++ tasks_of waiting = map_append task_of answered waiting in
        record {
          right = held.right;
          all_objects = length-set objects place new ∙ held.all_objects;
          made = still_made program.objects.items objects place object new held.made at_place operations (acts_many acts);
          all_timers = held.all_timers;
          tasks = λ task has. may.tasks task (has_permuted task (back perm) (subst (λ (l : List ℕ). Has task l) (sym apart) (has_right task (tasks_of answered) (tasks_of waiting) has)));
          apart = set_right task_of answered waiting (set_permuted perm may.apart);
        }

    -- who is answered where nobody joins waited
    pub answered_count : joins request caller ≡ [] → length replied + waiting_count (set objects place new) ≡ waiting_count objects
    answered_count none =
        let waiting = flat_map waiting_at (set objects place new) in
        omega (arith, length_permuted leaves, ap (λ (l : List Waiting). length (map call_name_of l ++ flat_map waiting_at objects)) none, length-append (map call_of replied) waiting, length-map replied call_of)

  -- no more wait than there are tasks
  pub count_short : (objects : List Protected) → AreObjects program objects timers → waiting_count objects ≤ 8
  count_short objects held = omega (arith, few_tasks (tasks_at objects) held.apart held.tasks, length-map (flat_map waiting_at objects) (λ (call : CallName). call.task))

  -- a call of a task that waits nowhere has its own answer and those of others, no more than there are tasks
  pub few_answers : (state : ProgramState) (call : Waiting) (object : ℕ) (operation : Operation) (outcome : CallOutcome) (replied : List Answer) (after : ProgramState)
      → AreObjects program state.objects timers → IsTask call.task → ¬ Has call.task (tasks_at state.objects)
      → called program state call object operation ≡ record { caller = Some outcome; replied = replied; after = after }
      → length (own_answer (call_name_of call) (Some outcome)) + length replied ≤ 8
  few_answers state call object operation outcome replied after held task free does =
      let all = flat_map waiting_at state.objects in
      let own = own_answer (call_name_of call) (Some outcome) in
      let waiting = flat_map waiting_at after.objects in
      let perm : Perm (call_name_of call ∷ all) (map call_of (own ++ replied) ++ waiting) = subst (λ (r : Result). Perm (call_name_of call ∷ all) (map call_of (own_answer (call_name_of call) r.caller ++ r.replied) ++ flat_map waiting_at r.after.objects)) does
      (called_leaves program state (sym held.all_objects) (objects_each state.objects held) call object operation) in
      let inside : (other : ℕ) → Has other (call.task ∷ tasks_at state.objects) → IsTask other = λ other has. elim has [ inl is ↦ subst IsTask (sym is) task | inr was ↦ held.tasks other was ] in
      let few = few_tasks (call.task ∷ tasks_at state.objects) (free, held.apart) inside in
      omega (arith, few, length_permuted perm, length-append (map call_of (own ++ replied)) waiting, length-map (own ++ replied) call_of, length-append own replied, length-map all (λ (c : CallName). c.task))

-- no call of the action's own task waits
pub task_free : (waiting : List CallName) (task number object : ℕ) (operation : Operation) (arg : ℤ) → MayApply waiting (Call task number object operation arg) → ¬ Has task (tasks_of waiting)
task_free waiting task number object operation arg may has =
    let other = mapped_has (λ (call : CallName). call.task) task waiting has in
    may (record { task = task; number = number }) other.0 (inl refl) other.1 other.2

-- the place of an object that is there
pub place_below : {held now : Running} → held ≡ now → {from number : ℕ} → from ≡ number → 1 ≤ number → number ≤ length now.state.objects → from - 1 < length held.state.objects
place_below {held} {now} is {from} {number} same some within =
    let there : number ≤ length held.state.objects = subst (λ (r : Running). number ≤ length r.state.objects) (sym is) within in
    omega (arith, same, some, there)

-- who is answered at an event waited
pub events_count : {program : Declarations} {timers : List (Option ℤ)} {held now : Running} → held ≡ now → {place index : ℕ} → (object new : Protected) → {replied : List Answer} → AreObjects program held.state.objects timers → place < length held.state.objects → object ≡ get_or held.state.objects place object
    → Acts object.operations object.state (event index) None replied new.state
    → length replied + waiting_count (set held.state.objects place new) ≡ waiting_count now.state.objects
events_count {held = held} is {place} {index} object new {replied} holds below read acts =
    answered_count held.state.objects place object new (event index) None replied holds below read acts refl ∙ ap (λ (r : Running). waiting_count r.state.objects) is

-- ---- who waits at one object

tasks_named : (calls : List Waiting) → tasks_of (map call_name_of calls) ≡ map (λ (call : Waiting). call.task) calls
tasks_named [] = refl
tasks_named (call ∷ rest) = ap (λ (l : List ℕ). call.task ∷ l) (tasks_named rest)

-- a task that waits at an object waits at one of all
pub task_among : (objects : List Protected) (place : ℕ) (object : Protected) (task : ℕ) → place < length objects → object ≡ get_or objects place object → Has task (tasks_waiting object.state) → Has task (tasks_at objects)
task_among objects place object task below read has = among_them objects place (slice_get_read objects (length objects) place object refl below read) where
  among_them : (os : List Protected) (i : ℕ) → slice_get os i ≡ Some object → Has task (tasks_at os)
  among_them [] i there = absurd (cc)
  among_them (one ∷ rest) zero there =
      let is : one ≡ object = cc in
      let here : Has task (tasks_of (waiting_at one)) = subst (λ (l : List ℕ). Has task l) (sym (ap (λ (o : Protected). tasks_of (waiting_at o)) is ∙ tasks_named (all_calls object.state.queues))) has in
      subst (λ (l : List ℕ). Has task l) (sym (map_append (λ (call : CallName). call.task) (waiting_at one) (flat_map waiting_at rest))) (has_left task (tasks_of (waiting_at one)) (tasks_at rest) here)
  among_them (one ∷ rest) (suc i) there =
      subst (λ (l : List ℕ). Has task l) (sym (map_append (λ (call : CallName). call.task) (waiting_at one) (flat_map waiting_at rest))) (has_right task (tasks_of (waiting_at one)) (tasks_at rest) (among_them rest i there))
