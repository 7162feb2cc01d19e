-- The results of a task's calls in the world.
use Rattle.std.proofs.Common.{◌≡◌, ℕ, suc, ◌+◌, ◌-◌, ◌^◌, ◌<◌, ◌≤◌, Bool, true, false, if◌then◌else◌, Option, Some, None, Result, Ok, Err, List, [], ◌∷◌, ◌++◌, length, slice_set, inl, inr, refl, sym, ap, subst, ◌∙◌, arith}
use Rattle.std.specs.Prelude.{ℤ, nat_le, nat_lt, not, ◌||◌, ◌&&◌, FitsSigned, IsErrAnd}
use Rattle.std.specs.Int.{w64}
use Rattle.std.proofs.lemmas.Bool.{and_parts, leb-true, leb-false, both_ways, lt-ltb, le-ltb}
use Rattle.std.proofs.lemmas.List.{append-nil}
use Rattle.rp_base.specs.Action.{IsRight, IsRightOperation, is_right_operation, is_right}
use Rattle.rp_base.specs.declared.action.Action.{Action}
use Rattle.rp_base.specs.declared.action.Action.TheVariants.{Call}
use Rattle.rp_base.specs.declared.action.Operation.{Operation}
use Rattle.rp_base.specs.declared.action.Operation.TheVariants.{Function, Procedure, Entry, SetTimer, CancelTimer}
use Rattle.rp_base.specs.declared.config.Config.{Config}
use Rattle.rp_base.specs.declared.fault.Fault.{Fault}
use Rattle.rp_base.specs.declared.fault.Fault.TheVariants.{OutOfMemory, BadConfig, NumbersSpent}
use Rattle.rp_codec.specs.Message.{Message, IsCallBy}
use Rattle.rp_model.specs.Answers.{Describes}
use Rattle.rp_model.specs.Effect.{Done, goes_on_as}
use Rattle.rp_model.specs.Parts.{TaskPart}
use Rattle.rp_model.specs.Tasks.{TaskInput, Submit, Again, asks, next_call, may_call, calls_if, asks_again, task_effect}
use Rattle.rp_model.specs.World.{World, Transition, part_at, with_part, task_done, task_done_if, task_takes}
use Rattle.rp_model.specs.declared.effect.Effect.{Effect}
use Rattle.rp_actors.specs.Callers.{Caller}
use Rattle.rp_actors.specs.Going.{Goes, Answers, call_meant}
use Rattle.rp_actors.specs.Steps.{ClusterState}
use Rattle.rp_replica.specs.rp_outbox.specs.Packets.{Sending}
use Rattle.rp_actors.proofs.Fields.{Fields, as_seen, cluster_with, first_seen, goes_to, now, world, world_with, made_of}
use Rattle.rp_actors.proofs.Lists.{part_same}
use Rattle.rp_actors.proofs.Moving.{task_here, number_here, tasks_moved}
use Rattle.rp_actors.proofs.Placing.{Found}
use Rattle.rp_actors.proofs.Reports.{at_err, describes_of, stated_count}

-- ---- what a task may call

-- the tests for a number, an operation and a call decide which are right
range : (low high n : ℕ) → (nat_le low n && nat_le n high) ≡ true → (low ≤ n) × (n ≤ high)
range low high n e = let both = and_parts _ _ e in (leb-true low n both.0, leb-true n high both.1)

operation_right : (operation : Operation) → is_right_operation operation ≡ true → IsRightOperation operation
operation_right (Function index) e = range 1 8 index e
operation_right (Procedure index) e = range 1 8 index e
operation_right (Entry index) e = range 1 4 index e
operation_right (SetTimer index) e = range 1 8 index e
operation_right (CancelTimer index) e = range 1 8 index e

call_right : (task number object : ℕ) (operation : Operation) (arg : ℤ) → number < 2 ^ 32 → FitsSigned w64 arg → is_right (Call task number object operation arg) ≡ true → IsRight (Call task number object operation arg)
call_right task number object operation arg small fits e =
    let last = and_parts _ _ e in
    let third = and_parts _ _ last.0 in
    let second = and_parts _ _ third.0 in
    (range 1 8 task second.0, (leb-true 1 number second.1, small), range 1 8 object third.1, operation_right operation last.1, fits)

-- what may be called is this call, and it is right
abbrev IsMadeIf : Action → Result Action Fault → Type 0
IsMadeIf call (Ok made) = (made ≡ call) × IsRight call
IsMadeIf call (Err fault) = Unit {0}

made_if : (call : Action) (b : Bool) (fault : Fault) (other : Result Action Fault) → (b ≡ false → IsMadeIf call other) → IsMadeIf call (if b then Err fault else other)
made_if call true fault other holds = tt
made_if call false fault other holds = holds refl

neither : (a b : Bool) → (a || not b) ≡ false → b ≡ true
neither true b e = absurd (both_ways true e refl)
neither false true e = refl
neither false false e = absurd (both_ways true e refl)

made : (config : Config) (task node : ℕ) (part : TaskPart) (object : ℕ) (operation : Operation) (arg : ℤ) (waiting : Option Action) → FitsSigned w64 arg
    → IsMadeIf (next_call task part object operation arg) (may_call config node part (next_call task part object operation arg) waiting)
made config task node part object operation arg (Some other) fits = tt
made config task node part object operation arg None fits =
    let call = next_call task part object operation arg in
    made_if call (nat_le (2 ^ 32 - 1) (length part.replies)) NumbersSpent _ (λ left.
    made_if call (nat_lt config.nodes node || not (is_right call)) BadConfig _ (λ allowed.
    let few : length part.replies < 2 ^ 32 - 1 = leb-false (2 ^ 32 - 1) (length part.replies) left in
    (refl, call_right task (suc (length part.replies)) object operation arg (omega (arith, few)) fits (neither (nat_lt config.nodes node) (is_right call) allowed))))

-- ---- the effects

-- no task may ask a node above the last
pub above : (config : Config) (w : World) (me node : ℕ) (o : Option TaskPart) → config.nodes < node → task_takes config w me (Again node) o ≡ Err BadConfig
above config w me node None over = refl
above config w me node (Some part) over =
    ap (λ (b : Bool). let r : Result (Done TaskPart) Fault = if b then Err BadConfig else Ok (asks_again me node part part.outstanding) in task_done_if w me r) (lt-ltb config.nodes node over)

module _ {S D P : Type 0} (f : Fields S D P) (at : Found f.tasks) where
  abbrev w : World
  w = world f

  abbrev whole : TaskInput → Result Transition Fault
  whole input = task_takes f.config w at.me input (part_at w.tasks at.me)

  abbrev effect : TaskInput → Result (Done TaskPart) Fault
  effect input = task_effect f.config at.me at.it.part input

  -- the same of the cluster that the caller saw
  abbrev seen : TaskInput → ClusterState P → Result Transition Fault
  seen input v = task_takes v.setup.config v.world at.me input (part_at v.world.tasks at.me)

  whole_is : (input : TaskInput) (result : Result (Done TaskPart) Fault) → effect input ≡ result → whole input ≡ task_done_if w at.me result
  whole_is input result is = ap (task_takes f.config w at.me input) (task_here f at) ∙ ap (task_done_if w at.me) is

  stays : (later : Sending) → later.sent ≡ f.messages.sent → world_with f f.nodes f.tasks later ≡ w
  stays later sent = ap (λ (ms : List Message). made_of w.nodes w.tasks ms) sent

  -- the input takes effect, and n messages are sent
  goes : (input : TaskInput) (done : Done TaskPart) (new : Caller) (later : Sending) {first : ℕ} {stated : Effect} (count : ℕ) → effect input ≡ Ok done → new.part ≡ done.part → later.sent ≡ f.messages.sent ++ done.sends
      → first ≡ length f.was.world.sent → stated ≡ stated_count (first + 1) count → Describes (length w.sent) (task_done w at.me done) (stated_count (length w.sent + 1) count)
      → Goes f.was (seen input f.was) (cluster_with f f.nodes (slice_set f.tasks at.place new) later) stated
  goes input done new later {stated = stated} count resulted part sent first_is is describes =
      as_seen f (λ v. Goes v (seen input v) (cluster_with f f.nodes (slice_set f.tasks at.place new) later) stated)
      (record {
        transition = task_done w at.me done;
        resulted = whole_is input (Ok done) resulted;
        goes = goes_to f f.nodes (slice_set f.tasks at.place new) later
            (ap (λ (ps : List TaskPart). made_of w.nodes ps later.sent) (tasks_moved f at new ∙ ap (with_part w.tasks at.me) part)
            ∙ ap (λ (ms : List Message). made_of w.nodes (with_part w.tasks at.me done.part) ms) sent)
            refl;
        describes = describes_of (is ∙ ap (λ (k : ℕ). stated_count (k + 1) count) (first_seen f first_is)) describes;
      })

  -- it is refused
  refused : (input : TaskInput) (fault : Fault) (r : Result Effect Fault) → effect input ≡ Err fault → IsErrAnd r (λ e. e ≡ fault) → Answers (now f) (call_meant (whole input)) (now f) r
  refused input fault r resulted is =
      at_err (λ x. Answers (now f) (call_meant (whole input)) (now f) x) fault r is (inl (record { resulted = whole_is input (Err fault) resulted; unchanged = refl }))

  -- memory runs out for it
  runs_out : (input : TaskInput) (done : Done TaskPart) (later : Sending) (r : Result Effect Fault) → effect input ≡ Ok done → later.sent ≡ f.messages.sent → IsErrAnd r (λ e. e ≡ OutOfMemory)
      → Answers f.was (call_meant (seen input f.was)) (cluster_with f f.nodes f.tasks later) r
  runs_out input done later r resulted sent is =
      as_seen f (λ v. Answers v (call_meant (seen input v)) (cluster_with f f.nodes f.tasks later) r)
      (at_err (λ x. Answers (now f) (call_meant (whole input)) (cluster_with f f.nodes f.tasks later) x) OutOfMemory r is
      (inr (inl (record { memory = refl; intended = task_done w at.me done; resulted = whole_is input (Ok done) resulted; unchanged = goes_to f f.nodes f.tasks later (stays later sent) refl }))))

  -- the task is at its place
  to_same : (Q : List Caller → Type 0) → Q f.tasks → Q (slice_set f.tasks at.place at.it)
  to_same Q q = subst Q (sym (part_same f.tasks at.place at.it at.here)) q

  from_same : (Q : List Caller → Type 0) → Q (slice_set f.tasks at.place at.it) → Q f.tasks
  from_same Q q = subst Q (part_same f.tasks at.place at.it at.here) q

-- ---- a call

-- the call that a task is to make, the number that was read for its argument, and what the task answered
pub record Asks (config : Config) (t : Caller) : Type 0 where
  pub node : ℕ
  pub object : ℕ
  pub operation : Operation
  pub arg : ℤ
  pub read : ℤ
  pub fits : FitsSigned w64 arg
  pub is_read : read ≡ arg
  pub answer : Result Action Fault
  pub answered : answer ≡ may_call config node t.part (next_call t.task t.part object operation read) t.part.outstanding

abbrev pub asks_of : (config : Config) (t : Caller) (node object : ℕ) (operation : Operation) {arg read : ℤ} {answer : Result Action Fault} → (FitsSigned w64 arg → read ≡ arg) → FitsSigned w64 arg
    → answer ≡ may_call config node t.part (next_call t.task t.part object operation read) t.part.outstanding → Asks config t
asks_of config t node object operation {arg = arg} {read = read} {answer = answer} is_read fits answered =
    record { node = node; object = object; operation = operation; arg = arg; read = read; fits = fits; is_read = is_read fits; answer = answer; answered = answered }

module _ {S D P : Type 0} (f : Fields S D P) (at : Found f.tasks) (asked : Asks f.config at.it) where
  abbrev next : Action
  next = next_call at.it.task at.it.part asked.object asked.operation asked.arg

  may_is : (r : Result Action Fault) → asked.answer ≡ r → may_call f.config asked.node at.it.part next at.it.part.outstanding ≡ r
  may_is r is_so =
      ap (λ (x : ℤ). may_call f.config asked.node at.it.part (next_call at.it.task at.it.part asked.object asked.operation x) at.it.part.outstanding) (sym asked.is_read) ∙ sym asked.answered ∙ is_so

  abbrev input : TaskInput
  input = Submit asked.node asked.object asked.operation asked.arg

  effect_is : (r : Result Action Fault) → asked.answer ≡ r → effect f at input ≡ calls_if at.me asked.node at.it.part r
  effect_is r is_so =
      ap (calls_if at.me asked.node at.it.part)
      (subst (λ (k : ℕ). may_call f.config asked.node at.it.part (next_call k at.it.part asked.object asked.operation asked.arg) at.it.part.outstanding ≡ r) (number_here f at) (may_is r is_so))

  pub may_not : (fault : Fault) (r : Result Effect Fault) → asked.answer ≡ Err fault → IsErrAnd r (λ e. e ≡ fault)
      → Answers f.was (call_meant (seen f at input f.was)) (cluster_with f f.nodes (slice_set f.tasks at.place at.it) f.messages) r
  may_not fault r is_so is =
      as_seen f (λ v. Answers v (call_meant (seen f at input v)) (cluster_with f f.nodes (slice_set f.tasks at.place at.it) f.messages) r)
      (to_same f at (λ ts. Answers (now f) (call_meant (whole f at input)) (cluster_with f f.nodes ts f.messages) r) (refused f at input fault r (effect_is (Err fault) is_so) is))

  module _ {call : Action} (is_so : asked.answer ≡ Ok call) where
    made_so : (call ≡ next) × IsRight next
    made_so = subst (IsMadeIf next) (may_is (Ok call) is_so) (made f.config at.it.task asked.node at.it.part asked.object asked.operation asked.arg at.it.part.outstanding asked.fits)

    pub call_own : IsCallBy at.me call
    call_own = subst (IsCallBy at.me) (sym made_so.0) (number_here f at)

    pub call_is_right : IsRight call
    call_is_right = subst IsRight (sym made_so.0) made_so.1

    abbrev done : Done TaskPart
    done = record (goes_on_as (record at.it.part { outstanding = Some call })) { sends = asks at.me asked.node call ∷ [] }

    pub call_runs_out : (later : Sending) (r : Result Effect Fault) → later.sent ≡ f.messages.sent → IsErrAnd r (λ e. e ≡ OutOfMemory)
        → Answers f.was (call_meant (seen f at input f.was)) (cluster_with f f.nodes (slice_set f.tasks at.place at.it) later) r
    call_runs_out later r sent is =
        to_same f at (λ ts. Answers f.was (call_meant (seen f at input f.was)) (cluster_with f f.nodes ts later) r) (runs_out f at input done later r (effect_is (Ok call) is_so) sent is)

    pub called : (new : Caller) (later : Sending) {first : ℕ} {stated : Effect} → new.part ≡ record at.it.part { outstanding = Some (next_call at.it.task at.it.part asked.object asked.operation asked.read) }
        → later.sent ≡ f.messages.sent ++ asks at.me asked.node call ∷ [] → first ≡ length f.was.world.sent → stated ≡ stated_count (first + 1) 1
        → Goes f.was (seen f at input f.was) (cluster_with f f.nodes (slice_set f.tasks at.place new) later) stated
    called new later part sent first_is is =
        let calls : next_call at.it.task at.it.part asked.object asked.operation asked.read ≡ call = ap (next_call at.it.task at.it.part asked.object asked.operation) asked.is_read ∙ sym made_so.0 in
        goes f at input done new later 1 (effect_is (Ok call) is_so) (part ∙ ap (λ (c : Action). let p : TaskPart = record at.it.part { outstanding = Some c } in p) calls) sent first_is is
        (record { first = refl; count = refl; dropped = refl; taken = refl; opened = refl })

-- ---- a call asked for again

module _ {S D P : Type 0} (f : Fields S D P) (at : Found f.tasks) {node : ℕ} (within : node ≤ f.config.nodes) where
  again_is : (o : Option Action) → at.it.part.outstanding ≡ o → effect f at (Again node) ≡ Ok (asks_again at.me node at.it.part o)
  again_is o is =
      ap (λ (b : Bool). let r : Result (Done TaskPart) Fault = if b then Err BadConfig else Ok (asks_again at.me node at.it.part at.it.part.outstanding) in r) (le-ltb f.config.nodes node within)
      ∙ ap (λ (p : Option Action). let r : Result (Done TaskPart) Fault = Ok (asks_again at.me node at.it.part p) in r) is

  pub asks_nothing : at.it.part.outstanding ≡ None → {first : ℕ} {stated : Effect} → first ≡ length f.was.world.sent → stated ≡ stated_count (first + 1) 0
      → Goes f.was (seen f at (Again node) f.was) f.was stated
  asks_nothing none {stated = stated} first_is is =
      subst (λ (x : ClusterState P). Goes f.was (seen f at (Again node) f.was) x stated) f.view_is
      (from_same f at (λ ts. Goes f.was (seen f at (Again node) f.was) (cluster_with f f.nodes ts f.messages) stated)
      (goes f at (Again node) (goes_on_as at.it.part) at.it f.messages 0 (again_is None none) refl (sym (append-nil f.messages.sent)) first_is is
      (record { first = refl; count = refl; dropped = refl; taken = refl; opened = refl })))

  module _ {call : Action} (waits : at.it.part.outstanding ≡ Some call) where
    pub again_runs_out : (later : Sending) (r : Result Effect Fault) → later.sent ≡ f.messages.sent → IsErrAnd r (λ e. e ≡ OutOfMemory)
        → Answers f.was (call_meant (seen f at (Again node) f.was)) (cluster_with f f.nodes f.tasks later) r
    again_runs_out later r sent is = runs_out f at (Again node) (asks_again at.me node at.it.part (Some call)) later r (again_is (Some call) waits) sent is

    pub asks_more : (later : Sending) {first : ℕ} {stated : Effect} → later.sent ≡ f.messages.sent ++ asks at.me node call ∷ [] → first ≡ length f.was.world.sent → stated ≡ stated_count (first + 1) 1
        → Goes f.was (seen f at (Again node) f.was) (cluster_with f f.nodes f.tasks later) stated
    asks_more later {stated = stated} sent first_is is =
        from_same f at (λ ts. Goes f.was (seen f at (Again node) f.was) (cluster_with f f.nodes ts later) stated)
        (goes f at (Again node) (asks_again at.me node at.it.part (Some call)) at.it later 1 (again_is (Some call) waits) refl sent first_is is
        (record { first = refl; count = refl; dropped = refl; taken = refl; opened = refl }))
