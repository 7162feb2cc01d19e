-- What the effects of the events of a right deck keep, and what they are refused by.
use Rattle.std.proofs.Common.{length-set, ◌≡◌, ℕ, zero, suc, ◌+◌, ◌-◌, ◌<◌, ◌≤◌, ◌^◌, Bool, true, false, not, cond, ◌&&◌, ◌||◌, ℤ, Result, Ok, Err, Option, Some, None, List, [], ◌∷◌, length, arith, refl, ap, subst, ◌∙◌, sym}
use Rattle.std.specs.Prelude.{slice_get, nat_lt, nat_le}
use Rattle.std.proofs.lemmas.Bool.{le-leb}
use Rattle.std.proofs.lemmas.Bool.Decides.{nat_tests}
use Rattle.rp_base.specs.Number.{in_range}
use Rattle.rp_base.specs.Action.{IsRightOperation, is_right, is_right_operation}
use Rattle.rp_base.specs.Fault.{code_of}
use Rattle.rp_base.specs.declared.action.Action.{Action}
use Rattle.rp_base.specs.declared.action.Operation.{Operation}
use Rattle.rp_base.specs.declared.action.Operation.TheVariants.{Function, Procedure, Entry, SetTimer, CancelTimer}
use Rattle.rp_base.specs.declared.config.Config.{Config}
use Rattle.rp_base.specs.declared.fault.Fault.{Fault}
use Rattle.rp_base.specs.declared.fault.Fault.TheVariants.{LogFull, TaskBusy, NumbersSpent, BadConfig}
use Rattle.rp_model.specs.rp_codec.specs.Message.{Message}
use Rattle.rp_model.specs.rp_codec.specs.declared.packet.Party.{Party}
use Rattle.rp_model.specs.rp_codec.specs.declared.packet.Party.TheVariants.{Node, Task, Audit}
use Rattle.rp_model.specs.declared.event.Event.{Event}
use Rattle.rp_model.specs.declared.event.Event.TheVariants.{Submit, Again, Node as NodeStep, Cut, Stop, Restart}
use Rattle.rp_model.specs.declared.event.Step.{Step}
use Rattle.rp_model.specs.declared.event.Step.TheVariants.{Deliver, Lead, LeadRange, Interrupt, Tick, Report, Ask}
use Rattle.rp_model.specs.Parts.{NodePart}
use Rattle.rp_model.specs.Parts.{Running}
use Rattle.rp_model.specs.Parts.{TaskPart}
use Rattle.rp_model.specs.Effect as nodes
use Rattle.rp_model.specs.Effect.{Setting, Done, NodeInput, turn_done, turn_done_if, effect_while, node_effect, cut_if, cut_effect, stops_while, restart_while, goes_on_as, stop_part, cut_part}
use Rattle.rp_model.specs.Tasks as tasks
use Rattle.rp_model.specs.Tasks.{next_call, may_call, calls_if, asks_again, task_hears}
use Rattle.rp_model.specs.Events.{event_of, step_of}
use Rattle.rp_model.specs.World.{World, Transition, part_at, with_part, nothing_happens, node_done, task_done, node_done_if, task_done_if, task_takes, stops, restarts, step_effect, cut_step, event_effect, Chosen, NodeTakes, LostFor, commanded, reaches_node, reaches_number, reaches_task, reaches, delivers, chosen, chosen_effect, chosen_cut}
use Rattle.rp_deck.specs.Script.{IsUpTo, IsStepWithin, IsEventWithin}
use Rattle.rp_base.specs.Ranges.{Range}
use Rattle.rp_model.specs.Effect.{plan_of, turn_if}
use Rattle.rp_model.specs.Node.{RunningNode, running_node}
use Rattle.rp_model.specs.declared.plan.Plan.{Plan}
use Rattle.rp_model.proofs.EveryPlan.{plan_refused}
use Rattle.std.specs.Prelude.{IfErr}

-- the number is one of those by which a script's step is refused
abbrev pub IsNumbered : Fault → Type 0
IsNumbered fault = (5 ≤ code_of fault) × (code_of fault ≤ 10)

-- nodes and tasks neither come nor go, and a refusal has one of these numbers
abbrev pub Keeps : World → Result Transition Fault → Type 0
Keeps w (Ok transition) = (length transition.world.nodes ≡ length w.nodes) × (length transition.world.tasks ≡ length w.tasks)
Keeps w (Err fault) = IsNumbered fault

-- there is a part of each number from 1 to the number of parts
pub part_there : {A : Type 0} (parts : List A) (place : ℕ) → 1 ≤ place → place ≤ length parts → (part : A) × (part_at parts place ≡ Some part)
part_there parts zero one within = absurd (omega arith)
part_there parts (suc place) one within = at parts place (omega arith)
  where
    at : {A : Type 0} (xs : List A) (i : ℕ) → i < length xs → (part : A) × (slice_get xs i ≡ Some part)
    at [] i below = absurd (omega arith)
    at (x ∷ xs) zero below = (x, refl)
    at (x ∷ xs) (suc i) below = at xs i (omega arith)

-- ---- a call

operation_is_right : (operation : Operation) → IsRightOperation operation → is_right_operation operation ≡ true
operation_is_right (Function index) right = grind (arith, nat_tests)
operation_is_right (Procedure index) right = grind (arith, nat_tests)
operation_is_right (Entry index) right = grind (arith, nat_tests)
operation_is_right (SetTimer index) right = grind (arith, nat_tests)
operation_is_right (CancelTimer index) right = grind (arith, nat_tests)

in_range_is : (n : ℕ) → 1 ≤ n → n ≤ 8 → in_range 1 8 n ≡ true
in_range_is n low high = ap (λ (b : Bool). b && nat_le n 8) (le-leb 1 n low) ∙ le-leb n 8 high

call_is_right : (task object : ℕ) (part : TaskPart) (operation : Operation) (arg : ℤ) → 1 ≤ task → task ≤ 8 → 1 ≤ object → object ≤ 8 → IsRightOperation operation
    → is_right (next_call task part object operation arg) ≡ true
call_is_right task object part operation arg one most first last right =
    let tasks = in_range_is task one most in
    let numbers = le-leb 1 (suc (length part.replies)) (omega arith) in
    let objects = in_range_is object first last in
    let operations = operation_is_right operation right in
    cc

test_of_node : (nodes node : ℕ) → node ≤ nodes → nat_lt nodes node ≡ false
test_of_node nodes node within = grind (arith, nat_tests)

length_with : {A : Type 0} (parts : List A) (me : ℕ) (part : A) → length (with_part parts me part) ≡ length parts
length_with {A = A} parts zero part = refl
length_with {A = A} parts (suc i) part = length-set parts i part

node_keeps : (w : World) (me : ℕ) (done : Done NodePart) → Keeps w (Ok (node_done w me done))
node_keeps w me done = (length_with w.nodes me done.part, refl)

task_keeps : (w : World) (task : ℕ) (done : Done TaskPart) → Keeps w (Ok (task_done w task done))
task_keeps w task done = (refl, length_with w.tasks task done.part)

-- the result of a call
call_keeps : (w : World) (task node : ℕ) (part : TaskPart) (call : Result Action Fault) → ((fault : Fault) → call ≡ Err fault → IsNumbered fault)
    → Keeps w (task_done_if w task (calls_if task node part call))
call_keeps w task node part (Err fault) numbered = numbered fault refl
call_keeps w task node part (Ok call) numbered = (refl, length_with w.tasks task (record part { outstanding = Some call }))

may_by : (skipped beyond : Bool) (call : Action) (fault : Fault) → beyond ≡ false → cond skipped (Err NumbersSpent) (cond beyond (Err BadConfig) (Ok call)) ≡ Err fault → IsNumbered fault
may_by true beyond call fault right is = let same : NumbersSpent ≡ fault = cc in subst IsNumbered same (omega arith, omega arith)
may_by false true call fault right is = absurd (cc)
may_by false false call fault right is = absurd (cc)

may_numbered : (config : Config) (node : ℕ) (part : TaskPart) (call : Action) (outstanding : Option Action) (fault : Fault) → node ≤ config.nodes → is_right call ≡ true
    → may_call config node part call outstanding ≡ Err fault → IsNumbered fault
may_numbered config node part call (Some waits) fault within right is = let same : TaskBusy ≡ fault = cc in subst IsNumbered same (omega arith, omega arith)
may_numbered config node part call None fault within right is =
    may_by (nat_le (2 ^ 32 - 1) (length part.replies)) (nat_lt config.nodes node || not (is_right call)) call fault
    (ap (λ (b : Bool). b || not (is_right call)) (test_of_node config.nodes node within) ∙ ap not right) is

submit_keeps : (config : Config) (w : World) (task node object : ℕ) (operation : Operation) (arg : ℤ) (part : Option TaskPart)
    → 1 ≤ task → task ≤ 8 → node ≤ config.nodes → 1 ≤ object → object ≤ 8 → IsRightOperation operation → (found : TaskPart) → part ≡ Some found
    → Keeps w (task_takes config w task (tasks.Submit node object operation arg) part)
submit_keeps config w task node object operation arg None one most within first last right found there = absurd (cc)
submit_keeps config w task node object operation arg (Some part) one most within first last right found there =
    let call = next_call task part object operation arg in
    call_keeps w task node part (may_call config node part call part.outstanding)
    (λ fault is. may_numbered config node part call part.outstanding fault within (call_is_right task object part operation arg one most first last right) is)

again_by : (config : Config) (w : World) (task node : ℕ) (part : TaskPart) (beyond : Bool) → beyond ≡ false
    → Keeps w (task_done_if w task (cond beyond (Err BadConfig) (Ok (asks_again task node part part.outstanding))))
again_by config w task node part true right = absurd (cc)
again_by config w task node part false right = task_keeps w task (asks_again task node part part.outstanding)

again_keeps : (config : Config) (w : World) (task node : ℕ) (part : Option TaskPart) → node ≤ config.nodes → (found : TaskPart) → part ≡ Some found
    → Keeps w (task_takes config w task (tasks.Again node) part)
again_keeps config w task node None within found there = absurd (cc)
again_keeps config w task node (Some part) within found there = again_by config w task node part (nat_lt config.nodes node) (test_of_node config.nodes node within)

-- ---- a node's input

-- the result, or a refusal of such a number
abbrev pub IsAllowed : Result (Done NodePart) Fault → Type 0
IsAllowed (Ok done) = Unit {0}
IsAllowed (Err fault) = IsNumbered fault

allowed_keeps : (w : World) (me : ℕ) (answer : Result (Done NodePart) Fault) → IsAllowed answer → Keeps w (node_done_if w me answer)
allowed_keeps w me (Ok done) allowed = node_keeps w me done
allowed_keeps w me (Err fault) allowed = allowed

cut_allowed : (kept : ℕ) (part : NodePart) (answer : Result (Done NodePart) Fault) → IsAllowed answer → IsAllowed (cut_if kept part answer)
cut_allowed kept part (Ok done) allowed = tt
cut_allowed kept part (Err fault) allowed = allowed

-- a range to lead at has 1 to 64 positions, and nobody is to be asked
abbrev pub HasCount : NodeInput → Type 0
HasCount (nodes.LeadRange first count) = IsUpTo 64 count
HasCount (nodes.Ask to) = ⊥
HasCount _ = Unit {0}

module _ {S : Type 0} (s : Setting S) where
  turned_allowed : (part : NodePart) (node : RunningNode S) (found : Result Plan Fault) → IfErr found IsNumbered → IsAllowed (turn_done_if part (turn_if node found))
  turned_allowed part node (Ok plan) is = tt
  turned_allowed part node (Err fault) is = is

  range_found : (wrong over : Bool) (range : Range) → wrong ≡ false → IfErr (let r : Result Range Fault = cond wrong (Err BadConfig) (cond over (Err LogFull) (Ok range)) in r) IsNumbered
  range_found true over range counted = absurd (cc)
  range_found false true range counted = (omega arith, omega arith)
  range_found false false range counted = tt

  count_right : (count : ℕ) → IsUpTo 64 count → not (in_range 1 64 count) ≡ false
  count_right count few =
      ap (λ (t : Bool). not (t && nat_le count 64)) (le-leb 1 count few.0) ∙ ap not (le-leb count 64 few.1)

  running_allowed : (me : ℕ) (part : NodePart) (input : NodeInput) (running : Running) → HasCount input → IsAllowed (effect_while s me part input (Some running))
  running_allowed me part input running counted =
      let node = running_node s me part.records running in
      turned_allowed part node (plan_of node input) (plan_refused node input IsNumbered (omega arith, omega arith) (omega arith, omega arith) (λ to is. absurd (subst HasCount is counted)) (λ first count is.
      range_found (not (in_range 1 64 count)) (nat_lt (2 ^ 16) (first + count)) (record { first = first; count = count }) (count_right count (subst HasCount is counted))))

  input_allowed : (me : ℕ) (part : NodePart) (input : NodeInput) (running : Option Running) → HasCount input → IsAllowed (effect_while s me part input running)
  input_allowed me part input None counted = (omega arith, omega arith)
  input_allowed me part input (Some running) counted = running_allowed me part input running counted

  -- ---- a message

  nothing_keeps : (w : World) → Keeps w (Ok (nothing_happens w))
  nothing_keeps w = (refl, refl)

  -- what is chosen, whole and cut
  abbrev KeepsChosen : World → Chosen → Type 0
  KeepsChosen w c = Keeps w (chosen_effect s w c) × ((kept : ℕ) → Keeps w (chosen_cut s w kept c))

  node_chosen_keeps : (w : World) (me : ℕ) (part : NodePart) (input : NodeInput) → HasCount input → KeepsChosen w (NodeTakes me part input)
  node_chosen_keeps w me part input counted =
      let allowed = input_allowed me part input part.running counted in
      (allowed_keeps w me _ allowed, λ kept. allowed_keeps w me _ (cut_allowed kept part _ allowed))

  lost_keeps : (w : World) (whom : Option ℕ) → KeepsChosen w (LostFor whom)
  lost_keeps w whom = (nothing_keeps w, λ kept. (omega arith, omega arith))

  hears_keep : (w : World) (me : ℕ) (message : Message) (part : NodePart) (running : Option Running) → KeepsChosen w (reaches_node me message part running)
  hears_keep w me message part None = lost_keeps w (Some me)
  hears_keep w me message part (Some running) = node_chosen_keeps w me part (nodes.Receive message) tt

  received_keeps : (w : World) (me : ℕ) (message : Message) (part : Option NodePart) → KeepsChosen w (reaches_number me message part)
  received_keeps w me message None = lost_keeps w (Some me)
  received_keeps w me message (Some part) = hears_keep w me message part part.running

  task_received_keeps : (w : World) (task : ℕ) (message : Message) (part : Option TaskPart) → KeepsChosen w (reaches_task task message part)
  task_received_keeps w task message None = lost_keeps w None
  task_received_keeps w task message (Some part) = (task_keeps w task (task_hears task part message.body), λ kept. (omega arith, omega arith))

  arrival_keeps : (w : World) (message : Message) (party : Party) → KeepsChosen w (reaches w message party)
  arrival_keeps w message (Node me) = received_keeps w me message (part_at w.nodes me)
  arrival_keeps w message (Task task) = task_received_keeps w task message (part_at w.tasks task)
  arrival_keeps w message Audit = lost_keeps w None

  delivery_keeps : (w : World) (message : Option Message) → KeepsChosen w (delivers w message)
  delivery_keeps w None = ((omega arith, omega arith), λ kept. (omega arith, omega arith))
  delivery_keeps w (Some message) = arrival_keeps w message message.to

  -- a command to a node that there is
  commanded_keeps : (w : World) (me : ℕ) (input : NodeInput) → length w.nodes ≡ s.config.nodes → IsUpTo s.config.nodes me → HasCount input → KeepsChosen w (commanded me input (part_at w.nodes me))
  commanded_keeps w me input many fits counted =
      let there = part_there w.nodes me fits.0 (omega (arith, fits.1, many)) in
      subst (λ (o : Option NodePart). KeepsChosen w (commanded me input o)) (sym there.1) (node_chosen_keeps w me there.0 input counted)

  -- ---- a step, whole or cut

  chosen_keeps : (w : World) (step : Step) → length w.nodes ≡ s.config.nodes → IsStepWithin s.config.nodes step → KeepsChosen w (chosen w (step_of step))
  chosen_keeps w (Deliver message) many fits = delivery_keeps w (part_at w.sent message)
  chosen_keeps w (Lead node position) many fits = commanded_keeps w node (nodes.Lead position) many fits tt
  chosen_keeps w (LeadRange node first count) many fits = commanded_keeps w node (nodes.LeadRange first count) many fits.0 fits.1
  chosen_keeps w (Interrupt node interrupt) many fits = commanded_keeps w node (nodes.Interrupt interrupt.source interrupt.occurrence) many fits tt
  chosen_keeps w (Tick node now) many fits = commanded_keeps w node (nodes.Tick now) many fits tt
  chosen_keeps w (Report node first) many fits = commanded_keeps w node (nodes.Report first) many fits tt
  chosen_keeps w (Ask node to) many fits = absurd fits

  step_keeps : (w : World) (step : Step) → length w.nodes ≡ s.config.nodes → IsStepWithin s.config.nodes step → Keeps w (step_effect s w (step_of step))
  step_keeps w step many fits = (chosen_keeps w step many fits).0

  cut_step_keeps : (w : World) (step : Step) (kept : ℕ) → length w.nodes ≡ s.config.nodes → IsStepWithin s.config.nodes step → Keeps w (cut_step s w (step_of step) kept)
  cut_step_keeps w step kept many fits = (chosen_keeps w step many fits).1 kept

  -- ---- stops and restarts

  stop_by : (w : World) (me : ℕ) (part : NodePart) (running : Option Running) → Keeps w (node_done_if w me (stops_while part running))
  stop_by w me part None = (omega arith, omega arith)
  stop_by w me part (Some running) = node_keeps w me (goes_on_as (stop_part part))

  stop_keeps : (w : World) (me : ℕ) (part : Option NodePart) (found : NodePart) → part ≡ Some found → Keeps w (stops w me part)
  stop_keeps w me None found there = absurd (cc)
  stop_keeps w me (Some part) found there = stop_by w me part part.running

  restart_keeps : (w : World) (me : ℕ) (part : Option NodePart) (found : NodePart) → part ≡ Some found → Keeps w (restarts w me part)
  restart_keeps w me None found there = absurd (cc)
  restart_keeps w me (Some part) found there = node_keeps w me (restart_while part part.running)

  -- an event that names what there is
  pub event_keeps : (w : World) (event : Event) → length w.nodes ≡ s.config.nodes → length w.tasks ≡ 8
      → IsEventWithin s.config.nodes 8 8 event → Keeps w (event_effect s w (event_of event))
  event_keeps w (Submit task node object operation arg) nodes eight fits =
      let there = part_there w.tasks task fits.0.0 (omega arith) in
      submit_keeps s.config w task node object operation arg (part_at w.tasks task) fits.0.0 fits.0.1 fits.1.1 fits.2.0 fits.2.1 fits.3 there.0 there.1
  event_keeps w (Again task node) nodes eight fits =
      let there = part_there w.tasks task fits.0.0 (omega arith) in
      again_keeps s.config w task node (part_at w.tasks task) fits.1.1 there.0 there.1
  event_keeps w (NodeStep step) nodes eight fits = step_keeps w step nodes fits
  event_keeps w (Cut step kept) nodes eight fits = cut_step_keeps w step kept nodes fits
  event_keeps w (Stop node) nodes eight fits = let there = part_there w.nodes node fits.0 (omega arith) in stop_keeps w node (part_at w.nodes node) there.0 there.1
  event_keeps w (Restart node) nodes eight fits = let there = part_there w.nodes node fits.0 (omega arith) in restart_keeps w node (part_at w.nodes node) there.0 there.1
