-- No effect is a fault of a device.
use Rattle.std.proofs.Common.{ℕ, Bool, true, false, if◌then◌else◌, Option, Some, None, Result, Ok, Err, List}
use Rattle.std.specs.Prelude.{◌^◌, ◌+◌, IfErr, nat_lt, not, ◌||◌}
use Rattle.rp_base.specs.Action.{is_right}
use Rattle.rp_base.specs.Calls.{are_exhausted}
use Rattle.rp_base.specs.declared.action.Action.{Action}
use Rattle.rp_base.specs.declared.config.Config.{Config}
use Rattle.rp_base.specs.declared.fault.Fault.{Fault}
use Rattle.rp_base.specs.declared.fault.Fault.TheVariants.{Device, LogFull, NumbersSpent, BadConfig}
use Rattle.rp_base.specs.declared.record.Rec.{Rec}
use Rattle.rp_model.specs.Effect.{Setting, Done, NodeInput, plan_of, turn_if, running_effect, turn_done_if, effect_while, node_effect, stops_while, cut_if}
use Rattle.rp_model.specs.Events.{Step, Event, Submit, Again, Makes, Cut, Stop, Restart}
use Rattle.rp_model.specs.Node.{RunningNode, running_node}
use Rattle.rp_model.proofs.EveryPlan.{plan_refused}
use Rattle.rp_model.specs.declared.plan.Plan.{Plan}
use Rattle.rp_base.specs.Number.{in_range}
use Rattle.rp_base.specs.Ranges.{Range, range_of}
use Rattle.rp_model.specs.Parts.{NodePart, TaskPart, Running, Turn}
use Rattle.rp_model.specs.Tasks as tasks
use Rattle.rp_model.specs.Tasks.{TaskInput, may_call, calls_if, task_effect}
use Rattle.rp_model.specs.World.{World, part_at, node_done_if, task_done_if, task_takes, chosen_effect, chosen_cut, step_effect, cut_step, stops, restarts, event_effect}
use Rattle.rp_model.proofs.Choosing.{any_given, gives_any, by_chosen}

-- it is no fault of a device
abbrev pub NoDevice : {A : Type 0} → Result A Fault → Type 0
NoDevice (Ok a) = Unit {0}
NoDevice (Err Device) = ⊥
NoDevice (Err _) = Unit {0}

-- whichever of two it is
one_of : {A : Type 0} (b : Bool) (x y : Result A Fault) → NoDevice x → NoDevice y → NoDevice (if b then x else y)
one_of true x y one other = one
one_of false x y one other = other

-- what is made of it by a step
turned_so : (part : NodePart) (r : Result Turn Fault) → NoDevice r → NoDevice (turn_done_if part r)
turned_so part (Ok turn) is = tt
turned_so part (Err Device) is = is
turned_so part (Err _) is = is

done_so : (w : World) (me : ℕ) (r : Result (Done NodePart) Fault) → NoDevice r → NoDevice (node_done_if w me r)
done_so w me (Ok done) is = tt
done_so w me (Err Device) is = is
done_so w me (Err _) is = is

task_so : (w : World) (t : ℕ) (r : Result (Done TaskPart) Fault) → NoDevice r → NoDevice (task_done_if w t r)
task_so w t (Ok done) is = tt
task_so w t (Err Device) is = is
task_so w t (Err _) is = is

cut_so : (kept : ℕ) (part : NodePart) (r : Result (Done NodePart) Fault) → NoDevice r → NoDevice (cut_if kept part r)
cut_so kept part (Ok done) is = tt
cut_so kept part (Err Device) is = is
cut_so kept part (Err _) is = is

calls_so : (task node : ℕ) (part : TaskPart) (r : Result Action Fault) → NoDevice r → NoDevice (calls_if task node part r)
calls_so task node part (Ok call) is = tt
calls_so task node part (Err Device) is = is
calls_so task node part (Err _) is = is

may_so : (config : Config) (node : ℕ) (part : TaskPart) (call : Action) (o : Option Action) → NoDevice (may_call config node part call o)
may_so config node part call (Some waits) = tt
may_so config node part call None =
    one_of (are_exhausted _) (Err NumbersSpent) _ tt (one_of (nat_lt config.nodes node || not (is_right call)) (Err BadConfig) (Ok call) tt tt)

task_input : (config : Config) (t : ℕ) (part : TaskPart) (input : TaskInput) → NoDevice (task_effect config t part input)
task_input config t part (tasks.Submit node object operation arg) =
    let call = tasks.next_call t part object operation arg in
    calls_so t node part (may_call config node part call part.outstanding) (may_so config node part call part.outstanding)
task_input config t part (tasks.Again node) = one_of (nat_lt config.nodes node) (Err BadConfig) (Ok _) tt tt
task_input config t part (tasks.Take message) = tt

task_part : (config : Config) (w : World) (t : ℕ) (input : TaskInput) (o : Option TaskPart) → NoDevice (task_takes config w t input o)
task_part config w t input None = tt
task_part config w t input (Some part) = task_so w t (task_effect config t part input) (task_input config t part input)

range_so : (first count : ℕ) → NoDevice (range_of first count)
range_so first count =
    let whole : Result Range Fault = Ok (record { first = first; count = count }) in
    one_of (not (in_range 1 64 count)) (Err BadConfig) _ tt (one_of (nat_lt (2 ^ 16) (first + count)) (Err LogFull) whole tt tt)

-- the turn of a plan, or its refusal
turn_so : {S : Type 0} (node : RunningNode S) (r : Result Plan Fault) → IfErr r (λ fault. let none : Result Plan Fault = Err fault in NoDevice none) → NoDevice (turn_if node r)
turn_so node (Ok plan) is = tt
turn_so node (Err Device) is = is
turn_so node (Err _) is = is

range_none : (found : Result Range Fault) → NoDevice found → IfErr found (λ fault. let none : Result Plan Fault = Err fault in NoDevice none)
range_none (Ok range) is = tt
range_none (Err Device) is = is
range_none (Err _) is = is

module _ {S : Type 0} (s : Setting S) where
  -- the turn of a node that runs
  pub turn_is : (me : ℕ) (records : List Rec) (running : Running) (input : NodeInput) → NoDevice (running_effect s me records running input)
  turn_is me records running input =
      let node = running_node s me records running in
      turn_so node (plan_of node input) (plan_refused node input (λ fault. let none : Result Plan Fault = Err fault in NoDevice none) tt tt (λ to is. tt) (λ first count is. range_none (range_of first count) (range_so first count)))

  while_is : (me : ℕ) (part : NodePart) (input : NodeInput) (o : Option Running) → NoDevice (effect_while s me part input o)
  while_is me part input None = tt
  while_is me part input (Some running) = turned_so part (running_effect s me part.records running input) (turn_is me part.records running input)

  -- the result of an input for a node
  pub input_is : (me : ℕ) (part : NodePart) (input : NodeInput) → NoDevice (node_effect s me part input)
  input_is me part input = while_is me part input part.running

  -- a step, and a step that is cut
  step_is : (w : World) (step : Step) → NoDevice (step_effect s w step)
  step_is w step =
      by_chosen w any_given (λ c. NoDevice (chosen_effect s w c)) (λ me part input here _. done_so w me (node_effect s me part input) (input_is me part input))
      (λ t part message here _. task_so w t (task_effect s.config t part (tasks.Take message)) tt) (λ whom. tt) tt (λ me none. tt) step (gives_any w step)

  cut_step_is : (w : World) (step : Step) (kept : ℕ) → NoDevice (cut_step s w step kept)
  cut_step_is w step kept =
      by_chosen w any_given (λ c. NoDevice (chosen_cut s w kept c))
      (λ me part input here _. done_so w me (cut_if kept part (node_effect s me part input)) (cut_so kept part (node_effect s me part input) (input_is me part input)))
      (λ t part message here _. tt) (λ whom. tt) tt (λ me none. tt) step (gives_any w step)

  stop_is : (part : NodePart) (o : Option Running) → NoDevice (stops_while part o)
  stop_is part None = tt
  stop_is part (Some running) = tt

  stops_is : (w : World) (me : ℕ) (o : Option NodePart) → NoDevice (stops w me o)
  stops_is w me None = tt
  stops_is w me (Some part) = done_so w me (stops_while part part.running) (stop_is part part.running)

  restarts_is : (w : World) (me : ℕ) (o : Option NodePart) → NoDevice (restarts w me o)
  restarts_is w me None = tt
  restarts_is w me (Some part) = tt

  -- an event
  pub event_is : (w : World) (event : Event) → NoDevice (event_effect s w event)
  event_is w (Submit task node object operation arg) = task_part s.config w task (tasks.Submit node object operation arg) (part_at w.tasks task)
  event_is w (Again task node) = task_part s.config w task (tasks.Again node) (part_at w.tasks task)
  event_is w (Makes step) = step_is w step
  event_is w (Cut step kept) = cut_step_is w step kept
  event_is w (Stop me) = stops_is w me (part_at w.nodes me)
  event_is w (Restart me) = restarts_is w me (part_at w.nodes me)
