-- What may happen to a program whose nodes and tasks run in threads.
use Rattle.std.specs.Prelude.{ℕ, ◌≤◌, nat_eq, Option, Some, None, List, filter_map}
use Rattle.std.specs.Prelude.{if◌then◌else◌}
use Rattle.rp_boxes.specs.rp_model.specs.declared.event.Event.{Event}
use Rattle.rp_boxes.specs.rp_model.specs.declared.event.Event.TheVariants.{Submit, Again, Node, Cut}
use Rattle.rp_boxes.specs.rp_model.specs.declared.event.Event.TheVariants.{Stop, Restart}
use Rattle.rp_boxes.specs.rp_model.specs.declared.event.Step.{Step}
use Rattle.rp_boxes.specs.rp_model.specs.declared.event.Step.TheVariants.{Deliver, Lead, LeadRange}
use Rattle.rp_boxes.specs.rp_model.specs.declared.event.Step.TheVariants.{Interrupt}
use Rattle.rp_boxes.specs.rp_model.specs.declared.event.Step.TheVariants.{Tick, Report, Ask}
use Rattle.rp_threads.specs.declared.tasks.TaskCall.{TaskCall}

-- one of n nodes notes an interrupt or a tick
abbrev pub IsNoting : ℕ → Step → Type 0
IsNoting nodes (Deliver number) = ⊥
IsNoting nodes (Lead node position) = ⊥
IsNoting nodes (LeadRange node first count) = ⊥
IsNoting nodes (Interrupt node interrupt) = node ≤ nodes
IsNoting nodes (Tick node now) = node ≤ nodes
IsNoting nodes (Report node first) = ⊥
IsNoting nodes (Ask node to) = ⊥

-- a task makes a call and asks one of n nodes, or one of them notes an interrupt or a tick
abbrev pub IsLive : ℕ → Event → Type 0
IsLive nodes (Submit task node object operation arg) = node ≤ nodes
IsLive nodes (Again task node) = ⊥
IsLive nodes (Node step) = IsNoting nodes step
IsLive nodes (Cut step kept) = ⊥
IsLive nodes (Stop node) = ⊥
IsLive nodes (Restart node) = ⊥

-- the call that an event is, if this task makes it
abbrev pub call_by : ℕ → Event → Option TaskCall
call_by caller (Submit task node object operation arg) =
    if nat_eq task caller
    then Some (record { node = node; object = object; operation = operation; arg = arg })
    else None
call_by caller (Again task node) = None
call_by caller (Node step) = None
call_by caller (Cut step kept) = None
call_by caller (Stop node) = None
call_by caller (Restart node) = None

-- the calls of a task among the events, in order
abbrev pub calls_at : List Event → ℕ → List TaskCall
calls_at events caller = filter_map (call_by caller) events
