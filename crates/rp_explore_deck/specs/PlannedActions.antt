-- The actions that the script of a deck asks for.
use Rattle.std.specs.Prelude.{◌≡◌, ℕ, ◌+◌, Bool, false, nat_eq, List, [], ◌∷◌, ◌++◌, length, filter}
use Rattle.std.specs.Prelude.{map}
use Rattle.std.specs.Prelude.{Option, Some, None, if◌then◌else◌}
use Rattle.std.specs.List.{list_any}
use Rattle.rp_deck.specs.rp_base.specs.Action.{IsIndex, IsRightOperation, same_action}
use Rattle.rp_deck.specs.rp_base.specs.Sets.{Has}
use Rattle.rp_deck.specs.rp_base.specs.declared.action.Action.{Action}
use Rattle.rp_deck.specs.rp_base.specs.declared.action.Action.TheVariants as actions
use Rattle.rp_deck.specs.ScriptLines.{LineCommand, CommandText, Take}
use Rattle.rp_explore_deck.specs.declared.actions.PlannedAction.{PlannedAction}
use Rattle.rp_orders.specs.rp_machine.specs.Replay.{number_for}
use Rattle.rp_deck.specs.rp_model.specs.Events.{Submit, Makes, Interrupt, Tick}

-- the action is a call of the task
abbrev pub is_call_of : ℕ → Action → Bool
is_call_of task (actions.Call caller number object operation arg) = nat_eq caller task
is_call_of task _ = false

-- the actions of these, and how many are calls of the task
abbrev pub actions_of : List PlannedAction → List Action
actions_of planned = map (λ p. p.action) planned

abbrev pub calls_among : ℕ → List PlannedAction → ℕ
calls_among task planned = length (filter (λ p. is_call_of task p.action) planned)

-- what a line of a script asks for after these actions, and of which node: a call is the next of
-- its task
abbrev pub action_asked : List PlannedAction → CommandText → Option (Action × ℕ)
action_asked planned (Take (Submit task node object operation arg)) =
    Some (actions.Call task (calls_among task planned + 1) object operation arg, node)
action_asked planned (Take (Makes (Interrupt node source occurrence))) =
    Some (actions.Interrupt source occurrence, node)
action_asked planned (Take (Makes (Tick node now))) = Some (actions.Tick now, node)
action_asked planned _ = None

-- what a call asks for has numbers within their ranges
abbrev pub AsksRight : CommandText → Type 0
AsksRight (Take (Submit task node object operation arg)) =
    IsIndex object × IsRightOperation operation
AsksRight _ = Unit {0}

-- an action that is there already is not added again
abbrev pub with_planned : List PlannedAction → ℕ → Option (Action × ℕ) → List PlannedAction
with_planned planned line None = planned
with_planned planned line (Some asked) =
    if list_any (λ p. same_action p.action asked.0) planned then planned
    else planned ++ record { action = asked.0; node = asked.1; line = line } ∷ []

abbrev pub with_line : List PlannedAction → LineCommand → List PlannedAction
with_line planned line = with_planned planned line.number (action_asked planned line.command)

-- the actions that the lines of a script ask for, after these
abbrev pub planned_after : List PlannedAction → List LineCommand → List PlannedAction
planned_after planned [] = planned
planned_after planned (line ∷ lines) = planned_after (with_line planned line) lines

-- the call of this number of the task is among the actions
abbrev pub HasCall : List PlannedAction → ℕ → ℕ → Type 0
HasCall planned task number =
    (action : Action) × Has action (actions_of planned) × (number_for task action ≡ Some number)
