-- The deck whose script decides the actions of an order.
use Rattle.std.specs.Prelude.{ℕ, suc, nat_eq, Option, Some, None, List, [], ◌∷◌, ◌++◌, codes}
use Rattle.std.specs.Prelude.{decimal, find, flat_map, take, if◌then◌else◌}
use Rattle.std.specs.List.{list_any}
use Rattle.rp_output.specs.rp_base.specs.Action.{same_action}
use Rattle.rp_output.specs.rp_base.specs.declared.action.Action.{Action}
use Rattle.rp_output.specs.rp_model.specs.World.{part_at}
use Rattle.rp_output.specs.FaultMessage.{with_line_feed}
use Rattle.rp_output.specs.Trace.{or_nothing}
use Rattle.rp_explore_deck.specs.declared.actions.PlannedAction.{PlannedAction}

-- the line of this number, unless it is a rule
abbrev pub head_line : List ℕ → ℕ → List ℕ → List ℕ
head_line rules number line = if list_any (nat_eq number) rules then [] else with_line_feed line

-- the lines from this number on, but for the rules
abbrev pub head_from : List ℕ → ℕ → List (List ℕ) → List ℕ
head_from rules number [] = []
head_from rules number (line ∷ rest) =
    head_line rules number line ++ head_from rules (suc number) rest

-- the lines with which all packets are delivered, a node leads, and all packets are delivered again
abbrev pub lead_text : ℕ → List ℕ
lead_text node = codes "drain\nlead " ++ (decimal node ++ codes "\ndrain\n")

-- the line of this number, from 1
abbrev pub line_at : List (List ℕ) → ℕ → List ℕ
line_at lines number = or_nothing (part_at lines number)

-- what asks for an action
abbrev pub planned_for : List PlannedAction → Action → Option PlannedAction
planned_for planned action = find (λ p. same_action p.action action) planned

-- the lines with which an action is decided: that which asks for it, and those with which its node
-- leads
abbrev pub action_text : List (List ℕ) → Option PlannedAction → List ℕ
action_text lines None = []
action_text lines (Some p) = with_line_feed (line_at lines p.line) ++ lead_text p.node

-- the lines with which the actions of an order are decided
abbrev pub order_text : List (List ℕ) → List PlannedAction → List Action → List ℕ
order_text lines planned order = flat_map (λ a. action_text lines (planned_for planned a)) order

-- The first n lines of a deck, but for the rules; those with which the actions of the order are
-- decided; and `show`.
abbrev pub order_deck_text : ℕ → List ℕ → List (List ℕ) → List PlannedAction → List Action → List ℕ
order_deck_text head rules lines planned order =
    head_from rules 1 (take head lines)
    ++ (order_text lines planned order ++ with_line_feed (codes "show"))
