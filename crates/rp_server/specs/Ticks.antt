-- Which actions are ticks.
use Rattle.std.specs.Prelude.{◌≡◌, Bool, true, false, List}
use Rattle.std.specs.List.{list_any}
use Rattle.rp_base.specs.declared.action.Action.{Action}
use Rattle.rp_base.specs.declared.action.Action.TheVariants.{Noop, Call, Interrupt, Tick}

-- the action is a tick
abbrev pub is_tick : Action → Bool
is_tick Noop = false
is_tick (Call task number object operation arg) = false
is_tick (Interrupt source occurrence) = false
is_tick (Tick now) = true

-- none of the actions is a tick
abbrev pub HasNoTick : List Action → Type 0
HasNoTick actions = list_any is_tick actions ≡ false
