-- Which actions the events of a history asked for or noted.
use Rattle.std.specs.Prelude.{ℕ, List}
use Rattle.rp_base.specs.Sets.{Has}
use Rattle.rp_base.specs.declared.action.Action.{Action}
use Rattle.rp_base.specs.declared.action.Action.TheVariants.{Noop, Call, Interrupt, Tick}
use Rattle.rp_model.specs.Events as events
use Rattle.rp_model.specs.Events.{Event, Submit, Makes}

-- The call was asked for by one of these events, with its object, operation and argument; the
-- interrupt or the tick was noted at some node by one.
abbrev pub IsNoted : List Event → Action → Type 0
IsNoted happened Noop = Unit {0}
IsNoted happened (Call task number object operation arg) =
    (node : ℕ) × Has (Submit task node object operation arg) happened
IsNoted happened (Interrupt source occurrence) =
    (me : ℕ) × Has (Makes (events.Interrupt me source occurrence)) happened
IsNoted happened (Tick now) = (me : ℕ) × Has (Makes (events.Tick me now)) happened
