-- Components that limits count, and what is so under all limits that count what names denote.
use Rattle.std.specs.Prelude.{◌<◌, List, All}
use Rattle.rp_body.specs.declared.components.Limits.{Limits}
use Rattle.rp_deck_bodies.specs.declared.names.Component.{Component}
use Rattle.rp_deck_bodies.specs.declared.names.Component.TheVariants.{Int, Bool}

-- the component is counted
abbrev pub IsCounted : Limits → Component → Type 0
IsCounted limits (Int place) = place < limits.ints
IsCounted limits (Bool place) = place < limits.bools

abbrev pub AreCounted : Limits → List Component → Type 0
AreCounted limits declared = All (IsCounted limits) declared

-- it is so under all limits that count these, and so it stays where more is declared
abbrev pub WhereCounted : List Component → (Limits → Type 0) → Type 0
WhereCounted declared Fits = (limits : Limits) → AreCounted limits declared → Fits limits
