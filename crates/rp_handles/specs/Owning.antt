-- What a handle owns: nothing, or what the box of its actor owns (no public clause names it).
use Rattle.std.specs.Prelude.{Option, Some, None}
use Rattle.std.specs.Box.Ownership.{box_owns}
use base.Fml.{Fml, ftrue}
use mir.Syntax.{Ty}
use denote.RattleType.{RattleType}
use denote.RawPtr.{Ptr}

-- the value of type R at this address, and the right to free its block
abbrev pub kept_at : (Ty → Ptr → Fml) → (R : RattleType) → Ptr → Option R.Denot → Fml
kept_at holds R at None = ftrue
kept_at holds R at (Some value) = box_owns holds R at value
