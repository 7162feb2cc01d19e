-- Steps of a node that it made and that a world does not have yet.
use Rattle.std.specs.Prelude.{◌≡◌, ℕ, ◌<◌, ◌^◌, Option, Some, None, Ok, List, [], ◌∷◌, ◌++◌}
use Rattle.std.specs.Prelude.{IfSome}
use Rattle.rp_store.specs.rp_base.specs.Action.{IsIndex, IsCount}
use Rattle.rp_store.specs.rp_base.specs.Number.{IsNode, IsPosition}
use Rattle.rp_store.specs.rp_base.specs.Sets.{Has}
use Rattle.rp_store.specs.rp_base.specs.declared.action.Action.{Action}
use Rattle.rp_store.specs.rp_base.specs.declared.action.Action.TheVariants as actions
use Rattle.rp_store.specs.rp_base.specs.declared.record.Rec.{Rec}
use Rattle.rp_store.specs.rp_codec.specs.Message.{Message}
use Rattle.rp_store.specs.rp_codec.specs.Record.{record_text}
use Rattle.rp_agreement.specs.rp_model.specs.Effect.{Setting, NodeInput, Receive, Lead, LeadRange}
use Rattle.rp_agreement.specs.rp_model.specs.Effect.{Interrupt, Tick}
use Rattle.rp_agreement.specs.rp_model.specs.Effect.{Report, Ask, node_effect, turn_done}
use Rattle.rp_agreement.specs.rp_model.specs.Parts.{NodePart, Turn}

-- A step: its input and its turn.
pub record PendingStep : Type 0 where
  pub input : NodeInput
  pub turn : Turn

-- the packet of the input was sent, and its numbers are within the ranges of their types
abbrev pub MayCome : List Message → NodeInput → Type 0
MayCome sent (Receive message) = Has message sent
MayCome sent (Lead choice) = IfSome choice IsPosition
MayCome sent (LeadRange first count) = IsPosition first × (count < 2 ^ 8)
MayCome sent (Interrupt source occurrence) = IsIndex source × IsCount occurrence
MayCome sent (Tick now) = now < 2 ^ 32
MayCome sent (Report first) = IsPosition first
MayCome sent (Ask to) = IsNode to

-- the interrupt or the tick that the input has a node note
abbrev pub noted_by : NodeInput → List Action
noted_by (Interrupt source occurrence) = actions.Interrupt source occurrence ∷ []
noted_by (Tick now) = actions.Tick now ∷ []
noted_by _ = []

-- those that the steps noted
abbrev pub noted_in : List PendingStep → List Action
noted_in [] = []
noted_in (step ∷ rest) = noted_by step.input ++ noted_in rest

-- the part that the steps leave, one after another
abbrev pub after_steps : NodePart → List PendingStep → NodePart
after_steps part [] = part
after_steps part (step ∷ rest) = after_steps (turn_done part step.turn).part rest

-- Each step is the effect that the model gives of its input, which may come, on the part that the
-- one before left.
abbrev pub AreSteps : {S : Type 0} → Setting S → List Message → ℕ → NodePart → List PendingStep
    → Type 0
AreSteps s sent me part [] = Unit {0}
AreSteps s sent me part (step ∷ rest) =
    MayCome sent step.input × (node_effect s me part step.input ≡ Ok (turn_done part step.turn))
    × AreSteps s sent me (turn_done part step.turn).part rest

-- the bytes that a step writes for its record, and those that the steps write
abbrev pub bytes_written : Option Rec → List ℕ
bytes_written None = []
bytes_written (Some rec) = record_text rec

abbrev pub bytes_of : List PendingStep → List ℕ
bytes_of [] = []
bytes_of (step ∷ rest) = bytes_written step.turn.written ++ bytes_of rest
