-- What the bytes of a request to a node ask for (the texts are ours).
use Rattle.std.specs.Prelude.{ℕ, ◌&&◌, nat_le, ◌==◌, Option, Some, None, Result, Ok, Err, List, []}
use Rattle.std.specs.Prelude.{◌∷◌, if◌then◌else◌}
use Rattle.std.specs.Int.{w16, w32, from_be_bytes}
use Rattle.rp_base.specs.declared.fault.Fault.{Fault}
use Rattle.rp_base.specs.Action.{IsIndex}
use Rattle.rp_base.specs.Number.{in_range}
use Rattle.rp_base.specs.Ranges.{Range, range_of}
use Rattle.rp_codec.specs.Reading.{all_of}
use Rattle.rp_replica.specs.rp_model.specs.Effect.{NodeInput}
use Rattle.rp_replica.specs.rp_model.specs.Effect as inputs
use Rattle.rp_replica.specs.rp_rules.specs.Inputs.{given_by, packet_given, IsRightInput}
use Rattle.rp_requests.specs.declared.request.Request.{Request}
use Rattle.rp_requests.specs.declared.request.Request.TheVariants as requests

-- A step, with the node's input, or the reason for which the bytes of its packet are none; how many
-- actions are applied; the lines that show the objects; the answer of the last step; how many
-- positions are left; how many pending items are free; the number of a task's last call that
-- counted; or the last occurrence of a source that counted.
pub data Asked : Type 0 where
  Step : Result NodeInput Fault → Asked
  Applied : Asked
  Image : Asked
  LastAnswer : Asked
  Left : Asked
  Pending : Asked
  Counted : ℕ → Asked
  Occurred : ℕ → Asked

-- what a request asks for
abbrev pub asked : Request → Asked
asked (requests.Step input) = Step (given_by input)
asked requests.Applied = Applied
asked requests.Image = Image
asked requests.LastAnswer = LastAnswer
asked requests.Left = Left
asked requests.Pending = Pending
asked (requests.Counted task) = Counted task
asked (requests.Occurred source) = Occurred source

abbrev pub IsRightRequest : Request → Type 0
IsRightRequest (requests.Step input) = IsRightInput input
IsRightRequest requests.Applied = Unit {0}
IsRightRequest requests.Image = Unit {0}
IsRightRequest requests.LastAnswer = Unit {0}
IsRightRequest requests.Left = Unit {0}
IsRightRequest requests.Pending = Unit {0}
IsRightRequest (requests.Counted task) = Unit {0}
IsRightRequest (requests.Occurred source) = IsIndex source

abbrev pub given : NodeInput → Option Asked
given input = Some (Step (Ok input))

abbrev pub lead_at : ℕ → Option Asked
lead_at position = if nat_le 1 position then given (inputs.NodeInput.Lead (Some position)) else None

abbrev pub lead_asked : List ℕ → Option Asked
lead_asked [] = given (inputs.NodeInput.Lead None)
lead_asked (high ∷ low ∷ []) = lead_at (from_be_bytes w16 (high ∷ low ∷ []))
lead_asked _ = None

abbrev pub interrupt_if_right : ℕ → ℕ → Option Asked
interrupt_if_right source occurrence =
    if nat_le 1 source && nat_le source 8 && nat_le 1 occurrence
    then given (inputs.NodeInput.Interrupt source occurrence) else None

abbrev pub interrupt_asked : List ℕ → Option Asked
interrupt_asked (source ∷ a ∷ b ∷ c ∷ d ∷ []) =
    interrupt_if_right source (from_be_bytes w32 (a ∷ b ∷ c ∷ d ∷ []))
interrupt_asked _ = None

abbrev pub tick_asked : List ℕ → Option Asked
tick_asked (a ∷ b ∷ c ∷ d ∷ []) =
    given (inputs.NodeInput.Tick (from_be_bytes w32 (a ∷ b ∷ c ∷ d ∷ [])))
tick_asked _ = None

abbrev pub report_from : ℕ → Option Asked
report_from first = if nat_le 1 first then given (inputs.NodeInput.Report first) else None

abbrev pub report_asked : List ℕ → Option Asked
report_asked (high ∷ low ∷ []) = report_from (from_be_bytes w16 (high ∷ low ∷ []))
report_asked _ = None

abbrev pub range_if : Result Range Fault → Option Asked
range_if (Ok range) = given (inputs.NodeInput.LeadRange range.first range.count)
range_if (Err fault) = None

abbrev pub range_from : ℕ → ℕ → Option Asked
range_from first count = if nat_le 1 first then range_if (range_of first count) else None

abbrev pub range_asked : List ℕ → Option Asked
range_asked (high ∷ low ∷ count ∷ []) = range_from (from_be_bytes w16 (high ∷ low ∷ [])) count
range_asked _ = None

abbrev pub ask_to : ℕ → Option Asked
ask_to node = if in_range 1 7 node then given (inputs.NodeInput.Ask node) else None

abbrev pub ask_asked : List ℕ → Option Asked
ask_asked (node ∷ []) = ask_to node
ask_asked _ = None

abbrev pub counted_asked : List ℕ → Option Asked
counted_asked (task ∷ []) = if nat_le 1 task && nat_le task 8 then Some (Counted task) else None
counted_asked _ = None

abbrev pub occurred_asked : List ℕ → Option Asked
occurred_asked (source ∷ []) =
    if nat_le 1 source && nat_le source 8 then Some (Occurred source) else None
occurred_asked _ = None

abbrev pub question_asked : ℕ → List ℕ → Option Asked
question_asked kind [] =
    if kind == 16 then Some Applied
    else if kind == 17 then Some Image
    else if kind == 18 then Some LastAnswer
    else if kind == 19 then Some Left
    else if kind == 20 then Some Pending
    else None
question_asked kind _ = None

-- what is asked for, if anything, by the byte of the request's kind and its operands
unfoldable pub asked_of_kind : ℕ → List ℕ → Option Asked
asked_of_kind kind operands =
    if kind == 1 then Some (Step (packet_given (all_of operands)))
    else if kind == 2 then lead_asked operands
    else if kind == 3 then interrupt_asked operands
    else if kind == 4 then tick_asked operands
    else if kind == 5 then report_asked operands
    else if kind == 6 then range_asked operands
    else if kind == 7 then ask_asked operands
    else if kind == 21 then counted_asked operands
    else if kind == 22 then occurred_asked operands
    else question_asked kind operands

unfoldable pub asked_of : List ℕ → Option Asked
asked_of [] = None
asked_of (kind ∷ operands) = asked_of_kind kind operands
