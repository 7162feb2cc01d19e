-- The texts of requests to a node and to a task, written from the list in include/rp.h: a byte for
-- the kind, and then the operands, numbers in big-endian order.
use Rattle.std.specs.Prelude.{◌<◌, ◌^◌, ℕ, Some, None, List, [], ◌∷◌, ◌++◌, FitsSigned}
use Rattle.std.specs.Int.{w16, w32, w64, to_be_bytes, cast_unsigned}
use Rattle.rp_base.specs.Number.{IsNode, IsPosition}
use Rattle.rp_base.specs.Action.{IsIndex, IsCount, IsRightOperation}
use Rattle.rp_base.specs.Ranges.{IsRange}
use Rattle.rp_base.specs.declared.action.Operation.{Operation}
use Rattle.rp_base.specs.declared.action.Operation.TheVariants.{Function}
use Rattle.rp_base.specs.declared.action.Operation.TheVariants.{Procedure, Entry}
use Rattle.rp_base.specs.declared.action.Operation.TheVariants.{SetTimer}
use Rattle.rp_base.specs.declared.action.Operation.TheVariants.{CancelTimer}
use Rattle.rp_codec.specs.Message.{IsPacket}
use Rattle.rp_codec.specs.Text.{text_of}
use Rattle.rp_model.specs.Effect.{NodeInput}
use Rattle.rp_model.specs.Effect as inputs
use Rattle.rp_requests.specs.TaskRequests.{TaskAsked, MakeCall, SendAgain, TakePacket}

-- RP_NODE_RECEIVE 1, RP_NODE_LEAD 2, RP_NODE_INTERRUPT 3, RP_NODE_TICK 4, RP_NODE_REPORT 5,
-- RP_NODE_LEAD_RANGE 6, RP_NODE_ASK 7
abbrev pub step_text : NodeInput → List ℕ
step_text (inputs.NodeInput.Receive message) = 1 ∷ text_of message
step_text (inputs.NodeInput.Lead None) = 2 ∷ []
step_text (inputs.NodeInput.Lead (Some position)) = 2 ∷ to_be_bytes w16 position
step_text (inputs.NodeInput.Interrupt source occurrence) =
    3 ∷ source ∷ to_be_bytes w32 occurrence
step_text (inputs.NodeInput.Tick now) = 4 ∷ to_be_bytes w32 now
step_text (inputs.NodeInput.Report first) = 5 ∷ to_be_bytes w16 first
step_text (inputs.NodeInput.LeadRange first count) = 6 ∷ (to_be_bytes w16 first ++ count ∷ [])
step_text (inputs.NodeInput.Ask node) = 7 ∷ node ∷ []

-- its numbers are within the ranges that the header states
abbrev pub FitsStep : NodeInput → Type 0
FitsStep (inputs.NodeInput.Receive message) = IsPacket message
FitsStep (inputs.NodeInput.Lead None) = Unit {0}
FitsStep (inputs.NodeInput.Lead (Some position)) = IsPosition position
FitsStep (inputs.NodeInput.Interrupt source occurrence) = IsIndex source × IsCount occurrence
FitsStep (inputs.NodeInput.Tick now) = now < 2 ^ 32
FitsStep (inputs.NodeInput.Report first) = IsPosition first
FitsStep (inputs.NodeInput.LeadRange first count) = IsRange (record { first = first; count = count })
FitsStep (inputs.NodeInput.Ask node) = IsNode node

-- RP_NODE_APPLIED, RP_NODE_IMAGE, RP_NODE_LAST, RP_NODE_LEFT and RP_NODE_PENDING
abbrev pub applied_text : List ℕ
applied_text = 16 ∷ []

abbrev pub image_text : List ℕ
image_text = 17 ∷ []

abbrev pub last_answer_text : List ℕ
last_answer_text = 18 ∷ []

abbrev pub left_text : List ℕ
left_text = 19 ∷ []

abbrev pub pending_text : List ℕ
pending_text = 20 ∷ []

-- RP_NODE_COUNTED
abbrev pub counted_text : ℕ → List ℕ
counted_text task = 21 ∷ task ∷ []

-- RP_NODE_OCCURRED
abbrev pub occurred_text : ℕ → List ℕ
occurred_text source = 22 ∷ source ∷ []

-- RP_FUNCTION 1, RP_PROCEDURE 2, RP_ENTRY 3, RP_SET_TIMER 4, RP_CANCEL_TIMER 5, and the index
abbrev pub operation_bytes : Operation → List ℕ
operation_bytes (Function index) = 1 ∷ index ∷ []
operation_bytes (Procedure index) = 2 ∷ index ∷ []
operation_bytes (Entry index) = 3 ∷ index ∷ []
operation_bytes (SetTimer index) = 4 ∷ index ∷ []
operation_bytes (CancelTimer index) = 5 ∷ index ∷ []

-- RP_TASK_CALL 1, RP_TASK_AGAIN 2, RP_TASK_RECEIVE 3
abbrev pub task_request_text : TaskAsked → List ℕ
task_request_text (MakeCall node object operation arg) =
    1 ∷ node ∷ object ∷ (operation_bytes operation ++ to_be_bytes w64 (cast_unsigned w64 arg))
task_request_text (SendAgain node) = 2 ∷ node ∷ []
task_request_text (TakePacket packet) = 3 ∷ packet

-- its numbers are within the ranges that the header states
abbrev pub FitsTaskRequest : TaskAsked → Type 0
FitsTaskRequest (MakeCall node object operation arg) =
    IsNode node × IsIndex object × IsRightOperation operation × FitsSigned w64 arg
FitsTaskRequest (SendAgain node) = IsNode node
FitsTaskRequest (TakePacket packet) = Unit {0}
