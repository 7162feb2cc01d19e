-- What the bytes of a request to a task ask for (the texts are ours).
use Rattle.std.specs.Prelude.{ℕ, ℤ, Bool, ◌&&◌, nat_le, ◌==◌, Option, Some, None, List, [], ◌∷◌}
use Rattle.std.specs.Prelude.{length, if◌then◌else◌}
use Rattle.std.specs.Int.{w64, from_be_bytes, cast_signed}
use Rattle.rp_base.specs.Action.{IsIndex, IsRightOperation, is_right_operation}
use Rattle.rp_base.specs.declared.action.Operation.{Operation}
use Rattle.rp_base.specs.declared.action.Operation.TheVariants.{Function, Procedure, Entry}
use Rattle.rp_base.specs.declared.action.Operation.TheVariants.{SetTimer, CancelTimer}
use Rattle.rp_requests.specs.declared.task_request.TaskRequest.{TaskRequest}
use Rattle.rp_requests.specs.declared.task_request.TaskRequest.TheVariants as requests

-- The next call, through a node; the outstanding call again, through a node; or the reply in a
-- packet.
pub data TaskAsked : Type 0 where
  MakeCall : ℕ → ℕ → Operation → ℤ → TaskAsked
  SendAgain : ℕ → TaskAsked
  TakePacket : List ℕ → TaskAsked

-- what a request asks for
abbrev pub task_asked : TaskRequest → TaskAsked
task_asked (requests.Call node object operation arg) = MakeCall node object operation arg
task_asked (requests.Again node) = SendAgain node
task_asked (requests.Receive packet) = TakePacket packet.now

abbrev pub IsRightTaskRequest : TaskRequest → Type 0
IsRightTaskRequest (requests.Call node object operation arg) =
    IsIndex object × IsRightOperation operation
IsRightTaskRequest (requests.Again node) = Unit {0}
IsRightTaskRequest (requests.Receive packet) = Unit {0}

abbrev pub operation_numbered : ℕ → ℕ → Option Operation
operation_numbered kind index =
    if kind == 1 then Some (Function index)
    else if kind == 2 then Some (Procedure index)
    else if kind == 3 then Some (Entry index)
    else if kind == 4 then Some (SetTimer index)
    else if kind == 5 then Some (CancelTimer index) else None

abbrev pub is_party : ℕ → Bool
is_party node = nat_le 1 node && nat_le node 7

-- an argument: eight bytes
abbrev pub arg_at : List ℕ → Option ℤ
arg_at bytes = if length bytes == 8 then Some (cast_signed w64 (from_be_bytes w64 bytes)) else None

abbrev pub call_with : ℕ → ℕ → Operation → Option ℤ → Option TaskAsked
call_with node object operation None = None
call_with node object operation (Some arg) =
    if nat_le 1 object && nat_le object 8 && is_right_operation operation
    then Some (MakeCall node object operation arg) else None

abbrev pub call_if : ℕ → ℕ → Option Operation → Option ℤ → Option TaskAsked
call_if node object None arg = None
call_if node object (Some operation) arg = call_with node object operation arg

abbrev pub call_asked : List ℕ → Option TaskAsked
call_asked (node ∷ object ∷ kind ∷ index ∷ arg) =
    if is_party node then call_if node object (operation_numbered kind index) (arg_at arg) else None
call_asked _ = None

abbrev pub again_asked : List ℕ → Option TaskAsked
again_asked (node ∷ []) = if is_party node then Some (SendAgain node) else None
again_asked _ = None

unfoldable pub task_asked_by : ℕ → List ℕ → Option TaskAsked
task_asked_by kind operands =
    if kind == 1 then call_asked operands
    else if kind == 2 then again_asked operands
    else if kind == 3 then Some (TakePacket operands) else None

-- what is asked for, if anything
unfoldable pub task_asked_of : List ℕ → Option TaskAsked
task_asked_of [] = None
task_asked_of (kind ∷ operands) = task_asked_by kind operands
