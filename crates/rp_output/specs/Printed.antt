-- The lines that a run prints, without their ends.
use Rattle.std.specs.Prelude.{ℕ, List, ◌++◌, codes, decimal, true, false}
use Rattle.std.specs.Fmt.{signed_decimal}
use Rattle.rp_model.specs.rp_base.specs.Fault.{code_of, name_of}
use Rattle.rp_model.specs.rp_base.specs.declared.fault.Fault.{Fault}
use Rattle.rp_model.specs.rp_base.specs.declared.reply.Reply.{Reply}
use Rattle.rp_output.specs.declared.printed.NodeState.{NodeState}
use Rattle.rp_output.specs.declared.printed.NodeState.TheVariants as states
use Rattle.rp_model.specs.rp_base.specs.declared.reply.Reply.TheVariants.{Value, Truth}
use Rattle.rp_model.specs.rp_base.specs.declared.reply.Reply.TheVariants.{ConstraintError}
use Rattle.rp_model.specs.rp_base.specs.declared.reply.Reply.TheVariants.{ProgramError}
use Rattle.rp_model.specs.rp_base.specs.declared.reply.Reply.TheVariants.{NoSuchOperation}

-- the words for a reply
abbrev pub reply_text_of : Reply → List ℕ
reply_text_of (Value v) = codes "value " ++ signed_decimal v
reply_text_of (Truth true) = codes "truth true"
reply_text_of (Truth false) = codes "truth false"
reply_text_of ConstraintError = codes "Constraint_Error"
reply_text_of ProgramError = codes "Program_Error"
reply_text_of NoSuchOperation = codes "No_Such_Operation"

-- the line of a task that takes the reply to one of its calls
abbrev pub reply_line_of : List ℕ → ℕ → Reply → List ℕ
reply_line_of task number reply =
    codes "reply " ++ (task ++ (codes " "
    ++ (decimal number ++ (codes " " ++ reply_text_of reply))))

-- the line of a step of the script that was refused
abbrev pub refused_line_of : ℕ → Fault → List ℕ
refused_line_of line fault =
    codes "line " ++ (decimal line ++ (codes ": refused "
    ++ (decimal (code_of fault) ++ (codes " " ++ name_of fault))))

-- the line of a stopped node that runs again: how many records it found, and how many bytes it
-- truncated
abbrev pub opened_line_of : ℕ → ℕ → ℕ → List ℕ
opened_line_of node records bytes =
    codes "node " ++ (decimal node ++ (codes " open records "
    ++ (decimal records ++ (codes " cut " ++ decimal bytes))))

-- the line of a node that is to start again and is running already
abbrev pub running_line_of : ℕ → List ℕ
running_line_of node = codes "node " ++ (decimal node ++ codes " already running")

-- the line of a node that has no place for one more pending item
abbrev pub full_line_of : ℕ → List ℕ
full_line_of node = codes "node " ++ (decimal node ++ codes " pending full")

-- the line of how many actions a node has applied
abbrev pub applied_line_of : ℕ → ℕ → List ℕ
applied_line_of node applied =
    codes "node " ++ (decimal node ++ (codes " applied " ++ decimal applied))

-- the line of a stopped node
abbrev pub stopped_line_of : ℕ → List ℕ
stopped_line_of node = codes "node " ++ (decimal node ++ codes " stopped")

-- the line of a node in this state
abbrev pub node_line_of : ℕ → NodeState → List ℕ
node_line_of node (states.Opened records bytes) = opened_line_of node records bytes
node_line_of node states.Running = running_line_of node
node_line_of node states.Full = full_line_of node
node_line_of node (states.Applied applied) = applied_line_of node applied
node_line_of node states.Stopped = stopped_line_of node

-- what that line has after the node's number
abbrev pub node_state_of : NodeState → List ℕ
node_state_of (states.Opened records bytes) =
    codes "open records " ++ (decimal records ++ (codes " cut " ++ decimal bytes))
node_state_of states.Running = codes "already running"
node_state_of states.Full = codes "pending full"
node_state_of (states.Applied applied) = codes "applied " ++ decimal applied
node_state_of states.Stopped = codes "stopped"

-- the line that `drain` delivered as many messages as it may, and more are left
abbrev pub limit_line_of : ℕ → List ℕ
limit_line_of line = codes "line " ++ (decimal line ++ codes ": drain limit")

-- the line that what each node has applied is a prefix of one order
abbrev pub agreed_line : List ℕ
agreed_line = codes "logs agree"
