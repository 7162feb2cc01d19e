-- The line of a trace for a packet, without its end.
use Rattle.std.specs.Prelude.{ℕ, Option, Some, None, List, [], ◌++◌, codes, decimal}
use Rattle.rp_model.specs.rp_base.specs.declared.action.Action.{Action}
use Rattle.rp_model.specs.rp_base.specs.declared.action.Action.TheVariants as actions
use Rattle.rp_model.specs.rp_base.specs.Ranges.{Range}
use Rattle.rp_model.specs.rp_codec.specs.Message.{Message}
use Rattle.rp_model.specs.rp_codec.specs.declared.packet.Body.{Body}
use Rattle.rp_model.specs.rp_codec.specs.declared.packet.Body.TheVariants.{Call, Prepare, Promise}
use Rattle.rp_model.specs.rp_codec.specs.declared.packet.Body.TheVariants.{Accept}
use Rattle.rp_model.specs.rp_codec.specs.declared.packet.Body.TheVariants.{Accepted, Decided, Ask}
use Rattle.rp_model.specs.rp_codec.specs.declared.packet.Body.TheVariants.{Nack, Reply}
use Rattle.rp_model.specs.rp_codec.specs.declared.packet.Body.TheVariants.{Report, PrepareRange}
use Rattle.rp_model.specs.rp_codec.specs.declared.packet.Body.TheVariants.{PromiseRange}
use Rattle.rp_model.specs.rp_codec.specs.declared.packet.Party.{Party}
use Rattle.rp_model.specs.rp_codec.specs.declared.packet.Party.TheVariants.{Node, Task, Audit}
use Rattle.rp_model.specs.World.{part_at}

abbrev pub or_nothing : Option (List ℕ) → List ℕ
or_nothing None = []
or_nothing (Some name) = name

-- the name of the task of this number, from 1
abbrev pub task_name : List (List ℕ) → ℕ → List ℕ
task_name names task = or_nothing (part_at names task)

-- a node's number, a task's name, or the audit
abbrev pub party_text_of : List (List ℕ) → Party → List ℕ
party_text_of names (Node node) = decimal node
party_text_of names (Task task) = task_name names task
party_text_of names Audit = codes "audit"

-- the number of the call, 0 for an action that is no call
abbrev pub call_number : Action → ℕ
call_number actions.Noop = 0
call_number (actions.Call task number object operation arg) = number
call_number (actions.Interrupt source occurrence) = 0
call_number (actions.Tick now) = 0

-- a position and a ballot
abbrev pub ballot_text_of : ℕ → ℕ → List ℕ
ballot_text_of position ballot = decimal position ++ (codes " " ++ decimal ballot)

-- a range, as its first position and its count, and a ballot
abbrev pub range_text_of : Range → ℕ → List ℕ
range_text_of range ballot =
    decimal range.first ++ (codes " " ++ (decimal range.count ++ (codes " " ++ decimal ballot)))

-- the name of a packet's kind
abbrev pub kind_name : Body → List ℕ
kind_name (Call action) = codes "call"
kind_name (Prepare position ballot) = codes "prepare"
kind_name (Promise position ballot last) = codes "promise"
kind_name (Accept position ballot action) = codes "accept"
kind_name (Accepted position ballot action) = codes "accepted"
kind_name (Decided position action) = codes "decided"
kind_name (Ask position) = codes "ask"
kind_name (Nack position ballot bound) = codes "nack"
kind_name (Reply number reply) = codes "reply"
kind_name (Report first applied printed) = codes "report"
kind_name (PrepareRange range ballot) = codes "prepare_range"
kind_name (PromiseRange range ballot votes) = codes "promise_range"

-- the kind of a packet, and what distinguishes it from others of its kind
abbrev pub body_text_of : Body → List ℕ
body_text_of (Call action) = codes "call " ++ decimal (call_number action)
body_text_of (Prepare position ballot) = codes "prepare " ++ ballot_text_of position ballot
body_text_of (Promise position ballot last) = codes "promise " ++ ballot_text_of position ballot
body_text_of (Accept position ballot action) = codes "accept " ++ ballot_text_of position ballot
body_text_of (Accepted position ballot action) = codes "accepted " ++ ballot_text_of position ballot
body_text_of (Decided position action) = codes "decided " ++ decimal position
body_text_of (Ask position) = codes "ask " ++ decimal position
body_text_of (Nack position ballot bound) = codes "nack " ++ ballot_text_of position ballot
body_text_of (Reply number reply) = codes "reply " ++ decimal number
body_text_of (Report first applied printed) = codes "report " ++ decimal first
body_text_of (PrepareRange range ballot) = codes "prepare_range " ++ range_text_of range ballot
body_text_of (PromiseRange range ballot votes) =
    codes "promise_range " ++ range_text_of range ballot

-- the line of the message of a number, with its sender, its receiver and its body
abbrev pub trace_line_of : ℕ → List ℕ → List ℕ → Body → List ℕ
trace_line_of number from to body =
    codes "m" ++ (decimal number ++ (codes " " ++ (from
    ++ (codes ">" ++ (to ++ (codes " " ++ body_text_of body))))))

abbrev pub message_line_of : List (List ℕ) → ℕ → Message → List ℕ
message_line_of names number m =
    trace_line_of number (party_text_of names m.from) (party_text_of names m.to) m.body
