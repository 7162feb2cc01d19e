-- The result of an input for one task. Its calls are numbered from 1, and the next one is made once
-- the last one has its reply.
use Rattle.std.specs.Prelude.{ℕ, Bool, not, ◌||◌, nat_lt, ℤ, Option, Some, None, Result, Ok, Err}
use Rattle.std.specs.Prelude.{[], ◌∷◌, ◌++◌, length, if◌then◌else◌}
use Rattle.rp_base.specs.declared.action.Action.{Action}
use Rattle.rp_base.specs.declared.action.Operation.{Operation}
use Rattle.rp_base.specs.declared.reply.Reply.{Reply}
use Rattle.rp_base.specs.declared.reply.Answer.{Answer}
use Rattle.rp_base.specs.declared.config.Config.{Config}
use Rattle.rp_base.specs.declared.fault.Fault.{Fault}
use Rattle.rp_base.specs.declared.fault.Fault.TheVariants.{TaskBusy, NumbersSpent, BadConfig}
use Rattle.rp_base.specs.Action.{is_right}
use Rattle.rp_base.specs.Calls as calls
use Rattle.rp_base.specs.Calls.{are_exhausted, is_reply_to}
use Rattle.rp_codec.specs.Message.{Message}
use Rattle.rp_codec.specs.declared.packet.Party.TheVariants.{Node, Task}
use Rattle.rp_codec.specs.declared.packet.Body.{Body}
use Rattle.rp_codec.specs.declared.packet.Body.TheVariants as bodies
use Rattle.rp_model.specs.Parts.{TaskPart}
use Rattle.rp_model.specs.Effect.{Done, goes_on_as}

-- what a task may be given: a call to make and the node to ask, the command to ask a node again, or
-- a packet
pub data TaskInput : Type 0 where
  Submit : ℕ → ℕ → Operation → ℤ → TaskInput
  Again : ℕ → TaskInput
  Take : Message → TaskInput

-- the packet by which a task asks a node
abbrev pub asks : ℕ → ℕ → Action → Message
asks task node call = record { from = Task task; to = Node node; body = bodies.Call call }

-- the next call of a task
abbrev pub next_call : ℕ → TaskPart → ℕ → Operation → ℤ → Action
next_call task part object operation arg =
    calls.next_call task (length part.replies) object operation arg

-- the call that a task which waits for nothing may make, or its refusal
abbrev pub may_call : Config → ℕ → TaskPart → Action → Option Action → Result Action Fault
may_call config node part call (Some waits) = Err TaskBusy
may_call config node part call None =
    if are_exhausted (length part.replies) then Err NumbersSpent
    else if nat_lt config.nodes node || not (is_right call) then Err BadConfig
    else Ok call

-- the task makes the call, and asks the node
abbrev pub calls_if : ℕ → ℕ → TaskPart → Result Action Fault → Result (Done TaskPart) Fault
calls_if task node part (Err fault) = Err fault
calls_if task node part (Ok call) =
    Ok (record (goes_on_as (record part { outstanding = Some call }))
    { sends = asks task node call ∷ [] })

-- the task asks once more for the call that it waits for, if it waits
abbrev pub asks_again : ℕ → ℕ → TaskPart → Option Action → Done TaskPart
asks_again task node part None = goes_on_as part
asks_again task node part (Some call) =
    record (goes_on_as part) { sends = asks task node call ∷ [] }

-- a reply of this number is to the call that the task waits for
abbrev pub takes : TaskPart → ℕ → Bool
takes part number = is_reply_to number part.outstanding

-- a reply to the call that the task waits for ends it; any other is ignored
abbrev pub takes_reply : ℕ → TaskPart → ℕ → Reply → Done TaskPart
takes_reply task part number reply =
    let answer : Answer = record { task = task; number = number; reply = reply } in
    if takes part number
    then record (goes_on_as (let after : TaskPart = record {
      outstanding = None;
      replies = part.replies ++ answer ∷ [];
    } in after)) { taken = Some answer }
    else goes_on_as part

-- a body arrives at a task: only a reply means something to it
abbrev pub task_hears : ℕ → TaskPart → Body → Done TaskPart
task_hears task part (bodies.Reply number reply) = takes_reply task part number reply
task_hears task part _ = goes_on_as part

-- The result of an input for a task, or its refusal, after which the task is as it was.
abbrev pub task_effect : Config → ℕ → TaskPart → TaskInput → Result (Done TaskPart) Fault
task_effect config task part (Submit node object operation arg) =
    calls_if task node part
    (may_call config node part (next_call task part object operation arg) part.outstanding)
task_effect config task part (Again node) =
    if nat_lt config.nodes node then Err BadConfig
    else Ok (asks_again task node part part.outstanding)
task_effect config task part (Take message) = Ok (task_hears task part message.body)
