-- The answer of a task (ours).
use Rattle.std.specs.Prelude.{◌≡◌, ◌⊎◌, ◌<◌, ◌≤◌, ℕ, nat_eq, Bool, false, Option, Some, None}
use Rattle.std.specs.Prelude.{Result, Ok, Err, List, [], length}
use Rattle.std.specs.Prelude.{if◌then◌else◌}
use Rattle.rp_base.specs.Calls.{next_call, is_reply_to}
use Rattle.rp_base.specs.declared.action.Action.{Action}
use Rattle.rp_base.specs.declared.fault.Fault.TheVariants as faults
use Rattle.rp_base.specs.declared.fault.Fault.{Fault}
use Rattle.rp_base.specs.declared.fault.PacketReason.{PacketReason}
use Rattle.rp_base.specs.declared.reply.Reply.{Reply}
use Rattle.rp_codec.specs.Decoding.{IsLongText}
use Rattle.rp_codec.specs.Message.{Message}
use Rattle.rp_codec.specs.Reading.{all_of}
use Rattle.rp_codec.specs.Text.{text_of, reply_text}
use Rattle.rp_codec.specs.declared.packet.Party.{Party}
use Rattle.rp_codec.specs.declared.packet.Party.TheVariants.{Node, Task, Audit}
use Rattle.rp_codec.specs.declared.packet.Body.{Body}
use Rattle.rp_codec.specs.declared.packet.Body.TheVariants as bodies
use Rattle.rp_tasks.specs.Calls.{Calls, refusal_of, with_call, with_reply}
use Rattle.rp_requests.specs.declared.buffer.Lengths.{Lengths}
use Rattle.rp_requests.specs.declared.refusal.Refusal.{Refusal}
use Rattle.rp_requests.specs.declared.refusal.Refusal.TheVariants as refusals
use Rattle.rp_requests.specs.Buffers.{IsPutInFront}
use Rattle.rp_requests.specs.TaskRequests.{TaskAsked, MakeCall, SendAgain, TakePacket}

-- the fewest bytes of a buffer for the answer of a task
abbrev pub task_bytes : ℕ
task_bytes = 40

-- Nothing changed.
pub record IsSameTask (old new : Calls) (before after : List ℕ) : Type 0 where
  pub task : new ≡ old
  pub buffer : after ≡ before

-- the packet of a call through a node
abbrev pub call_packet : ℕ → ℕ → Action → Message
call_packet task node call = record { from = Task task; to = Node node; body = bodies.Call call }

-- the text of the packet of the outstanding call, empty if there is no such call
abbrev pub again_text : ℕ → ℕ → Option Action → List ℕ
again_text task node None = []
again_text task node (Some call) = text_of (call_packet task node call)

-- the party is this task
abbrev pub is_task : ℕ → Party → Bool
is_task task (Task number) = nat_eq number task
is_task task (Node number) = false
is_task task Audit = false

-- the reply to the outstanding call in a body, if it has one
abbrev pub outstanding_reply : Calls → Body → Option Reply
outstanding_reply calls (bodies.Reply number reply) =
    if is_reply_to number calls.outstanding then Some reply else None
outstanding_reply calls _ = None

-- the reply to the task's outstanding call in a packet, if it has one
abbrev pub reply_taken : Calls → Message → Option Reply
reply_taken calls packet = if is_task calls.task packet.to then outstanding_reply calls packet.body else None

abbrev pub once_taken : Calls → Option Reply → Calls
once_taken calls None = calls
once_taken calls (Some reply) = with_reply calls

abbrev pub taken_text : Option Reply → List ℕ
taken_text None = []
taken_text (Some reply) = reply_text reply

-- The next call was made, and its packet is in the buffer.
pub record CallPut (call : Action) (node : ℕ) (old new : Calls) (before after : List ℕ)
    (lengths : Lengths) : Type 0 where
  pub may : refusal_of old ≡ None
  pub goes : new ≡ with_call old call
  pub put : IsPutInFront [] (text_of (call_packet old.task node call)) before after lengths

-- The reply in the packet, if it is one to the outstanding call, is taken, and is in the buffer.
pub record ReplyPut (read : Result Message PacketReason) (old new : Calls) (before after : List ℕ)
    (lengths : Lengths) : Type 0 where
  pub packet : Message
  pub is : read ≡ Ok packet
  pub goes : new ≡ once_taken old (reply_taken old packet)
  pub put : IsPutInFront [] (taken_text (reply_taken old packet)) before after lengths

-- Why a packet was not taken: the bytes are no packet, or memory ran out for one that takes memory
-- to read.
abbrev pub NotTaken : List ℕ → Fault → Type 0
NotTaken bytes (faults.BadPacket reason) = all_of bytes ≡ Err reason
NotTaken bytes faults.OutOfMemory = IsLongText bytes
NotTaken bytes _ = ⊥

-- Nothing changed, and the answer is a fault, for a reason that holds.
abbrev pub IsRefusedBy : (Fault → Type 0) → Calls → Calls → List ℕ → List ℕ → Refusal → Type 0
IsRefusedBy IsReason old new before after refusal =
    IsSameTask old new before after
    × ((fault : Fault) × (refusal ≡ refusals.Fault fault) × IsReason fault)

-- The answer to a request for this call through a node.
abbrev pub CallDoes : Action → ℕ → Calls → Calls → List ℕ → List ℕ → Result Lengths Refusal → Type 0
CallDoes call node old new before after (Ok lengths) =
    CallPut call node old new before after lengths
CallDoes call node old new before after (Err refusal) =
    IsRefusedBy (λ fault. refusal_of old ≡ Some fault) old new before after refusal

-- The answer to a request for the packet of the outstanding call again.
abbrev pub AgainDoes : ℕ → Calls → Calls → List ℕ → List ℕ → Result Lengths Refusal → Type 0
AgainDoes node old new before after (Ok lengths) =
    (new ≡ old) × IsPutInFront [] (again_text old.task node old.outstanding) before after lengths
AgainDoes node old new before after (Err refusal) = ⊥

-- The answer to a packet.
abbrev pub TakeDoes : List ℕ → Calls → Calls → List ℕ → List ℕ → Result Lengths Refusal → Type 0
TakeDoes bytes old new before after (Ok lengths) =
    ReplyPut (all_of bytes) old new before after lengths
TakeDoes bytes old new before after (Err refusal) =
    IsRefusedBy (NotTaken bytes) old new before after refusal

-- The answer to a request, if it is one.
abbrev pub TaskDoes : Option TaskAsked → Calls → Calls → List ℕ → List ℕ → Result Lengths Refusal
    → Type 0
TaskDoes None old new before after result =
    IsSameTask old new before after × (result ≡ Err refusals.BadRequest)
TaskDoes (Some (MakeCall node object operation arg)) old new before after result =
    CallDoes (next_call old.task old.made object operation arg) node old new before after result
TaskDoes (Some (SendAgain node)) old new before after result =
    AgainDoes node old new before after result
TaskDoes (Some (TakePacket bytes)) old new before after result =
    TakeDoes bytes old new before after result

-- The buffer has too few bytes for any answer, and nothing changed.
pub record IsShort (old new : Calls) (before after : List ℕ) (result : Result Lengths Refusal)
    : Type 0 where
  pub same : IsSameTask old new before after
  pub short : length before < task_bytes
  pub is : result ≡ Err (refusals.ShortAnswer task_bytes)

-- The buffer is too short for any answer, or has room, and the task does what is asked.
abbrev pub TaskAnswers : Option TaskAsked → Calls → Calls → List ℕ → List ℕ → Result Lengths Refusal
    → Type 0
TaskAnswers asked old new before after result =
    IsShort old new before after result
    ⊎ ((task_bytes ≤ length before) × TaskDoes asked old new before after result)
