-- The results of the calls of a task's seat.
use Rattle.std.specs.Prelude.{◌≡◌, ◌⊎◌, ℕ, suc, Option, Some, None, Ok, Err, List, [], ◌∷◌, length}
use Rattle.std.specs.Prelude.{slice_get}
use Rattle.rp_base.specs.Number.{IsTask}
use Rattle.rp_base.specs.Sets.{Has}
use Rattle.rp_base.specs.declared.action.Action.{Action}
use Rattle.rp_base.specs.declared.config.Config.{Config}
use Rattle.rp_base.specs.declared.fault.Fault.{Fault}
use Rattle.rp_base.specs.declared.fault.Fault.TheVariants.{OutOfMemory}
use Rattle.rp_base.specs.declared.reply.Answer.{Answer}
use Rattle.rp_base.specs.declared.reply.Reply.{Reply}
use Rattle.rp_codec.specs.Message.{Message}
use Rattle.rp_codec.specs.Text.{text_of}
use Rattle.rp_model.specs.rp_machine.specs.Places.{HasReply}
use Rattle.rp_model.specs.rp_machine.specs.Replay.{counted_of}
use Rattle.rp_model.specs.Effect.{Done, goes_on_as}
use Rattle.rp_model.specs.Parts.{TaskPart}
use Rattle.rp_model.specs.Tasks.{TaskInput, Take, asks, takes_reply, task_effect}
use Rattle.rp_model.specs.declared.effect.Dropped.TheVariants.{No}
use Rattle.rp_agreement.specs.Answered.{AreItsCalls, named}
use Rattle.rp_agreement.specs.Inputs.{WaitsForOwn}
use Rattle.rp_actors.specs.rp_outbox.specs.Packets.{texts_of}
use Rattle.rp_actors.specs.rp_replica.specs.declared.sent.Sent.{Sent}
use Rattle.rp_actors.specs.Callers.{Caller}
use Rattle.rp_board.specs.Parts.{Part, Role, OfTask, task_of, part_after}
use Rattle.rp_board.specs.Seats.{SeatSetup, SeatState}

-- The stub is the task of a seat with this setup, of this role; it knows what all nodes share, and
-- waits only for a valid call of its own.
pub record IsTaskAt {P : Type 0} (mine : Config) (caller : Caller) (setup : SeatSetup P)
    (role : Role) : Type 0 where
  pub task : IsTask caller.task
  pub is : role ≡ OfTask caller.part
  pub named : caller.task ≡ setup.number
  pub shared : mine ≡ setup.config
  pub waits : WaitsForOwn setup.number caller.part

-- ---- calls

-- the packet by which a task asks a node for a call, if there is one
abbrev pub asked_of : ℕ → ℕ → Option Action → List Message
asked_of task node None = []
asked_of task node (Some call) = asks task node call ∷ []

-- these packets were sent, and the bytes are their texts
pub record DescribesPackets (sent : Sent) (packets : List Message) : Type 0 where
  pub bytes : sent.bytes.items ≡ texts_of packets
  pub count : sent.packets ≡ length packets
  pub dropped : sent.dropped ≡ No

module _ {P : Type 0} (old : SeatState P) (input : TaskInput) (new : SeatState P) where
  -- One event: the result of the input at the task, and its packets.
  pub record IsTaskTurn (sent : Sent) : Type 0 where
    pub task : TaskPart
    pub was : old.part.role ≡ OfTask task
    pub done : Done TaskPart
    pub results : task_effect old.setup.config old.setup.number task input ≡ Ok done
    pub after : new ≡ record old { part = part_after old.part (OfTask done.part) done.sends }
    pub describes : DescribesPackets sent done.sends

  -- No event: memory ran out for the result of the input, or the input is refused.
  pub record IsNoTaskTurn (fault : Fault) : Type 0 where
    pub unchanged : new ≡ old
    pub task : TaskPart
    pub was : old.part.role ≡ OfTask task
    pub why : ((fault ≡ OutOfMemory) × (done : Done TaskPart)
        × (task_effect old.setup.config old.setup.number task input ≡ Ok done))
        ⊎ (task_effect old.setup.config old.setup.number task input ≡ Err fault)

-- ---- replies

-- the effect of a reply on a task: the number of a call and the reply to it, or nothing
abbrev pub reply_effect : ℕ → TaskPart → Option (ℕ × Reply) → Done TaskPart
reply_effect task part None = goes_on_as part
reply_effect task part (Some stated) = takes_reply task part stated.0 stated.1

-- One event: the packet with this text, which the seat got, arrives at the task, and this answer is
-- taken.
pub record IsReplyTurn {P : Type 0} (old : SeatState P) (bytes : List ℕ) (new : SeatState P)
    (taken : Option Answer) : Type 0 where
  pub packet : Message
  pub got : Has packet old.part.got
  pub text : bytes ≡ text_of packet
  pub task : TaskPart
  pub was : old.part.role ≡ OfTask task
  pub done : Done TaskPart
  pub results : task_effect old.setup.config old.setup.number task (Take packet) ≡ Ok done
  pub after : new ≡ record old { part = part_after old.part (OfTask done.part) done.sends }
  pub stated : taken ≡ done.taken

-- Each reply of the task is the order's answer to its call, which takes effect at one place; and
-- the task's calls that count in the order are those that it made, in order: all of them, or all
-- but the one that it waits for.
pub record IsOfOrder {S : Type 0} (next : S → Action → S) (answers : S → Action → List Answer)
    (begin : S) (order : List Action) (number : ℕ) (part : Part) : Type 0 where
  pub replies : (k : ℕ) (answer : Answer) → slice_get (task_of part.role).replies k ≡ Some answer
      → HasReply next answers begin order (named number (suc k)) answer
  pub calls : AreItsCalls part.sent number (task_of part.role) (counted_of next answers begin order)
