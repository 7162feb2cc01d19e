-- What a step chooses: a fact of each case is a fact of what is chosen.
use Rattle.std.proofs.Common.{◌≡◌, ℕ, Option, Some, None, refl}
use Rattle.rp_base.specs.declared.fault.Fault.TheVariants.{NoSuchMessage, BadConfig}
use Rattle.rp_codec.specs.Message.{Message}
use Rattle.rp_codec.specs.declared.packet.Party.{Party}
use Rattle.rp_codec.specs.declared.packet.Party.TheVariants.{Node, Task, Audit}
use Rattle.rp_model.specs.Parts.{NodePart, TaskPart, Running}
use Rattle.rp_model.specs.Effect as nodes
use Rattle.rp_model.specs.Effect.{NodeInput}
use Rattle.rp_model.specs.Events.{Step, Deliver, Lead, LeadRange, Interrupt, Tick, Report, Ask}
use Rattle.rp_model.specs.World.{World, part_at, Chosen, NodeTakes, TaskTakes, LostFor, RefusedTo}
use Rattle.rp_model.specs.World.{commanded, reaches_node, reaches_number, reaches_task, reaches, delivers, chosen}

-- the inputs that a step may give to a node satisfy this: a packet that was sent, or its command
abbrev pub GivesOnly : World → (NodeInput → Type 0) → Step → Type 0
GivesOnly w Q (Deliver number) = (message : Message) → part_at w.sent number ≡ Some message → Q (nodes.Receive message)
GivesOnly w Q (Lead me choice) = Q (nodes.Lead choice)
GivesOnly w Q (LeadRange me first count) = Q (nodes.LeadRange first count)
GivesOnly w Q (Interrupt me source occurrence) = Q (nodes.Interrupt source occurrence)
GivesOnly w Q (Tick me now) = Q (nodes.Tick now)
GivesOnly w Q (Report me first) = Q (nodes.Report first)
GivesOnly w Q (Ask me to) = Q (nodes.Ask to)

abbrev pub any_given : NodeInput → Type 0
any_given input = Unit {0}

pub gives_any : (w : World) (step : Step) → GivesOnly w any_given step
gives_any w (Deliver number) = λ message is. tt
gives_any w (Lead me choice) = tt
gives_any w (LeadRange me first count) = tt
gives_any w (Interrupt me source occurrence) = tt
gives_any w (Tick me now) = tt
gives_any w (Report me first) = tt
gives_any w (Ask me to) = tt

-- the packet was sent, to this task
pub record SentTo (w : World) (task : ℕ) (message : Message) : Type 0 where
  pub number : ℕ
  pub sent : part_at w.sent number ≡ Some message
  pub receiver : message.to ≡ Task task

-- What holds where a node takes one of these inputs, where a task takes a packet that was sent to it, where a packet
-- is lost, where none was sent, and where there is no such node, holds of what a step chooses.
module _ (w : World) (Q : NodeInput → Type 0) (P : Chosen → Type 0)
    (node : (me : ℕ) (part : NodePart) (input : NodeInput) → part_at w.nodes me ≡ Some part → Q input → P (NodeTakes me part input))
    (task : (t : ℕ) (part : TaskPart) (message : Message) → part_at w.tasks t ≡ Some part → SentTo w t message → P (TaskTakes t part message))
    (lost : (whom : Option ℕ) → P (LostFor whom))
    (unsent : P (RefusedTo None NoSuchMessage))
    (no_node : (me : ℕ) → part_at w.nodes me ≡ None → P (RefusedTo (Some me) BadConfig)) where
  by_command : (me : ℕ) (input : NodeInput) (part : Option NodePart) → part_at w.nodes me ≡ part → Q input → P (commanded me input part)
  by_command me input None here given = no_node me here
  by_command me input (Some part) here given = node me part input here given

  by_running : (me : ℕ) (message : Message) (part : NodePart) (running : Option Running) → part_at w.nodes me ≡ Some part → Q (nodes.Receive message)
      → P (reaches_node me message part running)
  by_running me message part None here given = lost (Some me)
  by_running me message part (Some running) here given = node me part (nodes.Receive message) here given

  by_number : (me : ℕ) (message : Message) (part : Option NodePart) → part_at w.nodes me ≡ part → Q (nodes.Receive message) → P (reaches_number me message part)
  by_number me message None here given = lost (Some me)
  by_number me message (Some part) here given = by_running me message part part.running here given

  by_task : (t : ℕ) (message : Message) (part : Option TaskPart) → part_at w.tasks t ≡ part → SentTo w t message → P (reaches_task t message part)
  by_task t message None here sent = lost None
  by_task t message (Some part) here sent = task t part message here sent

  by_party : (number : ℕ) (message : Message) (party : Party) → part_at w.sent number ≡ Some message → message.to ≡ party → Q (nodes.Receive message)
      → P (reaches w message party)
  by_party number message (Node me) sent to given = by_number me message (part_at w.nodes me) refl given
  by_party number message (Task t) sent to given = by_task t message (part_at w.tasks t) refl (record { number = number; sent = sent; receiver = to })
  by_party number message Audit sent to given = lost None

  by_packet : (number : ℕ) (message : Option Message) → part_at w.sent number ≡ message → ((m : Message) → part_at w.sent number ≡ Some m → Q (nodes.Receive m))
      → P (delivers w message)
  by_packet number None sent given = unsent
  by_packet number (Some message) sent given = by_party number message message.to sent refl (given message sent)

  pub by_chosen : (step : Step) → GivesOnly w Q step → P (chosen w step)
  by_chosen (Deliver number) given = by_packet number (part_at w.sent number) refl given
  by_chosen (Lead me choice) given = by_command me (nodes.Lead choice) (part_at w.nodes me) refl given
  by_chosen (LeadRange me first count) given = by_command me (nodes.LeadRange first count) (part_at w.nodes me) refl given
  by_chosen (Interrupt me source occurrence) given = by_command me (nodes.Interrupt source occurrence) (part_at w.nodes me) refl given
  by_chosen (Tick me now) given = by_command me (nodes.Tick now) (part_at w.nodes me) refl given
  by_chosen (Report me first) given = by_command me (nodes.Report first) (part_at w.nodes me) refl given
  by_chosen (Ask me to) given = by_command me (nodes.Ask to) (part_at w.nodes me) refl given
