-- Pending steps that become events of a history.
use Rattle.std.specs.Prelude.{◌≡◌, ◌≢◌, ℕ, Some, List, [], ◌∷◌, ◌++◌, length}
use Rattle.rp_store.specs.rp_base.specs.Sets.{Has}
use Rattle.rp_store.specs.rp_base.specs.declared.action.Action.{Action}
use Rattle.rp_store.specs.rp_base.specs.declared.action.Action.TheVariants.{Interrupt, Tick}
use Rattle.rp_store.specs.rp_codec.specs.Message.{Message}
use Rattle.rp_store.specs.Records.{AreRecordsOf}
use Rattle.rp_agreement.specs.rp_model.specs.Effect.{Setting}
use Rattle.rp_agreement.specs.rp_model.specs.Events.{Event, Makes}
use Rattle.rp_agreement.specs.rp_model.specs.Events as events
use Rattle.rp_agreement.specs.rp_model.specs.Parts.{NodePart}
use Rattle.rp_agreement.specs.rp_model.specs.World.{World, part_at}
use Rattle.rp_agreement.specs.History.{IsHistory}
use Rattle.rp_agreement.specs.Order.{AllSent}
use Rattle.rp_installations.specs.Pending.{PendingStep, AreSteps, after_steps, noted_in}

-- the interrupt or the tick that an event notes at a node
abbrev pub notes_of : Event → List Action
notes_of (Makes (events.Interrupt me source occurrence)) = Interrupt source occurrence ∷ []
notes_of (Makes (events.Tick me now)) = Tick now ∷ []
notes_of event = []

-- the events note none but these
abbrev pub NoteOnly : List Event → List Action → Type 0
NoteOnly happened noted =
    (event : Event) → Has event happened → (v : Action) → Has v (notes_of event) → Has v noted

-- each of the one is one of the others
abbrev pub AreAmong : List Action → List Action → Type 0
AreAmong some others = (v : Action) → Has v some → Has v others

-- Further events lead to a world in which the node of this number has this part, every other node
-- and each task is as it was, and all that was sent is. They note no interrupts and ticks but
-- these.
pub record GoesOnTo {S : Type 0} (s : Setting S) (events : List Event) (w : World) (me : ℕ)
    (reached : NodePart) : Type 0 where
  pub more : List Event
  pub world : World
  pub history : IsHistory s (events ++ more) world
  pub here : part_at world.nodes me ≡ Some reached
  pub others : (k : ℕ) → k ≢ me → part_at world.nodes k ≡ part_at w.nodes k
  pub tasks : world.tasks ≡ w.tasks
  pub sent : AllSent w.sent world.sent
  pub noted : List Action
  pub notes : NoteOnly more noted

-- each packet of these steps was sent
abbrev pub AreAllSent : List Message → List PendingStep → Type 0
AreAllSent sent steps =
    (step : PendingStep) → Has step steps → (m : Message) → Has m step.turn.sent → Has m sent

-- The first steps are events, and the others are pending still.
pub record Made {S : Type 0} (s : Setting S) (events : List Event) (w : World) (me : ℕ)
    (part : NodePart) (front back : List PendingStep) : Type 0 where
  pub leads : GoesOnTo s events w me (after_steps part front)
  pub pending : AreSteps s leads.world.sent me (after_steps part front) back
  pub packets : AreAllSent leads.world.sent front
  pub noted : AreAmong leads.noted (noted_in front)

-- A stop that leaves these bytes, which begin with those of the node's records. Right events lead
-- to a part whose records are those that the bytes begin with, and the others are torn. They note
-- no interrupts and ticks but those of the steps.
pub record Stopped {S : Type 0} (s : Setting S) (events : List Event) (w : World) (me : ℕ)
    (steps : List PendingStep) (bytes : List ℕ) : Type 0 where
  pub reached : NodePart
  pub leads : GoesOnTo s events w me reached
  pub torn : List ℕ
  pub records : AreRecordsOf bytes reached.records torn
  pub length_is : reached.torn ≡ length torn
  pub noted : AreAmong leads.noted (noted_in steps)
