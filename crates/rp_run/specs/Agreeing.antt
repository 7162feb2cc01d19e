-- What holds of the output of a script's run, and of its world after any two lines.
use Rattle.std.specs.Prelude.{◌≡◌, ℕ, suc, ◌≤◌, Option, Some, List, ◌++◌, length, slice_get, take}
use Rattle.std.specs.Io.KnownBytes.{Appends}
use Rattle.rp_base.specs.Records.{applied_of}
use Rattle.rp_base.specs.Sets.{Has}
use Rattle.rp_base.specs.declared.action.Action.{Action}
use Rattle.rp_base.specs.declared.action.Action.TheVariants.{Noop, Call, Interrupt, Tick}
use Rattle.rp_base.specs.declared.reply.Answer.{Answer}
use Rattle.rp_model.specs.rp_machine.specs.Calls.{call_of}
use Rattle.rp_model.specs.rp_machine.specs.Places.{HasReply}
use Rattle.rp_model.specs.rp_machine.specs.Replay.{replay_state}
use Rattle.rp_model.specs.Events as events
use Rattle.rp_model.specs.Events.{Event, Submit, Makes, event_of}
use Rattle.rp_model.specs.Parts.{NodePart, Running, TaskPart}
use Rattle.rp_model.specs.World.{World, part_at}
use Rattle.rp_model.specs.declared.event.Event.{Event as TakenEvent}
use Rattle.rp_world.specs.Agreeing.{Agree, IsOrdered}
use Rattle.rp_run.specs.Items.{Item, Replied, Shown, Asked, asked_by, replies_by, items_text}
use Rattle.rp_run.specs.Output.{RunSetting, run_said}
use Rattle.rp_output.specs.Trace.{task_name}
use Rattle.rp_deck.specs.declared.deck.Command.TheVariants.{Take, Show}
use Rattle.rp_deck.specs.declared.deck.Line.{Line}

-- the call of a task, with this number, that asks for this
abbrev pub call_for : ℕ → ℕ → Asked → Action
call_for task number asked = Call task number asked.object asked.operation asked.arg

-- the node runs in this world, and has applied n actions
pub record HasApplied (w : World) (node applied : ℕ) : Type 0 where
  pub part : NodePart
  pub part_is : part_at w.nodes node ≡ Some part
  pub running : Running
  pub runs : part.running ≡ Some running
  pub applied_is : applied ≡ length (applied_of part.records)

-- One of these lines asks for the event.
pub record IsAskedIn (lines : List Line) (event : Event) : Type 0 where
  pub line : Line
  pub has : Has line lines
  pub taken : TakenEvent
  pub takes : line.command ≡ Take taken
  pub is : event_of taken ≡ event

-- One of these lines asked for the call, with its object, operation and argument; the interrupt or
-- the tick was noted at some node by one.
abbrev pub IsNotedIn : List Line → Action → Type 0
IsNotedIn lines Noop = Unit {0}
IsNotedIn lines (Call task number object operation arg) =
    (node : ℕ) × IsAskedIn lines (Submit task node object operation arg)
IsNotedIn lines (Interrupt source occurrence) =
    (me : ℕ) × IsAskedIn lines (Makes (events.Interrupt me source occurrence))
IsNotedIn lines (Tick now) = (me : ℕ) × IsAskedIn lines (Makes (events.Tick me now))

module _ {S : Type 0} (s : RunSetting S) where
  abbrev pub HasReplyIn : List Action → Answer → Type 0
  HasReplyIn order answer =
      HasReply s.setting.next s.setting.answers s.setting.begin order (call_of answer) answer

  -- If a node is shown with n applied actions, the order has at least n, and the image is that
  -- of the state to which its first n actions lead.
  pub record IsShownBy (order : List Action) (applied : ℕ) (image : List ℕ) : Type 0 where
    pub reached : applied ≤ length order
    pub image_is : image ≡ s.image
        (replay_state s.setting.next s.setting.answers s.setting.begin (take applied order))

  -- A reply of number k under a task's name is the answer that the order gives to the task's kth
  -- call, which takes effect at one place; and the action there is what the task's kth call among
  -- the items asked for.
  pub record IsRepliedBy (order : List Action) (items : List Item) (name : List ℕ) (answer : Answer)
      : Type 0 where
    pub under : name ≡ task_name s.names answer.task
    pub reply : HasReplyIn order answer
    pub asked : Asked
    pub was_asked : part_at (asked_by answer.task items) answer.number ≡ Some asked
    pub action_is : reply.takes_effect.is_place.action ≡ call_for answer.task answer.number asked

  -- One order of the world gives each state that is shown and each reply that is taken; so nodes
  -- that are shown with equally many applied actions show equal images. And the replies of each
  -- task are all that it took, each once and in order.
  pub record IsPrinted (w : World) (items : List Item) : Type 0 where
    pub ordered : IsOrdered s.setting.next s.setting.answers s.setting.begin
        s.setting.config.nodes w
    pub shown : (node applied : ℕ) (image : List ℕ) → Has (Shown node applied image) items
        → IsShownBy ordered.order applied image
    pub replied : (name : List ℕ) (answer : Answer) → Has (Replied name answer) items
        → IsRepliedBy ordered.order items name answer
    pub all : (task : ℕ) (part : TaskPart) → part_at w.tasks task ≡ Some part
        → replies_by task items ≡ part.replies
    pub alike : (one other applied : ℕ) (image another : List ℕ)
        → Has (Shown one applied image) items → Has (Shown other applied another) items
        → image ≡ another

  -- What a line adds to the items: it shows none but nodes that run, each with as many actions as
  -- that node has applied in the world before the line; and `show` shows all of these.
  pub record ShowsNodes (before : World) (line : Option Line) (items after : List Item)
      : Type 0 where
    pub added : List Item
    pub after_is : after ≡ items ++ added
    pub own : (node applied : ℕ) (image : List ℕ) → Has (Shown node applied image) added
        → HasApplied before node applied
    pub each : (show : Line) → line ≡ Some show → show.command ≡ Show
        → (node applied : ℕ) → node ≤ s.setting.config.nodes → HasApplied before node applied
        → (image : List ℕ) × Has (Shown node applied image) added

  module _ (most : ℕ) (lines : List Line) where
    -- the world after the first n lines
    abbrev pub world_after : ℕ → World
    world_after count = (run_said s most (take count lines)).play.world

    -- the items of the first n lines
    abbrev pub items_after : ℕ → List Item
    items_after count = (run_said s most (take count lines)).items

    -- one order gives everything that the run prints
    abbrev pub RunIsPrinted : Type 0
    RunIsPrinted = IsPrinted (run_said s most lines).play.world (run_said s most lines).items

    -- After any number of lines one order gives all that they print, and each call, interrupt and
    -- tick in it was asked for or noted by one of them; nodes agree, one after some lines and the
    -- other after as many or more; and each line shows the nodes as they are then.
    pub record RunAgrees : Type 0 where
      pub agree : (i j : ℕ) → i ≤ j
          → Agree s.setting.next s.setting.answers s.image s.setting.begin
          (world_after i) (world_after j)
      pub printed : (i : ℕ) → IsPrinted (world_after i) (items_after i)
      pub noted : (i k : ℕ) (v : Action) → slice_get (printed i).ordered.order k ≡ Some v
          → IsNotedIn (take i lines) v
      pub shows : (i : ℕ) → ShowsNodes (world_after i) (slice_get lines i)
          (items_after i) (items_after (suc i))

    -- The texts of the items of all lines were written, one order gives them, and nodes agree.
    pub record RunPrints (old new : Option (List ℕ)) : Type 0 where
      pub written : Appends old new (items_text (run_said s most lines).items)
      pub printed : RunIsPrinted
      pub agrees : RunAgrees
