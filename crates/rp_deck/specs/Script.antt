-- What a script asks for.
use Rattle.std.specs.Prelude.{ℕ, ◌<◌, ◌≤◌, ◌^◌}
use Rattle.rp_words.specs.indexmap.specs.IndexMap.{index_map_len}
use Rattle.rp_words.specs.indexmap.specs.IndexSet.{index_set_len}
use Rattle.rp_words.specs.rp_base.specs.Action.{IsRightOperation}
use Rattle.rp_model.specs.Events.{IsRightEvent, event_of}
use Rattle.rp_model.specs.declared.event.Event.{Event}
use Rattle.rp_model.specs.declared.event.Event.TheVariants.{Submit, Again, Node, Cut, Stop, Restart}
use Rattle.rp_model.specs.declared.event.Step.{Step}
use Rattle.rp_model.specs.declared.event.Step.TheVariants.{Deliver, Lead, LeadRange, Interrupt}
use Rattle.rp_model.specs.declared.event.Step.TheVariants.{Tick, Report, Ask}
use Rattle.rp_deck.specs.declared.deck.Command.{Command}
use Rattle.rp_deck.specs.declared.deck.Command.TheVariants.{Take, Lose, Drain, Show}
use Rattle.rp_deck_declarations.specs.declared.deck_program.DeckProgram.{DeckProgram}
use Rattle.rp_deck.specs.declared.deck.Line.{Line}
use Rattle.rp_deck_declarations.specs.declared.declarations.Declared.{Declared}
use Rattle.rp_deck_declarations.specs.Programs.{IsOffered}

-- the number is 1 to the last one
abbrev pub IsUpTo : ℕ → ℕ → Type 0
IsUpTo last number = (1 ≤ number) × (number ≤ last)

-- a message that a script may name
abbrev pub IsMessage : ℕ → Type 0
IsMessage message = (1 ≤ message) × (message < 2 ^ 63)

-- a step names nodes of n
abbrev pub IsStepWithin : ℕ → Step → Type 0
IsStepWithin nodes (Deliver message) = IsMessage message
IsStepWithin nodes (Lead node position) = IsUpTo nodes node
IsStepWithin nodes (LeadRange node first count) = IsUpTo nodes node × IsUpTo 64 count
IsStepWithin nodes (Interrupt node interrupt) = IsUpTo nodes node
IsStepWithin nodes (Tick node now) = IsUpTo nodes node
IsStepWithin nodes (Report node first) = IsUpTo nodes node
IsStepWithin nodes (Ask node to) = ⊥

-- an event names nodes, tasks and objects of n
abbrev pub IsEventWithin : ℕ → ℕ → ℕ → Event → Type 0
IsEventWithin nodes tasks objects (Submit task node object operation arg) =
    IsUpTo tasks task × IsUpTo nodes node × IsUpTo objects object × IsRightOperation operation
IsEventWithin nodes tasks objects (Again task node) = IsUpTo tasks task × IsUpTo nodes node
IsEventWithin nodes tasks objects (Node step) = IsStepWithin nodes step
IsEventWithin nodes tasks objects (Cut step kept) = IsStepWithin nodes step
IsEventWithin nodes tasks objects (Stop node) = IsUpTo nodes node
IsEventWithin nodes tasks objects (Restart node) = IsUpTo nodes node

-- and so does a command
abbrev pub FitsIn : ℕ → ℕ → ℕ → Command → Type 0
FitsIn nodes tasks objects (Take event) = IsEventWithin nodes tasks objects event
FitsIn nodes tasks objects (Lose first last) = IsMessage first × IsMessage last
FitsIn nodes tasks objects Drain = Unit {0}
FitsIn nodes tasks objects Show = Unit {0}

-- the numbers of a command's event are within the ranges of their types
abbrev pub KeepsRanges : Command → Type 0
KeepsRanges (Take event) = IsRightEvent (event_of event)
KeepsRanges (Lose first last) = Unit {0}
KeepsRanges Drain = Unit {0}
KeepsRanges Show = Unit {0}

-- an interrupt that a step notes is one of the first n
abbrev pub IsStepDeclared : ℕ → Step → Type 0
IsStepDeclared interrupts (Deliver message) = Unit {0}
IsStepDeclared interrupts (Lead node position) = Unit {0}
IsStepDeclared interrupts (LeadRange node first count) = Unit {0}
IsStepDeclared interrupts (Interrupt node interrupt) = IsUpTo interrupts interrupt.source
IsStepDeclared interrupts (Tick node now) = Unit {0}
IsStepDeclared interrupts (Report node first) = Unit {0}
IsStepDeclared interrupts (Ask node to) = ⊥

-- an event calls what the program has, and notes one of its n interrupts
abbrev pub IsEventDeclared : DeckProgram → ℕ → Event → Type 0
IsEventDeclared program interrupts (Submit task node object operation arg) =
    IsOffered program object operation
IsEventDeclared program interrupts (Again task node) = Unit {0}
IsEventDeclared program interrupts (Node step) = IsStepDeclared interrupts step
IsEventDeclared program interrupts (Cut step kept) = IsStepDeclared interrupts step
IsEventDeclared program interrupts (Stop node) = Unit {0}
IsEventDeclared program interrupts (Restart node) = Unit {0}

-- and so does a command
abbrev pub IsCommandDeclared : DeckProgram → ℕ → Command → Type 0
IsCommandDeclared program interrupts (Take event) = IsEventDeclared program interrupts event
IsCommandDeclared program interrupts (Lose first last) = Unit {0}
IsCommandDeclared program interrupts Drain = Unit {0}
IsCommandDeclared program interrupts Show = Unit {0}

-- an event names what is declared
abbrev pub IsEventOfDeck : Declared → Event → Type 0
IsEventOfDeck declared event =
    IsEventWithin declared.nodes (index_map_len declared.tasks) (index_set_len declared.objects)
    event
    × IsEventDeclared declared.program (index_map_len declared.interrupts) event

-- and so does a command
abbrev pub IsRightCommand : Declared → Command → Type 0
IsRightCommand declared command =
    FitsIn declared.nodes (index_map_len declared.tasks) (index_set_len declared.objects) command
    × IsCommandDeclared declared.program (index_map_len declared.interrupts) command

-- and so does a line
abbrev pub IsRightLine : Declared → Line → Type 0
IsRightLine declared line = IsRightCommand declared line.command
