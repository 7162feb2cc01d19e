-- Which lines of a script live mode takes.
use Rattle.std.specs.Prelude.{All}
use Rattle.rp_model.specs.declared.event.Event.{Event}
use Rattle.rp_model.specs.declared.event.Event.TheVariants.{Submit, Again, Node, Cut, Stop, Restart}
use Rattle.rp_model.specs.declared.event.Step.{Step}
use Rattle.rp_model.specs.declared.event.Step.TheVariants.{Deliver, Lead, LeadRange, Interrupt}
use Rattle.rp_model.specs.declared.event.Step.TheVariants.{Tick, Report, Ask}
use Rattle.rp_deck.specs.declared.deck.Command.{Command}
use Rattle.rp_deck.specs.declared.deck.Command.TheVariants.{Take, Lose, Drain, Show}
use Rattle.rp_deck.specs.declared.deck.Deck.{Deck}
use Rattle.rp_deck.specs.declared.deck.Mode.{Mode}
use Rattle.rp_deck.specs.declared.deck.Mode.TheVariants.{Script, Live}

-- an interrupt or a tick at a node
abbrev pub IsLiveStep : Step → Type 0
IsLiveStep (Deliver message) = ⊥
IsLiveStep (Lead node position) = ⊥
IsLiveStep (LeadRange node first count) = ⊥
IsLiveStep (Interrupt node interrupt) = Unit {0}
IsLiveStep (Tick node now) = Unit {0}
IsLiveStep (Report node first) = ⊥
IsLiveStep (Ask node to) = ⊥

-- a call of a task, or an interrupt or a tick at a node
abbrev pub IsLiveEvent : Event → Type 0
IsLiveEvent (Submit task node object operation arg) = Unit {0}
IsLiveEvent (Again task node) = ⊥
IsLiveEvent (Node step) = IsLiveStep step
IsLiveEvent (Cut step kept) = ⊥
IsLiveEvent (Stop node) = ⊥
IsLiveEvent (Restart node) = ⊥

-- a command that asks for such an event
abbrev pub IsLiveCommand : Command → Type 0
IsLiveCommand (Take event) = IsLiveEvent event
IsLiveCommand (Lose first last) = ⊥
IsLiveCommand Drain = ⊥
IsLiveCommand Show = ⊥

-- the mode takes the command
abbrev pub IsTaken : Mode → Command → Type 0
IsTaken Script command = Unit {0}
IsTaken Live command = IsLiveCommand command

-- the mode takes every line of the deck's script
abbrev pub IsDeckFor : Mode → Deck → Type 0
IsDeckFor mode deck = All (λ line. IsTaken mode line.command) deck.script.items
