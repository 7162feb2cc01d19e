-- The result of a run of a deck in threads.
use Rattle.std.specs.Prelude.{◌≡◌, ◌⊎◌, ℕ, pos, Option, Some, None, List, filter_map, replicate}
use Rattle.std.specs.Io.KnownBytes.{Appends}
use Rattle.std.specs.Arc.{arc_value}
use Rattle.rp_object.specs.rp_machine.specs.TallyRule.{tally_next, tally_answers}
use Rattle.rp_object.specs.State.{first_state}
use Rattle.rp_object.specs.Step.{objects_next, objects_answers}
use Rattle.rp_output.specs.rp_model.specs.declared.event.Event.{Event}
use Rattle.rp_live.specs.LiveOutcome.{IsLiveRun}
use Rattle.rp_live.specs.declared.figures.Figures.{Figures}
use Rattle.rp_live.specs.declared.run.LiveOutcome.{LiveOutcome}
use Rattle.rp_script.specs.Given.{MeansDeck}
use Rattle.rp_live_run.specs.LiveOutput.{outcome_text}
use Rattle.rp_run.specs.Output.{names_of}
use Rattle.rp_output.specs.Stream.{Begins}
use Rattle.rp_deck.specs.Live.{IsDeckFor}
use Rattle.rp_deck.specs.declared.deck.Command.{Command}
use Rattle.rp_deck.specs.declared.deck.Command.TheVariants.{Take, Lose, Drain, Show}
use Rattle.rp_deck.specs.declared.deck.Deck.{Deck}
use Rattle.rp_deck.specs.rp_deck_declarations.specs.declared.deck_program.DeckProgram.{DeckProgram}
use Rattle.rp_deck.specs.rp_deck_declarations.specs.declared.deck_program.DeckProgram.TheVariants.{Tally}
use Rattle.rp_deck.specs.rp_deck_declarations.specs.declared.deck_program.DeckProgram.TheVariants.{Objects}
use Rattle.rp_deck.specs.declared.deck.Line.{Line}
use Rattle.rp_deck.specs.declared.deck.Mode.TheVariants.{Live}

-- the event that a command asks for, if it asks for one
abbrev pub event_of : Command → Option Event
event_of (Take event) = Some event
event_of (Lose first last) = None
event_of Drain = None
event_of Show = None

-- the events that the lines of a script ask for, in order
abbrev pub events_of : List Line → List Event
events_of lines = filter_map (λ line. event_of line.command) lines

-- A run of a program over the configuration and the events of a deck may have this result, for the
-- seed and n turns.
abbrev pub IsOutcomeOf : Deck → DeckProgram → ℕ → ℕ → LiveOutcome → Type 0
IsOutcomeOf deck (Tally objects) seed turns outcome =
    IsLiveRun tally_next tally_answers (λ objects. replicate objects (pos 0)) deck.config objects
    (events_of deck.script.items) seed turns outcome
IsOutcomeOf deck (Objects program) seed turns outcome =
    IsLiveRun objects_next objects_answers
    (λ program. first_state (arc_value program.declarations)) deck.config program
    (events_of deck.script.items) seed turns outcome

-- a run of the deck's program may have this result
abbrev pub IsOutcome : Deck → ℕ → ℕ → LiveOutcome → Type 0
IsOutcome deck seed turns outcome = IsOutcomeOf deck deck.program seed turns outcome

-- A text of a possible result of the deck that the reader's bytes mean, for the seed and n turns,
-- and the figures of the same run.
pub record IsLiveText (seed turns : ℕ) (given : Option (List ℕ)) (text : List ℕ) (figures : Figures)
    : Type 0 where
  pub deck : Deck
  pub means : MeansDeck Live given deck
  pub taken : IsDeckFor Live deck
  pub outcome : LiveOutcome
  pub resulted : IsOutcome deck seed turns outcome
  pub text_is : text ≡ outcome_text (names_of deck.tasks) outcome
  pub figures_are : figures ≡ outcome.figures

-- what a run in threads prints: such a text, of a run with these figures
abbrev pub LivePrints : ℕ → ℕ → Option (List ℕ) → Option (List ℕ) → Option (List ℕ) → Figures
    → Type 0
LivePrints seed turns given old new figures =
    (text : List ℕ) × IsLiveText seed turns given text figures × Appends old new text

-- what it prints if a fault ends it: nothing, or a prefix of such a text
abbrev pub LiveBegins : ℕ → ℕ → Option (List ℕ) → Option (List ℕ) → Option (List ℕ) → Type 0
LiveBegins seed turns given old new =
    (new ≡ old) ⊎ ((text : List ℕ) × (figures : Figures) × IsLiveText seed turns given text figures
    × Begins old new text)
