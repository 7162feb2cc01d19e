-- Decks and their scripts, as their texts say them.
use Rattle.std.specs.Prelude.{map}
use Rattle.rp_model.specs.Events.{event_of}
use Rattle.rp_deck_declarations.specs.DeclaredViews.{declared_as}
use Rattle.rp_deck.specs.declared.deck.Command.{Command}
use Rattle.rp_deck.specs.declared.deck.Command.TheVariants as commands
use Rattle.rp_deck.specs.declared.deck.Deck.{Deck}
use Rattle.rp_deck.specs.declared.deck.Line.{Line}
use Rattle.rp_deck.specs.Meaning.{DeckText}
use Rattle.rp_deck.specs.ScriptLines.{LineCommand, CommandText, Take, Lose, Drain, Show}

abbrev pub command_text : Command → CommandText
command_text (commands.Take event) = Take (event_of event)
command_text (commands.Lose first last) = Lose first last
command_text commands.Drain = Drain
command_text commands.Show = Show

abbrev pub line_command : Line → LineCommand
line_command line = record { number = line.number; command = command_text line.command }

abbrev pub deck_text : Deck → DeckText
deck_text deck = record {
  declared =
      declared_as deck.config.nodes deck.config.max_positions deck.program deck.tasks deck.objects
      deck.interrupts deck.timers;
  script = map line_command deck.script.items;
}
