-- The output of a deck's script.
use Rattle.std.specs.Prelude.{ℕ, ℤ, pos, Bool, List, replicate}
use Rattle.std.specs.Arc.{arc_value}
use Rattle.rp_object.specs.rp_machine.specs.TallyRule.{tally_next, tally_answers, tally_image}
use Rattle.rp_object.specs.Image.{objects_image}
use Rattle.rp_object.specs.State.{first_state, Running as ObjectsState}
use Rattle.rp_object.specs.declared.program.Program.{Program}
use Rattle.rp_object.specs.Step.{objects_next, objects_answers}
use Rattle.rp_run.specs.Output.{RunSetting, text_of_said, names_of, run_said}
use Rattle.rp_deck.specs.declared.deck.Deck.{Deck}
use Rattle.rp_deck.specs.rp_deck_declarations.specs.declared.deck_program.DeckProgram.{DeckProgram}
use Rattle.rp_deck.specs.rp_deck_declarations.specs.declared.deck_program.DeckProgram.TheVariants.{Tally}
use Rattle.rp_deck.specs.rp_deck_declarations.specs.declared.deck_program.DeckProgram.TheVariants.{Objects}

-- the most messages that one `drain` of a deck delivers
abbrev pub drain_limit : ℕ
drain_limit = 100000

-- the output of a deck's script with a machine
abbrev pub output_at : {S : Type 0} → ℕ → Deck → RunSetting S → List ℕ
output_at most deck s = text_of_said (run_said s most deck.script.items)

-- a run of a tally of n sums
abbrev pub tally_run : Bool → Deck → ℕ → RunSetting (List ℤ)
tally_run traced deck objects = record {
  setting =
      record {
        config = deck.config;
        next = tally_next;
        answers = tally_answers;
        begin = replicate objects (pos 0);
      };
  image = tally_image;
  names = names_of deck.tasks;
  traced = traced;
}

-- a run of the protected objects of a program
abbrev pub objects_run : Bool → Deck → Program → RunSetting ObjectsState
objects_run traced deck program = record {
  setting =
      record {
        config = deck.config;
        next = objects_next;
        answers = objects_answers;
        begin = first_state (arc_value program.declarations);
      };
  image = objects_image;
  names = names_of deck.tasks;
  traced = traced;
}

-- the output of a deck, with or without packets
abbrev pub output_by : Bool → Deck → DeckProgram → List ℕ
output_by traced deck (Tally objects) = output_at drain_limit deck (tally_run traced deck objects)
output_by traced deck (Objects program) =
    output_at drain_limit deck (objects_run traced deck program)

abbrev pub output_of : Bool → Deck → List ℕ
output_of traced deck = output_by traced deck deck.program
