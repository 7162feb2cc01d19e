-- The drawing of a deck's run.
use Rattle.std.specs.Prelude.{◌≡◌, ◌⊎◌, ℕ, ◌==◌, false, Option, Some, None, List, ◌++◌, codes}
use Rattle.std.specs.Prelude.{decimal, map}
use Rattle.std.specs.Io.KnownBytes.{Appends}
use Rattle.std.specs.List.{slice_split}
use Rattle.rp_script.specs.indexmap.specs.IndexMap.{index_map_len}
use Rattle.rp_history.specs.declared.view.ChartRequest.{ChartRequest}
use Rattle.rp_chart.specs.declared.chart.Outcome.{Outcome}
use Rattle.rp_chart.specs.declared.chart.Outcome.TheVariants.{Drawn, TooLong}
use Rattle.rp_chart.specs.ScriptHistory.{DrawnRun, script_happens}
use Rattle.rp_script.specs.rp_deck.specs.declared.deck.Deck.{Deck}
use Rattle.rp_script.specs.rp_deck.specs.declared.deck.Mode.TheVariants.{Script}
use Rattle.rp_script.specs.rp_deck_declarations.specs.declared.deck_program.DeckProgram.{DeckProgram}
use Rattle.rp_script.specs.rp_deck_declarations.specs.declared.deck_program.DeckProgram.TheVariants.{Tally}
use Rattle.rp_script.specs.rp_deck_declarations.specs.declared.deck_program.DeckProgram.TheVariants.{Objects}
use Rattle.rp_drawing.specs.Words.{fitted_text}
use Rattle.rp_history.specs.Histories.{LaneText}
use Rattle.rp_history.specs.Pages.{IsDrawnAs}
use Rattle.rp_history.specs.declared.stage.Stage.{Stage}
use Rattle.rp_history.specs.declared.view.View.{View}
use Rattle.rp_script.specs.rp_machine.specs.Replay.{one_to}
use Rattle.rp_script.specs.rp_output.specs.Stream.{Begins}
use Rattle.rp_script.specs.Given.{MeansDeck}
use Rattle.rp_script.specs.rp_run.specs.Output.{RunSetting, names_of, run_said}
use Rattle.rp_script.specs.Output.{drain_limit, tally_run, objects_run}

-- the lines of a text, without their ends
abbrev pub deck_lines : List ℕ → List (List ℕ)
deck_lines text = slice_split (λ byte. byte == 10) text

-- the lane of a task, under its name
abbrev pub task_lane : List ℕ → LaneText
task_lane name = record { name = fitted_text name; colour = 0 }

-- the lane of a node, under its number and in its colour
abbrev pub node_lane : ℕ → LaneText
node_lane node = record { name = fitted_text (codes "node " ++ decimal node); colour = node }

-- the lanes of tasks of these names, and then those of the nodes 1 to n
abbrev pub lanes_of : List (List ℕ) → ℕ → List LaneText
lanes_of names nodes = map task_lane names ++ map node_lane (one_to nodes)

-- the tasks' lanes are the first ones
abbrev pub stage_of : Deck → View → Stage
stage_of deck view = record { tasks = index_map_len deck.tasks; view = view }

-- the run of a deck of these lines, as it is drawn
abbrev pub drawn_run_of : {S : Type 0} → Deck → List (List ℕ) → ChartRequest → RunSetting S
    → DrawnRun S
drawn_run_of deck lines request s = record {
  run = s;
  deck = lines;
  stage = stage_of deck request.view;
  form = request.form;
}

-- The drawing of the history in which the lines of the deck's script happen, in order, or none if
-- it is too long. It is to the byte the page of a sketch of that history under the lanes of the
-- deck's tasks and nodes. It has the messages of that history as its arrows, and no others, each
-- from where it was sent down to where it was settled, and each moment has the label that the run
-- gives it. Or its page, with the same drawing, and a section for each moment.
abbrev pub IsChartAt : {S : Type 0} → Deck → List (List ℕ) → ChartRequest → Option (List ℕ)
    → RunSetting S → Type 0
IsChartAt deck lines request page s =
    IsDrawnAs request.form s.setting (stage_of deck request.view)
    (lanes_of (names_of deck.tasks) deck.config.nodes)
    (script_happens (drawn_run_of deck lines request s) drain_limit deck.script.items)
    (run_said s drain_limit deck.script.items).play.world page

abbrev pub IsChartBy : Deck → List (List ℕ) → ChartRequest → Option (List ℕ)
    → DeckProgram → Type 0
IsChartBy deck lines request page (Tally objects) =
    IsChartAt deck lines request page (tally_run false deck objects)
IsChartBy deck lines request page (Objects program) =
    IsChartAt deck lines request page (objects_run false deck program)

abbrev pub IsChartIfShort : Deck → List (List ℕ) → ChartRequest → Option (List ℕ) → Type 0
IsChartIfShort deck lines request page = IsChartBy deck lines request page deck.program

-- a chart of the deck that the reader's bytes mean, of which these are all lines
pub record ChartsBytes (request : ChartRequest) (given page : Option (List ℕ)) : Type 0 where
  pub deck : Deck
  pub means : MeansDeck Script given deck
  pub chart : IsChartIfShort deck (deck_lines means.meant.bytes) request page

-- what is written without a fault: the chart of the deck that the reader's bytes mean, or nothing
-- if it is too long
abbrev pub Draws : Outcome → ChartRequest → Option (List ℕ) → Option (List ℕ) → Option (List ℕ) → Type 0
Draws Drawn request given old new =
    (text : List ℕ) × Appends old new text × ChartsBytes request given (Some text)
Draws TooLong request given old new = (new ≡ old) × ChartsBytes request given None

-- what is written if a fault ends it: nothing, or a prefix of such a chart
abbrev pub DrawingBegins : ChartRequest → Option (List ℕ) → Option (List ℕ) → Option (List ℕ) → Type 0
DrawingBegins request given old new =
    (new ≡ old)
    ⊎ ((text : List ℕ) × ChartsBytes request given (Some text) × Begins old new text)
