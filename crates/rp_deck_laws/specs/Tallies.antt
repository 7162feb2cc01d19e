-- A deck of a tally as it is written: its text, what it means, and which are right.
use Rattle.std.specs.Prelude.{ℕ, ◌≤◌, ◌+◌, List, [], ◌∷◌, ◌++◌, codes, map, length, take, Option}
use Rattle.std.specs.Prelude.{None, IfSome, unwrap_or}
use Rattle.std.specs.Fmt.{decimal}
use Rattle.std.specs.List.{AllByRecursion}
use Rattle.rp_deck_declarations.specs.DeclaredTexts.{DeclaredText, Tally}
use Rattle.rp_deck.specs.Meaning.{DeckText}
use Rattle.rp_deck.specs.Script.{IsUpTo}
use Rattle.rp_deck_laws.specs.ScriptText.{text_of_lines, numbered_commands}
use Rattle.rp_deck_laws.specs.Named.{NamedTask, NamedObject, AProcedure, Empty, NamedDeck}
use Rattle.rp_deck_laws.specs.Named.{NamedCommand, task_names}
use Rattle.rp_deck_laws.specs.NamedTexts.{Line, positions_lines, task_line, command_words}
use Rattle.rp_deck_laws.specs.NamedMeanings.{command_meant}
use Rattle.rp_deck_laws.specs.RightDecks.{AreNames, IsRightTask, IsRightCommand}

-- n sums
pub record NamedTally : Type 0 where
  pub nodes : ℕ
  pub positions : Option ℕ
  pub tasks : List NamedTask
  pub count : ℕ
  pub script : List NamedCommand

-- their names
abbrev pub sum_names : ℕ → List (List ℕ)
sum_names count =
    take count
    (codes "o1" ∷ codes "o2" ∷ codes "o3" ∷ codes "o4" ∷ codes "o5" ∷ codes "o6" ∷ codes "o7"
    ∷ codes "o8" ∷ [])

-- a sum is called as an object that has the procedure `add` alone
abbrev pub sum_object : List ℕ → NamedObject
sum_object name = record {
  name = name;
  ceiling = 1;
  parts = AProcedure (record { name = codes "add"; body = Empty }) ∷ [];
}

-- so the lines of its script mean what they mean in this deck
abbrev pub called_as : NamedTally → NamedDeck
called_as tally = record {
  nodes = tally.nodes;
  positions = tally.positions;
  profile = None;
  tasks = tally.tasks;
  objects = map sum_object (sum_names tally.count);
  interrupts = [];
  timers = [];
  script = tally.script;
}

-- the lines up to `script`
abbrev pub tally_lines : NamedTally → List Line
tally_lines tally =
    (codes "nodes" ∷ decimal tally.nodes ∷ [])
    ∷ (positions_lines tally.positions
    ++ (map task_line tally.tasks ++ (codes "tally" ∷ decimal tally.count ∷ [])
    ∷ (codes "script" ∷ []) ∷ []))

abbrev pub tally_text : NamedTally → List ℕ
tally_text tally = text_of_lines (tally_lines tally ++ map command_words tally.script)

abbrev pub tally_declared : NamedTally → DeclaredText
tally_declared tally = record {
  nodes = tally.nodes;
  max_positions = unwrap_or tally.positions 1000;
  program = Tally tally.count;
  tasks = task_names tally.tasks;
  priorities = map (λ task. task.priority) tally.tasks;
  objects = sum_names tally.count;
  interrupts = [];
  interrupt_handlers = [];
  timers = [];
  timer_handlers = [];
}

abbrev pub tally_meant : NamedTally → DeckText
tally_meant tally = record {
  declared = tally_declared tally;
  script = numbered_commands (1 + length (tally_lines tally))
      (map (command_meant (called_as tally)) tally.script);
}

pub record IsRightTally (tally : NamedTally) : Type 0 where
  pub nodes : (3 ≤ tally.nodes) × (tally.nodes ≤ 7)
  pub positions : IfSome tally.positions (IsUpTo 65535)
  pub task_count : IsUpTo 8 (length tally.tasks)
  pub tasks_named : AreNames (task_names tally.tasks)
  pub tasks : AllByRecursion IsRightTask tally.tasks
  pub count : IsUpTo 8 tally.count
  pub script : AllByRecursion (IsRightCommand (called_as tally)) tally.script
