-- The text of a deck whose objects are a tally: one way to write each, which reading gives back.
use Rattle.std.specs.Prelude.{ℕ, ◌≡◌, ◌<◌, ◌≤◌, ◌+◌, true, false, IsTrue, List, [], ◌∷◌, ◌++◌}
use Rattle.std.specs.Prelude.{codes, length, map, Option, Some, None, IfSome}
use Rattle.std.specs.Fmt.{decimal}
use Rattle.rp_deck_declarations.specs.Drafts.{DraftText, tally_names}
use Rattle.rp_deck.specs.Meaning.{DeckText, deck_of}
use Rattle.rp_deck.specs.Script.{IsUpTo}
use Rattle.rp_deck.specs.ScriptLines.{CommandText}
use Rattle.rp_deck_declarations.specs.ScriptNames.{declared_names}
use Rattle.rp_deck_laws.specs.ScriptText.{command_words, text_of_lines, numbered_commands}
use Rattle.rp_words.specs.Tables.{is_declared}
use Rattle.rp_words.specs.Words.{is_name}

-- what such a deck declares
pub record TallyText : Type 0 where
  pub nodes : ℕ
  pub positions : Option ℕ
  pub tasks : List (List ℕ)
  pub priorities : List ℕ
  pub count : ℕ

abbrev pub positions_words : Option ℕ → List (List (List ℕ))
positions_words None = []
positions_words (Some positions) = (codes "positions" ∷ decimal positions ∷ []) ∷ []

abbrev pub task_words : List (List ℕ) → List ℕ → List (List (List ℕ))
task_words [] priorities = []
task_words tasks [] = []
task_words (task ∷ tasks) (priority ∷ priorities) =
    (codes "task" ∷ task ∷ decimal priority ∷ []) ∷ task_words tasks priorities

-- the lines up to `script`
abbrev pub tally_lines : TallyText → List (List (List ℕ))
tally_lines t =
    (codes "nodes" ∷ decimal t.nodes ∷ [])
    ∷ (positions_words t.positions
    ++ (task_words t.tasks t.priorities ++ (codes "tally" ∷ decimal t.count ∷ [])
    ∷ (codes "script" ∷ []) ∷ []))

abbrev pub tally_draft : TallyText → DraftText
tally_draft t = record {
  nodes = t.nodes;
  positions = t.positions;
  profile = None;
  is_tally = true;
  tasks = t.tasks;
  priorities = t.priorities;
  objects = tally_names t.count;
  drafts = [];
  interrupts = [];
  interrupt_handlers = [];
  timers = [];
  timer_handlers = [];
}

abbrev pub tally_text : TallyText → List CommandText → List ℕ
tally_text t commands =
    text_of_lines (tally_lines t ++ map (command_words (declared_names (tally_draft t))) commands)

-- the deck that it is: the script begins after those lines
abbrev pub tally_deck : TallyText → List CommandText → DeckText
tally_deck t commands =
    deck_of (tally_draft t) (numbered_commands (1 + length (tally_lines t)) commands)

-- at most 8 tasks, each with a new name and a priority from 1 to 30
abbrev pub AreTasks : List (List ℕ) → List (List ℕ) → List ℕ → Type 0
AreTasks before [] [] = Unit {0}
AreTasks before (task ∷ tasks) (priority ∷ priorities) =
    (length before < 8) × IsTrue (is_name task) × (is_declared task before ≡ false)
    × IsUpTo 30 priority
    × AreTasks (before ++ task ∷ []) tasks priorities
AreTasks before _ _ = ⊥

pub record IsTallyText (t : TallyText) : Type 0 where
  pub nodes : (3 ≤ t.nodes) × (t.nodes ≤ 7)
  pub positions : IfSome t.positions (IsUpTo 65535)
  pub some_task : (length t.tasks ≡ 0) → ⊥
  pub tasks : AreTasks [] t.tasks t.priorities
  pub count : IsUpTo 8 t.count
