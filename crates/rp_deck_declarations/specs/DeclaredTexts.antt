-- What the declarations of a deck mean.
use Rattle.std.specs.Prelude.{ℕ, List, length, map, unwrap_or, Result, Ok, Err, if◌then◌else◌}
use Rattle.rp_object.specs.declared.program.Handler.{Handler}
use Rattle.rp_object.specs.declared.program.Profile.{Profile}
use Rattle.rp_words.specs.LineFaults.{BadLine}
use Rattle.rp_words.specs.Lines.{LineText}
use Rattle.rp_deck_objects.specs.ObjectViews.{ProtectedText, protected_of}
use Rattle.rp_deck_declarations.specs.Drafts.{DraftText, profile_of}
use Rattle.rp_deck_declarations.specs.ScriptNames.{DeclaredNames, declared_names}

-- what the tasks call: n sums, or protected objects
pub data ProgramText : Type 0 where
  Tally : (count : ℕ) → ProgramText
  Objects : (profile : Profile) (objects : List ProtectedText) → ProgramText

-- what is declared, each kind in declared order
pub record DeclaredText : Type 0 where
  pub nodes : ℕ
  pub max_positions : ℕ
  pub program : ProgramText
  pub tasks : List (List ℕ)
  pub priorities : List ℕ
  pub objects : List (List ℕ)
  pub interrupts : List (List ℕ)
  pub interrupt_handlers : List Handler
  pub timers : List (List ℕ)
  pub timer_handlers : List Handler

abbrev pub program_of : DraftText → ProgramText
program_of d =
    if d.is_tally then Tally (length d.objects)
    else Objects (profile_of d) (map protected_of d.drafts)

-- the log has 1000 positions where the deck says nothing of it
abbrev pub declared_of : DraftText → DeclaredText
declared_of d = record {
  nodes = d.nodes;
  max_positions = unwrap_or d.positions 1000;
  program = program_of d;
  tasks = d.tasks;
  priorities = d.priorities;
  objects = d.objects;
  interrupts = d.interrupts;
  interrupt_handlers = d.interrupt_handlers;
  timers = d.timers;
  timer_handlers = d.timer_handlers;
}

-- what is known after the declarations: the names that the script may use, what is declared, and
-- the lines left
abbrev pub known : Result (DraftText × List LineText) BadLine
    → Result (DeclaredNames × DeclaredText × List LineText) BadLine
known (Ok read) = Ok (declared_names read.0, declared_of read.0, read.1)
known (Err bad) = Err bad
