-- What a line of a script may name.
use Rattle.std.specs.Prelude.{ℕ, List, [], ◌∷◌, codes, length, map, replicate, if◌then◌else◌}
use Rattle.rp_object.specs.rp_base.specs.declared.action.Operation.TheVariants.{Procedure}
use Rattle.rp_object.specs.declared.program.Handler.{Handler}
use Rattle.rp_deck_declarations.specs.Drafts.{DraftText}
use Rattle.rp_deck_objects.specs.ObjectViews.{object_operations, OperationsText}

-- what is declared before the script, each kind in declared order
pub record DeclaredNames : Type 0 where
  pub nodes : ℕ
  pub tasks : List (List ℕ)
  pub objects : List (List ℕ)
  pub operations : List OperationsText
  pub interrupts : List (List ℕ)
  pub timers : List (List ℕ)
  pub timer_handlers : List Handler

-- an object of a tally has the procedure `add` alone
abbrev pub tally_operations : OperationsText
tally_operations = record { names = codes "add" ∷ []; operations = Procedure 1 ∷ [] }

-- what the lines before `script` declared; a tally has no timing events
abbrev pub declared_names : DraftText → DeclaredNames
declared_names d = record {
  nodes = d.nodes;
  tasks = d.tasks;
  objects = d.objects;
  operations = if d.is_tally then replicate (length d.objects) tally_operations
      else map object_operations d.drafts;
  interrupts = d.interrupts;
  timers = d.timers;
  timer_handlers = if d.is_tally then [] else d.timer_handlers;
}
