-- What a deck declares so far, and how each line adds to it.
use Rattle.std.specs.Prelude.{ℕ, zero, suc, ◌+◌, ◌-◌, ◌&&◌, ◌==◌, Bool, true, false, not, List, []}
use Rattle.std.specs.Prelude.{◌∷◌, ◌++◌, codes, length, slice_get, Option, Some, None, is_some}
use Rattle.std.specs.Prelude.{unwrap_or, Result, Ok, if◌then◌else◌}
use Rattle.std.specs.Str.{bytes_eq}
use Rattle.rp_object.specs.rp_base.specs.declared.action.Operation.{Operation}
use Rattle.rp_object.specs.rp_base.specs.declared.action.Operation.TheVariants as operations
use Rattle.rp_object.specs.rp_base.specs.declared.fault.DeckReason.{DeckReason}
use Rattle.rp_object.specs.rp_base.specs.declared.fault.DeckReason.TheVariants.{NodesExpected}
use Rattle.rp_object.specs.rp_base.specs.declared.fault.DeckReason.TheVariants.{UnknownWord}
use Rattle.rp_object.specs.rp_base.specs.declared.fault.DeckReason.TheVariants.{UnknownName}
use Rattle.rp_object.specs.rp_base.specs.declared.fault.DeckReason.TheVariants.{TaskExpected}
use Rattle.rp_object.specs.rp_base.specs.declared.fault.DeckReason.TheVariants.{ObjectExpected}
use Rattle.rp_object.specs.declared.program.Handler.{Handler}
use Rattle.rp_object.specs.declared.program.Profile.{Profile as ProgramProfile}
use Rattle.rp_object.specs.declared.program.Profile.TheVariants.{Ravenscar, Jorvik}
use Rattle.rp_deck_declarations.specs.declared.draft.Kind.{Kind}
use Rattle.rp_deck_declarations.specs.declared.draft.Kind.TheVariants.{Positions, Profile, Task}
use Rattle.rp_deck_declarations.specs.declared.draft.Kind.TheVariants.{Tally, Object, Interrupt}
use Rattle.rp_deck_declarations.specs.declared.draft.Kind.TheVariants.{Timer}
use Rattle.rp_words.specs.Lines.{LineText}
use Rattle.rp_words.specs.Tables.{place_of, find}
use Rattle.rp_words.specs.Reading.{room, ◌>>=◌, some_or, unless, word_at, end_at, new_name_at}
use Rattle.rp_words.specs.Reading.{number_at, dotted_of}
use Rattle.rp_deck_objects.specs.Objects.{empty_object, ObjectText}

-- what is declared so far, each kind in declared order: the names, and what they denote
pub record DraftText : Type 0 where
  pub nodes : ℕ
  pub positions : Option ℕ
  pub profile : Option ProgramProfile
  pub is_tally : Bool
  pub tasks : List (List ℕ)
  pub priorities : List ℕ
  pub objects : List (List ℕ)
  pub drafts : List ObjectText
  pub interrupts : List (List ℕ)
  pub interrupt_handlers : List Handler
  pub timers : List (List ℕ)
  pub timer_handlers : List Handler

-- nothing but the nodes
abbrev pub empty_draft : ℕ → DraftText
empty_draft nodes = record {
  nodes = nodes;
  positions = None;
  profile = None;
  is_tally = false;
  tasks = [];
  priorities = [];
  objects = [];
  drafts = [];
  interrupts = [];
  interrupt_handlers = [];
  timers = [];
  timer_handlers = [];
}

abbrev pub is_empty : {X : Type 0} → List X → Bool
is_empty xs = length xs == 0

-- no profile, task or object is declared
abbrev pub is_new : DraftText → Bool
is_new d = not (is_some d.profile) && is_empty d.tasks && is_empty d.objects

-- the profile of the program: Ravenscar where the deck says nothing of it
abbrev pub profile_of : DraftText → ProgramProfile
profile_of d = unwrap_or d.profile Ravenscar

-- the object whose lines these are: the last one
abbrev pub last_object : DraftText → Option ObjectText
last_object d = slice_get d.drafts (length d.drafts - 1)

abbrev pub has_body : Option ObjectText → Bool
has_body None = false
has_body (Some object) = is_some object.open_operation

-- the next line belongs to a body
abbrev pub is_in_body : DraftText → Bool
is_in_body d = has_body (last_object d)

-- what a line declares by its first word, but for the lines of an object
abbrev pub kind_named : List ℕ → Option Kind
kind_named first =
    if bytes_eq first (codes "positions") then Some Positions
    else if bytes_eq first (codes "profile") then Some Profile
    else if bytes_eq first (codes "task") then Some Task
    else if bytes_eq first (codes "tally") then Some Tally
    else if bytes_eq first (codes "object") then Some Object
    else if bytes_eq first (codes "interrupt") then Some Interrupt
    else if bytes_eq first (codes "timer") then Some Timer
    else None

-- what may be declared here: `positions` right after `nodes`, then the profile, and either a tally
-- or objects
abbrev pub allows : DraftText → Kind → Bool
allows d Positions = not (is_some d.positions) && is_new d
allows d Profile = is_new d
allows d Task = true
allows d Tally = not d.is_tally && is_empty d.objects
allows d Object = not d.is_tally
allows d Interrupt = not d.is_tally
allows d Timer = not d.is_tally

abbrev pub kind_allowed : DraftText → Option Kind → Option Kind
kind_allowed d None = None
kind_allowed d (Some kind) = if allows d kind then Some kind else None

abbrev pub kind_of : DraftText → List ℕ → Option Kind
kind_of d first = if is_in_body d then None else kind_allowed d (kind_named first)

-- `nodes N`, the first line
unfoldable pub nodes_line : LineText → Result ℕ DeckReason
nodes_line line = do
  first ← unless NodesExpected (not (bytes_eq line.first (codes "nodes")))
  nodes ← number_at 3 7 line.rest
  e ← end_at nodes.1
  Ok nodes.0

-- `positions P`
unfoldable pub positions_line : DraftText → List ℕ → Result DraftText DeckReason
positions_line d words = do
  positions ← number_at 1 65535 words
  e ← end_at positions.1
  Ok (record d { positions = Some positions.0 })

abbrev pub profile_named : List ℕ → Option ProgramProfile
profile_named word =
    if bytes_eq word (codes "ravenscar") then Some Ravenscar
    else if bytes_eq word (codes "jorvik") then Some Jorvik
    else None

-- `profile PROFILE`
unfoldable pub profile_line : DraftText → List ℕ → Result DraftText DeckReason
profile_line d words = do
  word ← word_at words
  profile ← some_or UnknownWord (profile_named word.0)
  e ← end_at word.1
  Ok (record d { profile = Some profile })

-- `task NAME PRIORITY`
unfoldable pub task_line : DraftText → List ℕ → Result DraftText DeckReason
task_line d words = do
  few ← room 8 (length d.tasks)
  name ← new_name_at d.tasks words
  priority ← number_at 1 30 name.1
  e ← end_at priority.1
  Ok (record d { tasks = d.tasks ++ name.0 ∷ []; priorities = d.priorities ++ priority.0 ∷ [] })

-- the names o1, o2 and so on
abbrev pub tally_name : ℕ → List ℕ
tally_name number = 111 ∷ (48 + number) ∷ []

abbrev pub tally_names : ℕ → List (List ℕ)
tally_names zero = []
tally_names (suc count) = tally_names count ++ tally_name (suc count) ∷ []

-- `tally COUNT`
unfoldable pub tally_line : DraftText → List ℕ → Result DraftText DeckReason
tally_line d words = do
  count ← number_at 1 8 words
  e ← end_at count.1
  Ok (record d { objects = tally_names count.0; is_tally = true })

-- `object NAME CEILING`
unfoldable pub object_line : DraftText → List ℕ → Result DraftText DeckReason
object_line d words = do
  few ← room 8 (length d.objects)
  name ← new_name_at d.objects words
  ceiling ← number_at 1 30 name.1
  e ← end_at ceiling.1
  Ok (record d {
    objects = d.objects ++ name.0 ∷ [];
    drafts = d.drafts ++ empty_object name.0 ceiling.0 ∷ [];
  })

-- a procedure's number
abbrev pub procedure_number : Operation → Option ℕ
procedure_number (operations.Procedure number) = Some number
procedure_number _ = None

abbrev pub procedure_of : Option Operation → Option ℕ
procedure_of None = None
procedure_of (Some operation) = procedure_number operation

-- `OBJECT.PROCEDURE`
unfoldable pub handler_at : DraftText → List ℕ → Result (Handler × List ℕ) DeckReason
handler_at d words = do
  word ← word_at words
  names ← dotted_of word.0
  place ← some_or UnknownName (place_of names.0 d.objects)
  object ← some_or UnknownName (slice_get d.drafts place)
  procedure ← some_or UnknownName
      (procedure_of (find names.1 object.operation_names object.operations))
  Ok (record { object = place + 1; procedure = procedure }, word.1)

-- `NAME OBJECT.PROCEDURE`, where the name is not among these
unfoldable pub handled_at : DraftText → List (List ℕ) → List ℕ
    → Result (List ℕ × Handler) DeckReason
handled_at d names words = do
  few ← room 8 (length names)
  name ← new_name_at names words
  handler ← handler_at d name.1
  e ← end_at handler.1
  Ok (name.0, handler.0)

-- `interrupt NAME OBJECT.PROCEDURE`
unfoldable pub interrupt_line : DraftText → List ℕ → Result DraftText DeckReason
interrupt_line d words = do
  new ← handled_at d d.interrupts words
  Ok (record d {
    interrupts = d.interrupts ++ new.0 ∷ [];
    interrupt_handlers = d.interrupt_handlers ++ new.1 ∷ [];
  })

-- `timer NAME OBJECT.PROCEDURE`
unfoldable pub timer_line : DraftText → List ℕ → Result DraftText DeckReason
timer_line d words = do
  new ← handled_at d d.timers words
  Ok (record d { timers = d.timers ++ new.0 ∷ []; timer_handlers = d.timer_handlers ++ new.1 ∷ [] })

-- a line that declares something of this kind
abbrev pub declaration_line : DraftText → Kind → List ℕ → Result DraftText DeckReason
declaration_line d Positions words = positions_line d words
declaration_line d Profile words = profile_line d words
declaration_line d Task words = task_line d words
declaration_line d Tally words = tally_line d words
declaration_line d Object words = object_line d words
declaration_line d Interrupt words = interrupt_line d words
declaration_line d Timer words = timer_line d words

-- at `script`: there are tasks and objects
unfoldable pub script_line : DraftText → List ℕ → Result (Unit {0}) DeckReason
script_line d words = do
  tasks ← unless TaskExpected (is_empty d.tasks)
  objects ← unless ObjectExpected (is_empty d.objects)
  end_at words
