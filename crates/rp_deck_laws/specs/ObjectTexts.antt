-- The text of a deck of protected objects: one way to write each, which reading gives back.
use Rattle.std.specs.Prelude.{ℕ, ◌≡◌, ◌<◌, ◌≤◌, ◌+◌, false, List, [], ◌∷◌, ◌++◌, codes, length, map}
use Rattle.std.specs.Prelude.{slice_get, Option, Some, None, IfSome}
use Rattle.std.specs.Fmt.{decimal}
use Rattle.rp_deck.specs.rp_base.specs.declared.action.Operation.TheVariants.{Procedure}
use Rattle.rp_deck_declarations.specs.rp_object.specs.declared.program.Handler.{Handler}
use Rattle.rp_deck_declarations.specs.rp_object.specs.declared.program.Profile.{Profile}
use Rattle.rp_deck_declarations.specs.rp_object.specs.declared.program.Profile.TheVariants.{Ravenscar}
use Rattle.rp_deck_declarations.specs.rp_object.specs.declared.program.Profile.TheVariants.{Jorvik}
use Rattle.rp_deck_declarations.specs.Drafts.{DraftText, empty_draft, is_empty, profile_of}
use Rattle.rp_deck_declarations.specs.rp_deck_objects.specs.Objects.{ObjectText, empty_object}
use Rattle.rp_deck.specs.Meaning.{DeckText, deck_of}
use Rattle.rp_deck_laws.specs.PartTexts.{PartText, IsNew, shut, with_parts, parts_lines, ArePartsOf}
use Rattle.rp_deck.specs.Script.{IsUpTo}
use Rattle.rp_deck.specs.ScriptLines.{CommandText}
use Rattle.rp_deck_declarations.specs.ScriptNames.{declared_names}
use Rattle.rp_deck_laws.specs.ScriptText.{command_words, text_of_lines, numbered_commands}
use Rattle.rp_words.specs.Tables.{place_of, find}
use Rattle.rp_deck_laws.specs.TallyTexts.{positions_words, task_words, AreTasks}

-- an object that a deck declares
pub record DeclaredObject : Type 0 where
  pub name : List ℕ
  pub ceiling : ℕ
  pub parts : List PartText

-- an interrupt or a timing event, and its handler: a procedure by its number, of an object by its
-- place
pub record DeclaredHandler : Type 0 where
  pub name : List ℕ
  pub object : List ℕ
  pub procedure : List ℕ
  pub place : ℕ
  pub number : ℕ

-- ---- objects

abbrev pub with_object : DraftText → DeclaredObject → DraftText
with_object d o =
    record d {
      objects = d.objects ++ o.name ∷ [];
      drafts = d.drafts
          ++ shut (with_parts (empty_object o.name o.ceiling) o.parts) ∷ [];
    }

abbrev pub object_lines : Profile → DeclaredObject → List (List (List ℕ))
object_lines profile o =
    (codes "object" ∷ o.name ∷ decimal o.ceiling ∷ [])
    ∷ parts_lines profile (empty_object o.name o.ceiling) o.parts

abbrev pub IsTextOfObject : DraftText → DeclaredObject → Type 0
IsTextOfObject d o =
    (length d.objects < 8) × IsNew d.objects o.name × IsUpTo 30 o.ceiling
    × ArePartsOf (profile_of d) (empty_object o.name o.ceiling) o.parts

abbrev pub with_objects : DraftText → List DeclaredObject → DraftText
with_objects d [] = d
with_objects d (o ∷ os) = with_objects (with_object d o) os

abbrev pub objects_lines : Profile → List DeclaredObject → List (List (List ℕ))
objects_lines profile [] = []
objects_lines profile (o ∷ os) = object_lines profile o ++ objects_lines profile os

abbrev pub AreObjectsOf : DraftText → List DeclaredObject → Type 0
AreObjectsOf d [] = Unit {0}
AreObjectsOf d (o ∷ os) = IsTextOfObject d o × AreObjectsOf (with_object d o) os

-- ---- interrupts and timing events

abbrev pub handler_of : DeclaredHandler → Handler
handler_of h = record { object = h.place + 1; procedure = h.number }

pub record IsHandlerOf (d : DraftText) (h : DeclaredHandler) : Type 0 where
  pub holder : ObjectText
  pub object_is : IsNew [] h.object
  pub procedure_is : IsNew [] h.procedure
  pub place : place_of h.object d.objects ≡ Some h.place
  pub holder_is : slice_get d.drafts h.place ≡ Some holder
  pub number : find h.procedure holder.operation_names holder.operations ≡ Some (Procedure h.number)

abbrev pub with_interrupt : DraftText → DeclaredHandler → DraftText
with_interrupt d h =
    record d {
      interrupts = d.interrupts ++ h.name ∷ [];
      interrupt_handlers = d.interrupt_handlers
          ++ handler_of h ∷ [];
    }

abbrev pub with_timer : DraftText → DeclaredHandler → DraftText
with_timer d h = record d {
  timers = d.timers ++ h.name ∷ [];
  timer_handlers = d.timer_handlers ++ handler_of h ∷ [];
}

abbrev pub handler_words : DeclaredHandler → List (List ℕ)
handler_words h = h.name ∷ (h.object ++ 46 ∷ h.procedure) ∷ []

abbrev pub with_interrupts : DraftText → List DeclaredHandler → DraftText
with_interrupts d [] = d
with_interrupts d (h ∷ hs) = with_interrupts (with_interrupt d h) hs

abbrev pub with_timers : DraftText → List DeclaredHandler → DraftText
with_timers d [] = d
with_timers d (h ∷ hs) = with_timers (with_timer d h) hs

abbrev pub AreInterruptsOf : DraftText → List DeclaredHandler → Type 0
AreInterruptsOf d [] = Unit {0}
AreInterruptsOf d (h ∷ hs) =
    (length d.interrupts < 8) × IsNew d.interrupts h.name × IsHandlerOf d h
    × AreInterruptsOf (with_interrupt d h) hs

abbrev pub AreTimersOf : DraftText → List DeclaredHandler → Type 0
AreTimersOf d [] = Unit {0}
AreTimersOf d (h ∷ hs) =
    (length d.timers < 8) × IsNew d.timers h.name × IsHandlerOf d h
    × AreTimersOf (with_timer d h) hs

abbrev pub handlers_lines : List ℕ → List DeclaredHandler → List (List (List ℕ))
handlers_lines first handlers = map (λ h. first ∷ handler_words h) handlers

-- ---- a deck up to its script

pub record ObjectsText : Type 0 where
  pub nodes : ℕ
  pub positions : Option ℕ
  pub profile : Option Profile
  pub tasks : List (List ℕ)
  pub priorities : List ℕ
  pub objects : List DeclaredObject
  pub interrupts : List DeclaredHandler
  pub timers : List DeclaredHandler

abbrev pub profile_word : Profile → List ℕ
profile_word Ravenscar = codes "ravenscar"
profile_word Jorvik = codes "jorvik"

abbrev pub profile_words : Option Profile → List (List (List ℕ))
profile_words None = []
profile_words (Some profile) = (codes "profile" ∷ profile_word profile ∷ []) ∷ []

-- the tasks, before any object
abbrev pub tasks_draft : ObjectsText → DraftText
tasks_draft t =
    record (empty_draft t.nodes)
    { positions = t.positions; profile = t.profile; tasks = t.tasks; priorities = t.priorities }

abbrev pub objects_draft : ObjectsText → DraftText
objects_draft t =
    with_timers (with_interrupts (with_objects (tasks_draft t) t.objects) t.interrupts) t.timers

abbrev pub declared_lines : ObjectsText → List (List (List ℕ))
declared_lines t =
    (codes "nodes" ∷ decimal t.nodes ∷ [])
    ∷ (positions_words t.positions
    ++ (profile_words t.profile
    ++ (task_words t.tasks t.priorities ++ (objects_lines (profile_of (tasks_draft t)) t.objects
    ++ (handlers_lines (codes "interrupt") t.interrupts
    ++ (handlers_lines (codes "timer") t.timers ++ (codes "script" ∷ []) ∷ []))))))

pub record IsObjectsText (t : ObjectsText) : Type 0 where
  pub nodes : (3 ≤ t.nodes) × (t.nodes ≤ 7)
  pub positions : IfSome t.positions (IsUpTo 65535)
  pub tasks : AreTasks [] t.tasks t.priorities
  pub objects : AreObjectsOf (tasks_draft t) t.objects
  pub interrupts : AreInterruptsOf (with_objects (tasks_draft t) t.objects) t.interrupts
  pub timers : AreTimersOf (with_interrupts (with_objects (tasks_draft t) t.objects) t.interrupts)
      t.timers
  pub some_task : is_empty (objects_draft t).tasks ≡ false
  pub some_object : is_empty (objects_draft t).objects ≡ false

-- ---- the whole deck

abbrev pub objects_text : ObjectsText → List CommandText → List ℕ
objects_text t commands =
    text_of_lines
    (declared_lines t ++ map (command_words (declared_names (objects_draft t))) commands)

-- the deck that it is: the script begins after those lines
abbrev pub objects_deck : ObjectsText → List CommandText → DeckText
objects_deck t commands =
    deck_of (objects_draft t) (numbered_commands (1 + length (declared_lines t)) commands)
