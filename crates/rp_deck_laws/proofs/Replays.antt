-- The programs of two decks that mean the same start alike, and a log leads to alike states.
use Rattle.std.proofs.Common.{◌≡◌, ℤ, Bool, true, false, cond, Option, None, List, [], ◌∷◌, ◌++◌, map, refl, sym, ap, subst, ◌∙◌}
use Rattle.std.specs.Arc.{arc_value}
use Rattle.rp_deck.specs.indexmap.specs.IndexMap.{values}
use Rattle.rp_deck.specs.rp_base.specs.declared.action.Action.{Action}
use Rattle.rp_deck.specs.DeckViews.{deck_text}
use Rattle.rp_deck.specs.Meaning.{DeckText}
use Rattle.rp_deck.specs.declared.deck.Deck.{Deck}
use Rattle.rp_deck.specs.rp_deck_declarations.specs.Programs.{DeclaresAll}
use Rattle.rp_deck.specs.rp_deck_declarations.specs.DeclaredTexts.{ProgramText}
use Rattle.rp_deck.specs.rp_deck_declarations.specs.DeclaredTexts as texts
use Rattle.rp_deck.specs.rp_deck_declarations.specs.DeclaredViews.{program_text}
use Rattle.rp_deck.specs.rp_deck_declarations.specs.declared.deck_program.DeckProgram.TheVariants.{Objects}
use Rattle.rp_deck.specs.rp_deck_objects.specs.Objects.{EntryText}
use Rattle.rp_deck.specs.rp_deck_objects.specs.ObjectViews.{ProtectedText, protected_text, entry_text}
use Rattle.rp_object.specs.rp_entry.specs.Queue.{empty_queues}
use Rattle.rp_object.specs.rp_entry.specs.declared.operations.Entry.{Entry}
use Rattle.rp_object.specs.rp_entry.specs.declared.state.Waiting.{Waiting}
use Rattle.rp_object.specs.rp_machine.specs.Replay.{counts, Replayed, unmoved, replay_step, replay_from, replay_of, counted_of, replay_answers, replay_state}
use Rattle.rp_object.specs.Image.{objects_image}
use Rattle.rp_object.specs.Program.{operations_of}
use Rattle.rp_object.specs.State.{Running, first_object, unset, first_state}
use Rattle.rp_object.specs.Step.{objects_next, objects_answers}
use Rattle.rp_object.specs.declared.program.Declarations.{Declarations}
use Rattle.rp_object.specs.declared.program.Handler.{Handler}
use Rattle.rp_object.specs.declared.program.ObjectDeclaration.{ObjectDeclaration}
use Rattle.rp_object.specs.declared.program.Profile.{Profile}
use Rattle.rp_object.specs.declared.program.Program.{Program}
use Rattle.rp_object.specs.declared.program.TimingEvent.{TimingEvent}
use Rattle.rp_deck_laws.specs.Readings.{IsDeckOfObjects}
use Rattle.rp_deck_laws.proofs.Acting.{meant}
use Rattle.rp_deck_laws.proofs.Alike.{AreAlike, Seen, seen, AlikeRunning, handler_of, next_alike, answers_alike}
use Rattle.rp_deck_laws.proofs.Images.{images_alike}

-- ---- the start

abbrev nobody : EntryText → List Waiting
nobody entry = []

abbrev first_seen : ProtectedText → Seen
first_seen object = record {
  operations = record { functions = object.functions; procedures = object.procedures; entries = object.entries };
  state = record { store = object.store; queues = map nobody object.entries };
}

queues_first : (entries : List Entry) → empty_queues entries ≡ map nobody (map entry_text entries)
queues_first [] = refl
queues_first (entry ∷ rest) = ap (λ (l : List (List Waiting)). [] ∷ l) (queues_first rest)

object_first : (declared : ObjectDeclaration) → seen (first_object declared) ≡ first_seen (protected_text declared)
object_first declared = ap (λ (l : List (List Waiting)). (let s : Seen = record { operations = meant (operations_of declared); state = record { store = declared.components; queues = l } } in s)) (queues_first (operations_of declared).entries.items)

objects_first : (declared : List ObjectDeclaration) → map seen (map first_object declared) ≡ map first_seen (map protected_text declared)
objects_first [] = refl
objects_first (d ∷ rest) = λ i. object_first d i ∷ objects_first rest i

abbrev no_time : Handler → Option ℤ
no_time handler = None

timers_first : (timers : List TimingEvent) → map unset timers ≡ map no_time (map handler_of timers)
timers_first [] = refl
timers_first (timer ∷ rest) = ap (λ (l : List (Option ℤ)). None ∷ l) (timers_first rest)

starts_alike : (p q : Declarations) → AreAlike p q → AlikeRunning (first_state p) (first_state q)
starts_alike p q same = record {
  program = same;
  state = record {
    objects = objects_first p.objects.items ∙ ap (λ (l : List ProtectedText). map first_seen l) same.objects ∙ sym (objects_first q.objects.items);
    timers = timers_first p.timers.items ∙ ap (λ (l : List Handler). map no_time l) same.handlers ∙ sym (timers_first q.timers.items);
    clock = refl;
  };
}

-- ---- two decks

profile_in : Profile → ProgramText → Profile
profile_in default (texts.ProgramText.Tally count) = default
profile_in default (texts.ProgramText.Objects profile objects) = profile

objects_in : ProgramText → List ProtectedText
objects_in (texts.ProgramText.Tally count) = []
objects_in (texts.ProgramText.Objects profile objects) = objects

declared_by : (deck : Deck) (program : Program) → IsDeckOfObjects deck program → DeclaresAll (map (λ task. task.priority) (values deck.tasks)) (values deck.interrupts) (values deck.timers) (deck_text deck).declared.timers (Objects program)
declared_by deck program is = subst (DeclaresAll (map (λ task. task.priority) (values deck.tasks)) (values deck.interrupts) (values deck.timers) (deck_text deck).declared.timers) is.objects is.right.kept

pub decks_alike : (one other : Deck) (program same : Program) → deck_text one ≡ deck_text other → IsDeckOfObjects one program → IsDeckOfObjects other same → AreAlike (arc_value program.declarations) (arc_value same.declarations)
unfolding profile_in objects_in
decks_alike one other program same text is other_is =
    let p = arc_value program.declarations in
    let q = arc_value same.declarations in
    let d = declared_by one program is in
    let e = declared_by other same other_is in
    let programs : program_text (Objects program) ≡ program_text (Objects same) =
    ap program_text (sym is.objects) ∙ ap (λ (t : DeckText). t.declared.program) text ∙ ap program_text other_is.objects in
    record {
      profile = ap (profile_in p.profile) programs;
      priorities = d.has_priorities ∙ ap (λ (t : DeckText). t.declared.priorities) text ∙ sym e.has_priorities;
      objects = ap objects_in programs;
      interrupts = d.has_interrupts ∙ ap (λ (t : DeckText). t.declared.interrupt_handlers) text ∙ sym e.has_interrupts;
      handlers = d.has_timers ∙ ap (λ (t : DeckText). t.declared.timer_handlers) text ∙ sym e.has_timers;
      names = d.has_timer_names ∙ ap (λ (t : DeckText). t.declared.timers) text ∙ sym e.has_timer_names;
    }

-- ---- logs

record AlikeReplays (one other : Replayed Running) : Type 0 where
  pub state : AlikeRunning one.state other.state
  pub kept : one.kept ≡ other.kept
  pub given : one.given ≡ other.given

if_replayed : (b c : Bool) → b ≡ c → (x y z w : Replayed Running) → AlikeReplays x z → AlikeReplays y w → AlikeReplays (cond {A = Replayed Running} b x y) (cond {A = Replayed Running} c z w)
if_replayed b c is x y z w first second = subst (λ (c : Bool). AlikeReplays (cond {A = Replayed Running} b x y) (cond {A = Replayed Running} c z w)) is (case b)
  where
    case : (b : Bool) → AlikeReplays (cond {A = Replayed Running} b x y) (cond {A = Replayed Running} b z w)
    case true = first
    case false = second

one_more : (r q : Replayed Running) → AlikeReplays r q → (action : Action) → AlikeReplays (replay_step objects_next objects_answers r action) (replay_step objects_next objects_answers q action)
one_more r q alike action =
    let moved : Replayed Running → Replayed Running = λ r. record { state = objects_next r.state action; kept = r.kept ++ action ∷ []; given = r.given ++ objects_answers r.state action } in
    let goes : AlikeReplays (moved r) (moved q) = record {
      state = next_alike r.state q.state alike.state action;
      kept = ap (λ (l : List Action). l ++ action ∷ []) alike.kept;
      given = λ i. alike.given i ++ answers_alike r.state q.state alike.state action i;
    } in
    if_replayed (counts r.kept r.given action) (counts q.kept q.given action) (λ i. counts (alike.kept i) (alike.given i) action) (moved r) r (moved q) q goes alike

from_alike : (r q : Replayed Running) → AlikeReplays r q → (log : List Action) → AlikeReplays (replay_from objects_next objects_answers r log) (replay_from objects_next objects_answers q log)
from_alike r q alike [] = alike
from_alike r q alike (action ∷ rest) = from_alike (replay_step objects_next objects_answers r action) (replay_step objects_next objects_answers q action) (one_more r q alike action) rest

module _ (p q : Declarations) (same : AreAlike p q) (log : List Action) where
  replays : AlikeReplays (replay_of objects_next objects_answers (first_state p) log) (replay_of objects_next objects_answers (first_state q) log)
  replays = from_alike (unmoved (first_state p)) (unmoved (first_state q)) (record { state = starts_alike p q same; kept = refl; given = refl }) log

  pub kept_alike : counted_of objects_next objects_answers (first_state p) log ≡ counted_of objects_next objects_answers (first_state q) log
  kept_alike = replays.kept

  pub given_alike : replay_answers objects_next objects_answers (first_state p) log ≡ replay_answers objects_next objects_answers (first_state q) log
  given_alike = replays.given

  pub shown_alike : objects_image (replay_state objects_next objects_answers (first_state p) log) ≡ objects_image (replay_state objects_next objects_answers (first_state q) log)
  shown_alike = images_alike (replay_state objects_next objects_answers (first_state p) log) (replay_state objects_next objects_answers (first_state q) log) replays.state
