-- Programs that mean the same show alike states alike.
use Rattle.std.proofs.Common.{◌≡◌, ℕ, suc, ℤ, Option, List, [], ◌∷◌, ◌++◌, map, refl, sym, ap, ◌∙◌}
use Rattle.std.specs.Prelude.{String, string_bytes, codes, decimal}
use Rattle.std.specs.declared.alloc.Global.{Global}
use Rattle.std.specs.Fmt.{signed_decimal}
use Rattle.rp_object.specs.rp_body.specs.Store.{Store, int_value, bool_value}
use Rattle.rp_object.specs.rp_entry.specs.declared.state.Waiting.{Waiting}
use Rattle.rp_object.specs.rp_entry.specs.Protected.{Protected}
use Rattle.rp_object.specs.Image.{ints_text, truth_text, bools_text, queue_text, entry_text, queues_text, object_line, object_lines, time_text, timer_line, timer_lines, objects_image}
use Rattle.rp_object.specs.State.{Running}
use Rattle.rp_object.specs.declared.program.ObjectDeclaration.{ObjectDeclaration}
use Rattle.rp_object.specs.declared.program.Profile.{Profile}
use Rattle.rp_object.specs.declared.program.TimingEvent.{TimingEvent}
use Rattle.rp_deck.specs.rp_deck_objects.specs.ObjectViews.{ProtectedText, protected_text}
use Rattle.rp_deck_laws.proofs.Alike.{Seen, seen, timer_name, AlikeRunning}

abbrev name_text : String Global → List ℕ
name_text name = string_bytes name

abbrev ints_as : Store → ℕ → List (List ℕ) → List ℕ
ints_as store place [] = []
ints_as store place (name ∷ rest) = codes " " ++ (name ++ (codes "=" ++ (signed_decimal (int_value store place) ++ ints_as store (suc place) rest)))

ints_is : (store : Store) (place : ℕ) (names : List (String Global)) → ints_text store place names ≡ ints_as store place (map name_text names)
ints_is store place [] = refl
ints_is store place (name ∷ rest) = ap (λ (l : List ℕ). codes " " ++ (string_bytes name ++ (codes "=" ++ (signed_decimal (int_value store place) ++ l)))) (ints_is store (suc place) rest)

abbrev bools_as : Store → ℕ → List (List ℕ) → List ℕ
bools_as store place [] = []
bools_as store place (name ∷ rest) = codes " " ++ (name ++ (codes "=" ++ (truth_text (bool_value store place) ++ bools_as store (suc place) rest)))

bools_is : (store : Store) (place : ℕ) (names : List (String Global)) → bools_text store place names ≡ bools_as store place (map name_text names)
bools_is store place [] = refl
bools_is store place (name ∷ rest) = ap (λ (l : List ℕ). codes " " ++ (string_bytes name ++ (codes "=" ++ (truth_text (bool_value store place) ++ l)))) (bools_is store (suc place) rest)

abbrev queues_as : Profile → List (List ℕ) → List (List Waiting) → List ℕ
queues_as profile [] queues = []
queues_as profile (name ∷ names) [] = []
queues_as profile (name ∷ names) (queue ∷ queues) = codes " queue" ++ (entry_text profile name ++ (queue_text queue ++ queues_as profile names queues))

queues_is : (profile : Profile) (names : List (String Global)) (queues : List (List Waiting)) → queues_text profile names queues ≡ queues_as profile (map name_text names) queues
queues_is profile [] queues = refl
queues_is profile (name ∷ names) [] = refl
queues_is profile (name ∷ names) (queue ∷ queues) = ap (λ (l : List ℕ). codes " queue" ++ (entry_text profile (string_bytes name) ++ (queue_text queue ++ l))) (queues_is profile names queues)

abbrev line_as : Profile → ProtectedText → Seen → List ℕ
line_as profile declared object =
    codes "object "
    ++ (declared.name
    ++ (ints_as object.state.store 0 declared.int_names
    ++ (bools_as object.state.store 0 declared.bool_names
    ++ (queues_as profile declared.entry_names object.state.queues ++ codes "\n"))))

line_is : (profile : Profile) (declared : ObjectDeclaration) (object : Protected) → object_line profile declared object ≡ line_as profile (protected_text declared) (seen object)
line_is profile declared object =
    λ i. codes "object "
    ++ (string_bytes declared.name
    ++ (ints_is object.state.store 0 declared.ints.items i
    ++ (bools_is object.state.store 0 declared.bools.items i
    ++ (queues_is profile declared.entries.items object.state.queues i ++ codes "\n"))))

lines_as : Profile → List ProtectedText → List Seen → List ℕ
lines_as profile [] objects = []
lines_as profile (declared ∷ rest) [] = []
lines_as profile (declared ∷ rest) (object ∷ objects) = line_as profile declared object ++ lines_as profile rest objects

lines_are : (profile : Profile) (declared : List ObjectDeclaration) (objects : List Protected) → object_lines profile declared objects ≡ lines_as profile (map protected_text declared) (map seen objects)
unfolding lines_as
lines_are profile [] objects = refl
lines_are profile (declared ∷ rest) [] = refl
lines_are profile (declared ∷ rest) (object ∷ objects) = λ i. line_is profile declared object i ++ lines_are profile rest objects i

timers_as : List (List ℕ) → List (Option ℤ) → List ℕ
timers_as [] times = []
timers_as (name ∷ rest) [] = []
timers_as (name ∷ rest) (time ∷ times) = (codes "timer " ++ (name ++ (time_text time ++ codes "\n"))) ++ timers_as rest times

timers_are : (timers : List TimingEvent) (times : List (Option ℤ)) → timer_lines timers times ≡ timers_as (map timer_name timers) times
unfolding timers_as
timers_are [] times = refl
timers_are (timer ∷ rest) [] = refl
timers_are (timer ∷ rest) (time ∷ times) = ap (λ (l : List ℕ). timer_line timer time ++ l) (timers_are rest times)

pub images_alike : (r q : Running) → AlikeRunning r q → objects_image r ≡ objects_image q
images_alike r q alike =
    let p = alike.program in
    let s = alike.state in
    let lines : object_lines r.program.profile r.program.objects.items r.state.objects ≡ object_lines q.program.profile q.program.objects.items q.state.objects =
    lines_are r.program.profile r.program.objects.items r.state.objects ∙ (λ i. lines_as (p.profile i) (p.objects i) (s.objects i)) ∙ sym (lines_are q.program.profile q.program.objects.items q.state.objects) in
    let timers : timer_lines r.program.timers.items r.state.timers ≡ timer_lines q.program.timers.items q.state.timers =
    timers_are r.program.timers.items r.state.timers ∙ (λ i. timers_as (p.names i) (s.timers i)) ∙ sym (timers_are q.program.timers.items q.state.timers) in
    λ i. lines i ++ (codes "clock " ++ (decimal (s.clock i) ++ (codes "\n" ++ timers i)))
