-- The text that shows the state of a program.
use Rattle.std.specs.Prelude.{ℕ, suc, ℤ, Bool, true, false, Option, Some, None, List, [], ◌∷◌, ◌++◌}
use Rattle.std.specs.Prelude.{String, string_bytes, codes, decimal, flat_map}
use Rattle.std.specs.declared.alloc.Global.{Global}
use Rattle.std.specs.Fmt.{signed_decimal}
use Rattle.rp_entry.specs.rp_body.specs.Store.{Store, int_value, bool_value}
use Rattle.rp_entry.specs.declared.state.Waiting.{Waiting}
use Rattle.rp_entry.specs.Protected.{Protected}
use Rattle.rp_object.specs.declared.program.ObjectDeclaration.{ObjectDeclaration}
use Rattle.rp_object.specs.declared.program.Profile.{Profile}
use Rattle.rp_object.specs.declared.program.Profile.TheVariants.{Ravenscar, Jorvik}
use Rattle.rp_object.specs.declared.program.TimingEvent.{TimingEvent}
use Rattle.rp_object.specs.State.{Running}

-- ` NAME=VALUE` for each whole number, from a place on
abbrev pub ints_text : Store → ℕ → List (String Global) → List ℕ
ints_text store place [] = []
ints_text store place (name ∷ rest) =
    codes " " ++ (string_bytes name
    ++ (codes "=" ++ (signed_decimal (int_value store place) ++ ints_text store (suc place) rest)))

abbrev pub truth_text : Bool → List ℕ
truth_text true = codes "true"
truth_text false = codes "false"

-- ` NAME=true` or ` NAME=false` for each Boolean, from a place on
abbrev pub bools_text : Store → ℕ → List (String Global) → List ℕ
bools_text store place [] = []
bools_text store place (name ∷ rest) =
    codes " " ++ (string_bytes name
    ++ (codes "=" ++ (truth_text (bool_value store place) ++ bools_text store (suc place) rest)))

-- a call that waits
abbrev pub call_text : Waiting → List ℕ
call_text call =
    codes " task " ++ (decimal call.task
    ++ (codes " call " ++ (decimal call.number ++ (codes " arg " ++ signed_decimal call.arg))))

-- the calls that wait at an entry, in order of arrival, or ` none`
abbrev pub queue_text : List Waiting → List ℕ
queue_text [] = codes " none"
queue_text (call ∷ rest) = flat_map call_text (call ∷ rest)

-- the name of an entry, which is shown where there may be several
abbrev pub entry_text : Profile → List ℕ → List ℕ
entry_text Ravenscar name = []
entry_text Jorvik name = codes " " ++ name

-- the queue of each entry, in order
abbrev pub queues_text : Profile → List (String Global) → List (List Waiting) → List ℕ
queues_text profile (name ∷ names) (queue ∷ queues) =
    codes " queue" ++ (entry_text profile (string_bytes name)
    ++ (queue_text queue ++ queues_text profile names queues))
queues_text profile _ _ = []

-- the line of an object
abbrev pub object_line : Profile → ObjectDeclaration → Protected → List ℕ
object_line profile declared object =
    codes "object "
    ++ (string_bytes declared.name
    ++ (ints_text object.state.store 0 declared.ints.items
    ++ (bools_text object.state.store 0 declared.bools.items
    ++ (queues_text profile declared.entries.items object.state.queues ++ codes "\n"))))

abbrev pub object_lines : Profile → List ObjectDeclaration → List Protected → List ℕ
object_lines profile (declared ∷ rest) (object ∷ objects) =
    object_line profile declared object ++ object_lines profile rest objects
object_lines profile _ _ = []

abbrev pub time_text : Option ℤ → List ℕ
time_text None = codes " off"
time_text (Some time) = codes " at " ++ signed_decimal time

-- the line of a timing event
abbrev pub timer_line : TimingEvent → Option ℤ → List ℕ
timer_line timer time =
    codes "timer " ++ (string_bytes timer.name ++ (time_text time ++ codes "\n"))

abbrev pub timer_lines : List TimingEvent → List (Option ℤ) → List ℕ
timer_lines (timer ∷ rest) (time ∷ times) = timer_line timer time ++ timer_lines rest times
timer_lines _ _ = []

-- a line for each object, the line of the clock, and a line for each timing event
abbrev pub objects_image : Running → List ℕ
objects_image running =
    object_lines running.program.profile running.program.objects.items running.state.objects
    ++ (codes "clock " ++ (decimal running.state.clock
    ++ (codes "\n" ++ timer_lines running.program.timers.items running.state.timers)))
