-- The start of a program is one of its states.
use Rattle.std.proofs.Common.{◌≡◌, ℕ, List, [], ◌∷◌, ◌++◌, map, IfSome, FitsSigned, w64, refl, sym}
use Rattle.std.proofs.Common.{◌∙◌, ap, subst, arith}
use Rattle.std.specs.Prelude.{flat_map}
use Rattle.std.specs.List.{AllZip, AllByRecursion}
use Rattle.std.proofs.lemmas.List.{length-map}
use Rattle.std.proofs.lemmas.List.Elements.{All-from_recursion, recursion_from_All}
use Rattle.rp_base.specs.Sets.{Has, IsSet}
use Rattle.rp_entry.specs.declared.state.Waiting.{Waiting}
use Rattle.rp_entry.proofs.Ready.{first_is_object, no_call}
use Rattle.rp_machine.specs.Calls.{CallName, AccountsFor, MayApply, calls_of}
use Rattle.rp_base.specs.declared.action.Action.{Action}
use Rattle.rp_object.specs.declared.program.ObjectDeclaration.{ObjectDeclaration}
use Rattle.rp_object.specs.declared.program.TimingEvent.{TimingEvent}
use Rattle.rp_object.specs.declared.program.Declarations.{Declarations}
use Rattle.rp_object.specs.Program.{operations_of, DeclarationFits, IsProgram}
use Rattle.rp_object.specs.State.{Running, first_object, unset, first_state, call_name_of}
use Rattle.rp_object.specs.Step.{waiting_at, objects_waiting, objects_next, objects_answers}
use Rattle.rp_object.specs.Reached.{IsObjectOf, IsStateOf}
use Rattle.rp_object.proofs.MachineLaws.Accounting.{step_leaves, step_accounts}
use Rattle.rp_object.proofs.MachineLaws.Distinct.{set_of_mapped, tasks_apart}
use Rattle.rp_object.proofs.MachineLaws.Keeping.{as_many, have_queues}

pub nobody : (declared : List ObjectDeclaration)
    → flat_map waiting_at (map first_object declared) ≡ []
nobody [] = refl
nobody (one ∷ rest) =
    ap (λ (l : List Waiting). map call_name_of l ++ flat_map waiting_at (map first_object rest))
    (no_call (operations_of one).entries.items) ∙ nobody rest

-- nobody waits at the start
pub nobody_first : (program : Declarations) → objects_waiting (first_state program) ≡ []
nobody_first program = nobody program.objects.items

first_one : (declared : ObjectDeclaration) → DeclarationFits declared
    → IsObjectOf declared (first_object declared)
first_one declared fits = record {
  operations = refl;
  ranges = λ name. refl;
  bools = λ name. refl;
  values = fits.in_range;
  queues =
      (first_is_object (operations_of declared) declared.components fits.operations).queues.short;
  calls =
      λ call has. absurd (subst (λ (l : List Waiting). Has call l)
      (no_call (operations_of declared).entries.items) has);
  serviced =
      (first_is_object (operations_of declared) declared.components fits.operations).serviced;
}

first_ones : (declared : List ObjectDeclaration) → AllByRecursion DeclarationFits declared
    → AllZip IsObjectOf declared (map first_object declared)
first_ones [] fits = tt
first_ones (one ∷ rest) fits = (first_one one fits.0, first_ones rest fits.1)

all_unset : (timers : List TimingEvent)
    → AllByRecursion (λ time. IfSome time (FitsSigned w64)) (map unset timers)
all_unset [] = tt
all_unset (timer ∷ rest) = (tt, all_unset rest)

pub first_is_state : (program : Declarations) → IsProgram program
    → IsStateOf program (first_state program)
first_is_state program right = record {
  declared = refl;
  objects = first_ones program.objects.items
      (recursion_from_All DeclarationFits program.objects.items right.objects);
  all_timers = length-map program.timers.items unset;
  times =
      All-from_recursion (λ time. IfSome time (FitsSigned w64)) (map unset program.timers.items)
      (all_unset program.timers.items);
  clock = omega arith;
  tasks = subst (λ (l : List CallName). IsSet (map (λ (call : CallName). call.task) l))
      (sym (nobody_first program)) tt;
}

-- who waited, who is answered and who waits
pub state_accounts : (program : Declarations) (running : Running) (action : Action)
    → IsStateOf program running
    → MayApply (objects_waiting running) action
    → AccountsFor (objects_waiting running) action (objects_answers running action)
    (objects_waiting (objects_next running action))
state_accounts program running action is may =
    let own = running.program in
    let objects =
    subst (λ (p : Declarations). AllZip IsObjectOf p.objects.items running.state.objects)
    (sym is.declared) is.objects in
    let leaves = step_leaves own running.state action
    (as_many own.objects.items running.state.objects objects)
    (have_queues own.objects.items running.state.objects objects) in
    let task_of : CallName → ℕ = λ call. call.task in
    step_accounts (objects_waiting running) action (objects_answers running action)
    (objects_waiting (objects_next running action))
    (set_of_mapped task_of (calls_of action ++ objects_waiting running)
    (tasks_apart (objects_waiting running) action may is.tasks)) leaves
