-- The start of a program.
use Rattle.std.proofs.Common.{◌≡◌, ℕ, ℤ, List, [], ◌∷◌, length, map, Option, refl, sym, ◌∙◌, ap, ap₂, subst}
use Rattle.std.proofs.lemmas.List.{length-map}
use Rattle.std.specs.List.{AllZip, AllByRecursion}
use Rattle.std.proofs.lemmas.List.Elements.{recursion_from_All}
use Rattle.rp_base.specs.Sets.{Has, IsSet}
use Rattle.rp_entry.specs.Protected.{Protected}
use Rattle.rp_object.specs.declared.program.ObjectDeclaration.{ObjectDeclaration}
use Rattle.rp_object.specs.declared.program.Declarations.{Declarations}
use Rattle.rp_object.specs.Program.{operations_of, DeclarationFits, IsProgram}
use Rattle.rp_object.specs.State.{Running, first_object, unset, first_state}
use Rattle.rp_object.specs.Step.{tasks_of}
use Rattle.rp_object.specs.InMemory.{IsMade, AreObjects, tasks_at}
use Rattle.rp_object.proofs.MachineLaws.First.{nobody}

made_first : (declared : List ObjectDeclaration) → AllByRecursion DeclarationFits declared → AllZip IsMade declared (map first_object declared)
made_first [] fits = tt
made_first (one ∷ rest) fits = (record { operations = refl; queues = length-map (operations_of one).entries.items (λ entry. []) ∙ sym fits.0.entries }, made_first rest fits.1)

-- the start is held
pub objects_first : (program : Declarations) (objects : List Protected) (timers : List (Option ℤ)) → IsProgram program → objects ≡ map first_object program.objects.items → length timers ≡ length program.timers.items → AreObjects program objects timers
objects_first program objects timers right first long =
    let none : tasks_at objects ≡ [] = ap (λ (l : List Protected). tasks_at l) first ∙ ap tasks_of (nobody program.objects.items) in
    record {
      right = right;
      all_objects = ap length first ∙ length-map program.objects.items first_object;
      made = subst (λ (l : List Protected). AllZip IsMade program.objects.items l) (sym first) (made_first program.objects.items (recursion_from_All DeclarationFits program.objects.items right.objects));
      all_timers = long;
      tasks = λ task has. absurd (subst (λ (l : List ℕ). Has task l) none has);
      apart = subst (λ (l : List ℕ). IsSet l) (sym none) tt;
    }

-- what is put together is the start
pub starts_so : (program declared : Declarations) (objects : List Protected) (timers : List (Option ℤ)) → declared ≡ program → objects ≡ map first_object declared.objects.items → timers ≡ map unset declared.timers.items
    → ◌≡◌ {A = Running} (record { program = declared; state = record { objects = objects; timers = timers; clock = 0 } }) (first_state program)
starts_so program declared objects timers same first times =
    ap₂ (λ (o : List Protected) (t : List (Option ℤ)). record { program = declared; state = record { objects = o; timers = t; clock = 0 } }) first times ∙ ap first_state same
