-- Calls of distinct tasks.
use Rattle.std.proofs.Common.{inl, List, [], ◌∷◌, ◌++◌, map, refl}
use Rattle.rp_base.specs.Sets.{IsSet}
use Rattle.rp_base.specs.declared.action.Action.{Action}
use Rattle.rp_base.specs.declared.action.Action.TheVariants.{Noop, Call, Interrupt, Tick}
use Rattle.rp_base.proofs.Members.{has_mapped, mapped_has}
use Rattle.rp_machine.specs.Calls.{CallName, calls_of, MayApply}

-- distinct values are made of distinct things
pub set_of_mapped : {A B : Type 0} (f : A → B) (xs : List A) → IsSet (map f xs) → IsSet xs
set_of_mapped f [] s = tt
set_of_mapped f (x ∷ xs) s = ((λ h. s.0 (has_mapped f x xs h)), set_of_mapped f xs s.1)

pub set_right : {A B : Type 0} (f : A → B) (xs ys : List A) → IsSet (map f (xs ++ ys))
    → IsSet (map f ys)
set_right f [] ys s = s
set_right f (x ∷ xs) ys s = set_right f xs ys s.1

-- the task of an action's own call waits for no other
pub tasks_apart : (waiting : List CallName) (action : Action) → MayApply waiting action
    → IsSet (map (λ (call : CallName). call.task) waiting)
    → IsSet (map (λ (call : CallName). call.task) (calls_of action ++ waiting))
tasks_apart waiting Noop may set = set
tasks_apart waiting (Call task number object operation arg) may set = (
  (λ waits.
      let other = mapped_has (λ (call : CallName). call.task) task waiting waits in
      may (record { task = task; number = number }) other.0 (inl refl) other.1 other.2),
  set,
)
tasks_apart waiting (Interrupt source occurrence) may set = set
tasks_apart waiting (Tick now) may set = set
