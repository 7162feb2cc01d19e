-- A protected object as contracts see it.
use Rattle.std.specs.Prelude.{ℕ, ◌≤◌, List, length, refl}
use Rattle.std.specs.Coded.{Coded, code_by, coded×}
use Rattle.std.specs.List.{AllZip}
use Rattle.rp_base.specs.Number.{IsTask}
use Rattle.rp_base.specs.Sets.{Has, IsSet}
use Rattle.rp_body.specs.Store.{limits_of}
use Rattle.rp_entry.specs.contracts.operations.Operations as declared
use Rattle.rp_entry.specs.declared.operations.Entry.{Entry}
use Rattle.rp_entry.specs.declared.operations.Operations.{Operations}
use Rattle.rp_entry.specs.declared.state.Waiting.{Waiting}
use Rattle.rp_entry.specs.Operations.{OperationsFit}
use Rattle.rp_entry.specs.Queue.{State, state_code, IsServiced, tasks_waiting}

-- the declared operations, and the state now
pub record Protected : Type 0 where
  pub operations : Operations
  pub state : State

-- an object, for the proofs, as the pair of its parts
abbrev pub protected_code : Coded Protected
protected_code =
    code_by (Operations × State) (coded× declared.the_row.coded state_code)
    (λ o. (o.operations, o.state))
    (λ p. record { operations = p.0; state = p.1 }) (λ _. refl)

-- no more calls wait at an entry than it allows
abbrev pub IsShort : Entry → List Waiting → Type 0
IsShort entry queue = length queue ≤ entry.longest

-- each entry has its queue, which is not too long, and the calls that wait are of distinct tasks,
-- since a task waits at one place at most
pub record HasQueues (operations : Operations) (state : State) : Type 0 where
  pub short : AllZip IsShort operations.entries.items state.queues
  pub tasks : (task : ℕ) → Has task (tasks_waiting state) → IsTask task
  pub apart : IsSet (tasks_waiting state)

-- between actions the operations fit the components, no call waits at an open barrier, and the
-- queues are right
pub record IsObject (operations : Operations) (state : State) : Type 0 where
  pub fits : OperationsFit (limits_of state.store) operations
  pub serviced : IsServiced operations state
  pub queues : HasQueues operations state
