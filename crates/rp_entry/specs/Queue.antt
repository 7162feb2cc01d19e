-- The state of a protected object: its components, and a queue for each of its entries (Ada
-- Reference Manual, section
-- 9.5.3).
use Rattle.std.specs.Prelude.{◌≡◌, ℕ, ℤ, IsTrue, Some, List, [], ◌∷◌, map, flat_map, slice_get}
use Rattle.std.specs.Prelude.{slice_index_or, refl}
use Rattle.std.specs.Coded.{Coded, code_by, coded×, coded_ℕ, coded_ℤ, coded_list}
use Rattle.rp_body.specs.Store.{Store, store_code, bool_value}
use Rattle.rp_entry.specs.declared.operations.Entry.{Entry}
use Rattle.rp_entry.specs.declared.operations.Operations.{Operations}
use Rattle.rp_entry.specs.declared.state.Waiting.{Waiting}

-- the components, and for each entry, in order, the calls that wait at it, the first one first
pub record State : Type 0 where
  pub store : Store
  pub queues : List (List Waiting)

-- a call, for the proofs, as the tuple of its fields
abbrev pub waiting_code : Coded Waiting
waiting_code =
    code_by (ℕ × (ℕ × ℤ)) (coded× coded_ℕ (coded× coded_ℕ coded_ℤ))
    (λ w. (w.task, (w.number, w.arg)))
    (λ p. record { task = p.0; number = p.1.0; arg = p.1.1 }) (λ _. refl)

-- a state, for the proofs, as the pair of its parts
abbrev pub state_code : Coded State
state_code =
    code_by (Store × List (List Waiting)) (coded× store_code (coded_list (coded_list waiting_code)))
    (λ s. (s.store, s.queues)) (λ p. record { store = p.0; queues = p.1 }) (λ _. refl)

-- nobody waits at any of these entries
abbrev pub empty_queues : List Entry → List (List Waiting)
empty_queues entries = map (λ entry. []) entries

-- the queue of the entry at a place, counted from 0
abbrev pub queue_at : List (List Waiting) → ℕ → List Waiting
queue_at queues place = slice_index_or queues place []

-- the calls that wait, entry by entry, and their tasks
abbrev pub all_calls : List (List Waiting) → List Waiting
all_calls queues = flat_map (λ queue. queue) queues

abbrev pub tasks_waiting : State → List ℕ
tasks_waiting state = map (λ (call : Waiting). call.task) (all_calls state.queues)

-- an entry is open where its barrier is True, and else closed
abbrev pub IsOpen : Entry → Store → Type 0
IsOpen entry store = IsTrue (bool_value store entry.barrier)

-- of these entries, the one at a place, counted from 0, is open and has a caller
pub record IsReady (entries : List Entry) (state : State) (place : ℕ) : Type 0 where
  pub entry : Entry
  pub call : Waiting
  pub rest : List Waiting
  pub declared : slice_get entries place ≡ Some entry
  pub at_barrier : IsOpen entry state.store
  pub waits : queue_at state.queues place ≡ call ∷ rest

-- no call waits at an open barrier
abbrev pub IsServiced : Operations → State → Type 0
IsServiced operations state = (place : ℕ) → ¬ IsReady operations.entries.items state place
