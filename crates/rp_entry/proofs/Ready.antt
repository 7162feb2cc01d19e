-- Entries that are open and have a caller.
use Rattle.std.proofs.Common.{◌≡◌, ◌≢◌, ◌<◌, ◌+◌, ℕ, zero, suc, List, [], ◌∷◌, length, map, get_or, Some, refl, sym, ◌∙◌, ap, subst, arith}
use Rattle.std.specs.Prelude.{slice_get}
use Rattle.std.proofs.lemmas.Bool.{cases_eq}
use Rattle.std.proofs.lemmas.Option.{slice_get_read, get_or_from_slice_get}
use Rattle.std.proofs.Math.Logic.{⊎_elim}
use Rattle.std.specs.List.{AllZip}
use Rattle.rp_base.specs.Sets.{Has, IsSet}
use Rattle.rp_body.specs.Store.{Store, limits_of}
use Rattle.rp_entry.specs.declared.operations.Entry.{Entry}
use Rattle.rp_entry.specs.declared.operations.Operations.{Operations}
use Rattle.rp_entry.specs.declared.state.Waiting.{Waiting}
use Rattle.rp_entry.specs.Operations.{OperationsFit}
use Rattle.rp_entry.specs.Queue.{State, IsOpen, IsReady, IsServiced, queue_at, all_calls, empty_queues, tasks_waiting}
use Rattle.rp_entry.specs.Protected.{Protected, IsShort, IsObject}
use Rattle.rp_entry.proofs.Acting.{one_item}

-- the queue that is read at a place
pub queue_read : (queues : List (List Waiting)) (place : ℕ) (queue : List Waiting) → place < length queues → queue ≡ get_or queues place queue → queue_at queues place ≡ queue
queue_read queues place queue below read = get_or_from_slice_get queues place queue [] (slice_get_read queues (length queues) place queue refl below read)

-- the entry that is read at a place
pub entry_read : (entries : List Entry) (place : ℕ) (entry : Entry) → place < length entries → entry ≡ get_or entries place entry → slice_get entries place ≡ Some entry
entry_read entries place entry below read = slice_get_read entries (length entries) place entry refl below read

module _ (entries : List Entry) (state : State) (place : ℕ) where
  -- an open entry at which a call waits
  pub ready_at : (entry : Entry) (queue : List Waiting) → slice_get entries place ≡ Some entry → queue_at state.queues place ≡ queue → IsOpen entry state.store → queue ≢ [] → IsReady entries state place
  ready_at entry [] there found up full = absurd (full refl)
  ready_at entry (call ∷ rest) there found up full = record { entry = entry; call = call; rest = rest; declared = there; at_barrier = up; waits = found }

  pub closed_at : (entry : Entry) → slice_get entries place ≡ Some entry → ¬ IsOpen entry state.store → ¬ IsReady entries state place
  closed_at entry there shut ready = shut (subst (λ (e : Entry). IsOpen e state.store) (one_item ready.declared there) ready.at_barrier)

  pub empty_at : (queue : List Waiting) → queue_at state.queues place ≡ queue → queue ≡ [] → ¬ IsReady entries state place
  empty_at queue found nobody ready = let none : ready.call ∷ ready.rest ≡ [] = sym ready.waits ∙ found ∙ nobody in absurd (cc)

  -- one place more
  pub none_more : ((other : ℕ) → other < place → ¬ IsReady entries state other) → ¬ IsReady entries state place → (other : ℕ) → other < place + 1 → ¬ IsReady entries state other
  none_more before here other below ready = ⊎_elim
      (λ (is : other ≡ place). here (subst (λ n. IsReady entries state n) is ready))
      (λ (apart : other ≢ place). before other (omega (arith, below, apart)) ready)
      (cases_eq other place)

-- ---- where nobody waits

-- there is no call
pub no_call : (entries : List Entry) → all_calls (empty_queues entries) ≡ []
no_call [] = refl
no_call (entry ∷ entries) = no_call entries

all_empty : (entries : List Entry) (place : ℕ) → queue_at (empty_queues entries) place ≡ []
all_empty [] place = refl
all_empty (entry ∷ entries) zero = refl
all_empty (entry ∷ entries) (suc place) = all_empty entries place

all_short : (entries : List Entry) → AllZip IsShort entries (empty_queues entries)
all_short [] = tt
all_short (entry ∷ entries) = (omega arith, all_short entries)

-- operations that fit, and components at which nobody waits, are an object
pub first_is_object : (operations : Operations) (store : Store) → OperationsFit (limits_of store) operations → IsObject operations (record { store = store; queues = empty_queues operations.entries.items })
first_is_object operations store fits =
    let entries = operations.entries.items in
    let state : State = record { store = store; queues = empty_queues entries } in
    let nobody : tasks_waiting state ≡ [] = ap (λ (l : List Waiting). map (λ (call : Waiting). call.task) l) (no_call entries) in
    record {
      fits = fits;
      serviced = λ place. empty_at entries state place [] (all_empty entries place) refl;
      queues = record {
        short = all_short entries;
        tasks = λ task has. absurd (subst (λ (l : List ℕ). Has task l) nobody has);
        apart = subst (λ (l : List ℕ). IsSet l) (sym nobody) tt;
      };
    }

-- the same object in other words
pub same_serviced : {one other : Protected} → one ≡ other → IsServiced one.operations one.state → IsServiced other.operations other.state
same_serviced same serviced = subst (λ (o : Protected). IsServiced o.operations o.state) same serviced
