-- A call joins the queue of a closed entry.
use Rattle.std.proofs.Common.{◌≡◌, ◌≢◌, ◌<◌, ◌≤◌, ◌-◌, ℕ, zero, suc, List, [], ◌∷◌, ◌++◌, length, Some, sym, ◌∙◌, ap, subst, arith}
use Rattle.std.specs.Prelude.{slice_get}
use Rattle.std.proofs.lemmas.Bool.{cases_eq}
use Rattle.std.proofs.lemmas.List.{get_or-set_other}
use Rattle.std.proofs.Math.Logic.{⊎_elim}
use Rattle.rp_base.specs.Number.{IsTask}
use Rattle.rp_base.specs.Sets.{Has}
use Rattle.rp_body.specs.declared.components.Limits.{Limits}
use Rattle.rp_entry.specs.declared.operations.Entry.{Entry}
use Rattle.rp_entry.specs.declared.operations.Operations.{Operations}
use Rattle.rp_entry.specs.declared.state.Waiting.{Waiting}
use Rattle.rp_entry.specs.Operations.{of_index, EntryFits, OperationsFit}
use Rattle.rp_entry.specs.Queue.{State, IsOpen, IsServiced, queue_at, tasks_waiting}
use Rattle.rp_entry.specs.Protected.{IsObject, HasQueues}
use Rattle.rp_entry.specs.Actions.{with_caller}
use Rattle.rp_entry.proofs.Acting.{one_item}
use Rattle.rp_entry.proofs.Naming.{all_at}
use Rattle.rp_entry.proofs.Queues.{index_there, as_many, right_joined}

-- an index from 1 and the place from 0
pub at_index : {X : Type 0} (xs : List X) (index : ℕ) (x : X) → of_index xs index ≡ Some x → slice_get xs (index - 1) ≡ Some x
at_index xs zero x there = absurd (cc)
at_index xs (suc place) x there = let same : suc place - 1 ≡ place = omega arith in ap (slice_get xs) same ∙ there

-- the entry of an index fits
pub entry_fits : {limits : Limits} {operations : Operations} (index : ℕ) (entry : Entry) → OperationsFit limits operations → of_index operations.entries.items index ≡ Some entry → EntryFits limits entry
entry_fits {limits} {operations} index entry fits there = all_at (EntryFits limits) operations.entries.items index entry fits.entries there

module _ (operations : Operations) {before : State} (index : ℕ) (call : Waiting) (entry : Entry) (there : of_index operations.entries.items index ≡ Some entry) (shut : ¬ IsOpen entry before.store) where
  -- no call waits at an open barrier then
  pub serviced_joined : IsServiced operations before → IsServiced operations (with_caller before index call)
  serviced_joined serviced place ready = ⊎_elim
      (λ (is : place ≡ index - 1). shut (subst (λ (e : Entry). IsOpen e before.store) (one_item (ap (slice_get operations.entries.items) (sym is) ∙ ready.declared) (at_index operations.entries.items index entry there)) ready.at_barrier))
      (λ (other : place ≢ index - 1).
      let new = queue_at before.queues (index - 1) ++ call ∷ [] in
      let was : queue_at before.queues place ≡ ready.call ∷ ready.rest = sym (get_or-set_other before.queues (index - 1) place new [] other) ∙ ready.waits in
      serviced place (record { entry = ready.entry; call = ready.call; rest = ready.rest; declared = ready.declared; at_barrier = ready.at_barrier; waits = was }))
      (cases_eq place (index - 1))

  -- what is left is an object
  pub object_joined : IsObject operations before → length (queue_at before.queues (index - 1)) < entry.longest → IsTask call.task → ¬ Has call.task (tasks_waiting before) → IsObject operations (with_caller before index call)
  object_joined object room task free = record {
    fits = object.fits;
    serviced = serviced_joined object.serviced;
    queues = right_joined index call entry there room task free object.queues;
  }

-- an object has a queue for the entry of an index
pub queue_there : {operations : Operations} {before : State} (index : ℕ) (entry : Entry) → of_index operations.entries.items index ≡ Some entry → HasQueues operations before → index ≤ length before.queues
queue_there {operations} {before} index entry there right = omega (arith, (index_there operations.entries.items index entry there).1, as_many operations.entries.items before.queues right.short)
