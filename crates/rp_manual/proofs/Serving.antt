-- Who is served first, and that after an action nobody waits at an open barrier.
use Rattle.std.proofs.Common.{◌≡◌, ◌<◌, ◌-◌, inl, inr, ℕ, zero, suc, true, List, [], ◌∷◌, set, get_or, Option, Some, refl, sym, ◌∙◌, ap, arith, get_or-set_same, get_or-set_other}
use Rattle.std.specs.Prelude.{slice_get}
use Rattle.std.specs.FinMap.{get}
use Rattle.std.proofs.lemmas.Bool.{cases_lt}
use Rattle.rp_object.specs.rp_base.specs.declared.reply.Answer.{Answer}
use Rattle.rp_object.specs.rp_body.specs.declared.statement.Outcome.{Outcome}
use Rattle.rp_object.specs.rp_body.specs.Store.{Store}
use Rattle.rp_object.specs.rp_body.specs.Meaning.{body_effect}
use Rattle.rp_object.specs.rp_entry.specs.declared.operations.Entry.{Entry}
use Rattle.rp_object.specs.rp_entry.specs.declared.operations.Operations.{Operations}
use Rattle.rp_object.specs.rp_entry.specs.declared.state.Waiting.{Waiting}
use Rattle.rp_object.specs.rp_entry.specs.declared.state.CallOutcome.{CallOutcome}
use Rattle.rp_object.specs.rp_entry.specs.Operations.{of_index}
use Rattle.rp_object.specs.rp_entry.specs.Queue.{State, IsReady, IsServiced, queue_at}
use Rattle.rp_object.specs.rp_entry.specs.Replies.{reply_of}
use Rattle.rp_object.specs.rp_entry.specs.Servicing.{Serves, Services, ends, goes_on}
use Rattle.rp_object.specs.rp_entry.specs.Actions.{Request, Acts}
use Rattle.rp_object.specs.rp_entry.proofs.Acting.{one_item}
use Rattle.rp_object.specs.rp_entry.proofs.Queues.{index_there, place_there}
use Rattle.rp_object.proofs.MachineLaws.Queues.{acts_serviced}
use Rattle.rp_manual.specs.ObjectRules.{outcome_at_end, NobodyWaitsAtOpen, IsNextAt, IsFirstOpen, IsServedFirst}
use Rattle.rp_manual.proofs.Acting.{opens, is_there}

-- ---- an index from 1 and its place from 0

at_index : {X : Type 0} (xs : List X) (index : ℕ) (x : X) → of_index xs index ≡ Some x → slice_get xs (index - 1) ≡ Some x
at_index xs zero x there = absurd (cc)
at_index xs (suc place) x there =
    let same : suc place - 1 ≡ place = omega arith in
    ap (slice_get xs) same ∙ there

-- the same entry in both words
pub ready_at : {operations : Operations} {state : State} {index : ℕ} {entry : Entry} {call : Waiting} {rest : List Waiting} → IsNextAt operations state index entry call rest → IsReady operations.entries.items state (index - 1)
ready_at {operations} {state} {index} {entry} {call} {rest} next = record {
  entry = entry;
  call = call;
  rest = rest;
  declared = at_index operations.entries.items index entry next.declared;
  at_barrier = opens state.store entry.barrier next.barrier;
  waits = next.waits;
}

pub next_at : {operations : Operations} {state : State} (place : ℕ) (ready : IsReady operations.entries.items state place) → IsNextAt operations state (suc place) ready.entry ready.call ready.rest
next_at {operations} {state} place ready =
    let same : suc place - 1 ≡ place = omega arith in
    record {
      declared = ready.declared;
      barrier = is_there (get state.store.bools ready.entry.barrier) ready.at_barrier;
      waits = ap (queue_at state.queues) same ∙ ready.waits;
    }

-- ---- nobody waits

pub serviced_from : (operations : Operations) (state : State) → NobodyWaitsAtOpen operations state → IsServiced operations state
serviced_from operations state nobody place ready =
    let next = next_at {operations = operations} {state = state} place ready in
    let none : ready.call ∷ ready.rest ≡ [] = sym next.waits ∙ nobody (suc place) ready.entry next.declared next.barrier in
    absurd (cc)

module _ (operations : Operations) (state : State) (serviced : IsServiced operations state) (index : ℕ) (entry : Entry) (declared : of_index operations.entries.items index ≡ Some entry) (barrier : get state.store.bools entry.barrier ≡ Some true) where
  no_queue : (queue : List Waiting) → queue_at state.queues (index - 1) ≡ queue → queue ≡ []
  no_queue [] is = refl
  no_queue (call ∷ rest) is =
      let next : IsNextAt operations state index entry call rest = record { declared = declared; barrier = barrier; waits = is } in
      absurd (serviced (index - 1) (ready_at next))

  nobody_there : queue_at state.queues (index - 1) ≡ []
  nobody_there = no_queue (queue_at state.queues (index - 1)) refl

pub nobody_from : (operations : Operations) (state : State) → IsServiced operations state → NobodyWaitsAtOpen operations state
nobody_from operations state serviced index entry declared barrier = nobody_there operations state serviced index entry declared barrier

pub leaves_nobody : {operations : Operations} {before after : State} {request : Request} {caller : Option CallOutcome} {replied : List Answer} → NobodyWaitsAtOpen operations before → Acts operations before request caller replied after → NobodyWaitsAtOpen operations after
leaves_nobody {operations} {before} {after} nobody acts = nobody_from operations after (acts_serviced acts (serviced_from operations before nobody))

-- ---- who is served first

-- the list after the first element
abbrev rest_of : {X : Type 0} → List X → List X
rest_of [] = []
rest_of (x ∷ xs) = xs

module _ {operations : Operations} {before : State} {index : ℕ} {entry : Entry} {call : Waiting} {rest : List Waiting} (next : IsNextAt operations before index entry call rest) (first : IsFirstOpen operations before index) where
  place_is : {answer : Answer} {between : State} (step : Serves operations before answer between) → step.place ≡ index - 1
  place_is step =
      let some = (index_there operations.entries.items index entry next.declared).0 in
      elim (cases_lt step.place (index - 1)) [
        | inl below ↦
            let at = next_at {operations = operations} {state = before} step.place step.ready in
            let lower : suc step.place < index = omega (arith, below, some) in
            absurd (first (suc step.place) step.ready.entry step.ready.call step.ready.rest lower at)
        | inr least ↦ elim (cases_lt (index - 1) step.place) [ inl under ↦ absurd (step.least (index - 1) under (ready_at next)) | inr most ↦ omega (arith, least, most) ]
      ]

  serves_it : {answer : Answer} {others : List Answer} {between after : State} → Serves operations before answer between → Services operations between others after → IsServedFirst operations before index entry call rest (answer ∷ others) after
  serves_it {answer} {others} {between} {after} step left =
      let place = place_is step in
      let is_entry : step.ready.entry ≡ entry = one_item (ap (slice_get operations.entries.items) (sym place) ∙ step.ready.declared) (at_index operations.entries.items index entry next.declared) in
      let queue : step.ready.call ∷ step.ready.rest ≡ call ∷ rest = sym step.ready.waits ∙ ap (queue_at before.queues) place ∙ next.waits in
      let is_call : step.ready.call ≡ call = ap (λ (q : List Waiting). get_or q 0 call) queue in
      let is_rest : step.ready.rest ≡ rest = ap rest_of queue in
      let run : body_effect entry.body.items call.arg before.store ≡ (between.store, step.ended) =
      ap (λ (e : Entry). body_effect e.body.items call.arg before.store) (sym is_entry) ∙ ap (λ (c : Waiting). body_effect step.ready.entry.body.items c.arg before.store) (sym is_call) ∙ step.run in
      let ended : outcome_at_end entry.body.items call.arg before ≡ step.ended = ap (λ (r : Store × Outcome). r.1) run in
      let reply : answer.reply ≡ reply_of step.ended = ap (λ (a : Answer). a.reply) step.replied in
      let below = place_there before.queues (index - 1) call rest next.waits in
      let queues : between.queues ≡ set before.queues (index - 1) rest = step.left ∙ ap (λ (p : ℕ). set before.queues p step.ready.rest) place ∙ ap (set before.queues (index - 1)) is_rest in
      record {
        answer = answer;
        others = others;
        between = between;
        first = refl;
        task = ap (λ (a : Answer). a.task) step.replied ∙ ap (λ (c : Waiting). c.task) is_call;
        number = ap (λ (a : Answer). a.number) step.replied ∙ ap (λ (c : Waiting). c.number) is_call;
        value = λ out is. reply ∙ ap reply_of (sym ended ∙ is);
        exception = λ is. reply ∙ ap reply_of (sym ended ∙ is);
        store = ap (λ (r : Store × Outcome). r.0) (sym run);
        queue = ap (λ (l : List (List Waiting)). queue_at l (index - 1)) queues ∙ get_or-set_same before.queues (index - 1) rest [] below;
        unchanged = λ other apart. ap (λ (l : List (List Waiting)). queue_at l other) queues ∙ get_or-set_other before.queues (index - 1) other rest [] apart;
        goes_on = left;
      }

pub served_first : {operations : Operations} {before after : State} {replied : List Answer} → Services operations before replied after → {index : ℕ} {entry : Entry} {call : Waiting} {rest : List Waiting} → IsNextAt operations before index entry call rest → IsFirstOpen operations before index → IsServedFirst operations before index entry call rest replied after
served_first (ends serviced) {index} next first = absurd (serviced (index - 1) (ready_at next))
served_first (goes_on step left) next first = serves_it next first step left
