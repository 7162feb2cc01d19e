-- The places before have no open entry with a caller.
use Rattle.std.proofs.Common.{◌≡◌, ◌<◌, List, length, get_or, sym, ◌∙◌, ap, subst, arith}
use Rattle.std.proofs.lemmas.Bool.{false≢true}
use Rattle.std.proofs.lemmas.Option.{slice_get_within}
use Rattle.rp_entry.specs.declared.operations.Entry.{Entry}
use Rattle.rp_entry.specs.declared.state.Waiting.{Waiting}
use Rattle.rp_entry.specs.Queue.{State, queue_at}
use Rattle.rp_entry.proofs.Ready.{queue_read, entry_read, ready_at, closed_at, empty_at, none_more}
use Rattle.rp_entry.proofs.state.State.next_ready.Goals.{else-is_open-via-then-is_open+else-not-is_empty, else-is_open-via-else-is_open}
use Rattle.rp_entry.proofs.state.State.next_ready.Goals as goal

pub returns-then-not-is_empty-clause-ready : goal.returns-then-not-is_empty-clause-ready
returns-then-not-is_empty-clause-ready c =
    let place = c.loop-place.place in
    let entries = c.args.operations.now.entries.items in
    let same : c.self.inside.queues.items ≡ c.args.self.now.queues = ap (λ (s : State). s.queues) c.self.view_is in
    let shared = c.deref-entry-items.ensures.value in
    let below : place < length entries = subst (λ (l : List Entry). place < length l) shared c.loop-place-test.true in
    let read : c.entry-item.result ≡ get_or entries place c.entry-item.result = subst (λ (l : List Entry). c.entry-item.result ≡ get_or l place c.entry-item.result) shared c.entry-item.is in
    let within : place < length c.self.inside.queues.items = omega (arith, below, c.requires, ap length same) in
    let found : queue_at c.args.self.now.queues place ≡ c.index.result.now = ap (λ (l : List (List Waiting)). queue_at l place) (sym same) ∙ queue_read c.self.inside.queues.items place c.index.result.now within c.index.ensures in
    ready_at entries c.args.self.now place c.entry-item.result c.index.result.now (entry_read entries place c.entry-item.result below read) found (c.is_open.ensures.0 c.if-is_open.true) (λ none. false≢true (sym c.if-not-is_empty.true ∙ c.is_empty.ensures.1 none))

pub loop-place-preserved : goal.loop-place-preserved
loop-place-preserved c =
    let place = c.loop-place.place in
    let entries = c.args.operations.now.entries.items in
    let same : c.self.inside.queues.items ≡ c.args.self.now.queues = ap (λ (s : State). s.queues) c.self.view_is in
    let shared = c.deref-entry-items.ensures.value in
    let below : place < length entries = subst (λ (l : List Entry). place < length l) shared c.loop-place-test.true in
    let read : c.entry-item.result ≡ get_or entries place c.entry-item.result = subst (λ (l : List Entry). c.entry-item.result ≡ get_or l place c.entry-item.result) shared c.entry-item.is in
    let within : place < length c.self.inside.queues.items = omega (arith, below, c.requires, ap length same) in
    none_more entries c.args.self.now place c.loop-place.invariant (elim c.else-is_open.branch [
      | else-is_open-via-then-is_open+else-not-is_empty w ↦
          let found : queue_at c.args.self.now.queues place ≡ w.index.result.now = ap (λ (l : List (List Waiting)). queue_at l place) (sym same) ∙ queue_read c.self.inside.queues.items place w.index.result.now within w.index.ensures in
          empty_at entries c.args.self.now place w.index.result.now found (w.is_empty.ensures.0 w.if-not-is_empty.false)
      | else-is_open-via-else-is_open w ↦
          closed_at entries c.args.self.now place c.entry-item.result (entry_read entries place c.entry-item.result below read) (λ up. false≢true (sym w.if-is_open.false ∙ c.is_open.ensures.1 up))
    ])

pub returns-clause-none : goal.returns-clause-none
returns-clause-none c = λ place ready. c.loop-place.invariant place (omega (arith, c.loop-place-test.false, ap (λ (l : List Entry). length l) c.deref-entry-items.ensures.value, slice_get_within c.args.operations.now.entries.items place ready.entry ready.declared)) ready
