-- The first caller of the first open entry is served.
use Rattle.std.proofs.Common.{◌≡◌, ◌<◌, ℤ, List, ◌∷◌, length, set, Some, refl, sym, ◌∙◌, ap, ap₂, subst, rules, arith, FitsSigned, w64}
use Rattle.std.proofs.lemmas.Int.{to_z-of_z}
use Rattle.std.proofs.lemmas.Option.{slice_get_within}
use Rattle.std.specs.Prelude.{slice_get}
use Rattle.rp_base.specs.declared.reply.Reply.{Reply}
use Rattle.rp_base.specs.declared.reply.Answer.{Answer}
use Rattle.rp_body.specs.Meaning.{body_effect}
use Rattle.rp_body.specs.declared.statement.Stmt.{Stmt}
use Rattle.rp_entry.specs.declared.operations.Entry.{Entry}
use Rattle.rp_entry.specs.declared.state.Waiting.{Waiting}
use Rattle.rp_entry.specs.Queue.{State, IsOpen, IsReady, queue_at}
use Rattle.rp_entry.specs.Servicing.{Serves}
use Rattle.rp_entry.proofs.Acting.{one_item}
use Rattle.rp_entry.proofs.Ready.{queue_read, entry_read}
use Rattle.rp_entry.proofs.state.State.serve_next.Goals as goal

pub returns-clause-served : goal.returns-clause-served
returns-clause-served c =
    let inside = c.self.inside in
    let place = c.in_ok-place.place in
    let entries = c.args.operations.now.entries.items in
    let found = c.in_ok-place.ensures.ready in
    let entry = c.index.result.now in
    let call : Waiting = c.pop-call.result in
    let answer : Answer = record { task = call.task; number = call.number; reply = c.reply_of.result } in
    let before : State = record { store = inside.components; queues = inside.queues.items } in
    let after : State = record { store = c.run-outcome.new.components; queues = set inside.queues.items place c.pop-call.new.self } in
    let same : before ≡ c.args.self.now = c.self.view_is in
    let below : place < length entries = slice_get_within entries place found.entry found.declared in
    let within : place < length inside.queues.items = omega (arith, below, c.requires.each, ap (λ (s : State). length s.queues) same) in
    let declared : slice_get entries place ≡ Some entry = entry_read entries place entry below c.index.ensures in
    let up : IsOpen entry inside.components = subst (λ (s : State). IsOpen entry s.store) (sym same) (subst (λ (e : Entry). IsOpen e c.args.self.now.store) (one_item found.declared declared) found.at_barrier) in
    let waits : queue_at inside.queues.items place ≡ call ∷ c.pop-call.new.self = queue_read inside.queues.items place c.index_mut.result.now within c.index_mut.ensures.value ∙ c.pop-call.ensures in
    let fits : FitsSigned w64 call.arg = search rules in
    let step : Serves c.args.operations.now before answer after = record {
      place = place;
      ready = record { entry = entry; call = call; rest = c.pop-call.new.self; declared = declared; at_barrier = up; waits = waits };
      least = λ other less ready. c.in_ok-place.ensures.least other less (subst (λ (s : State). IsReady entries s other) same ready);
      ended = c.run-outcome.result;
      run = ap₂ (λ (b : List Stmt) (a : ℤ). body_effect b a inside.components) (sym c.deref.ensures.value) (sym (to_z-of_z w64 call.arg fits)) ∙ sym c.run-outcome.ensures.effect;
      left = refl;
      replied = ap (λ (r : Reply). record { task = call.task; number = call.number; reply = r }) c.reply_of.ensures;
    } in
    subst (λ (s : State). Serves c.args.operations.now s answer after) same step
