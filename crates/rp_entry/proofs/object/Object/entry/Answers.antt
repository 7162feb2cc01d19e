-- The cases of an entry call.
use Rattle.std.proofs.Common.{◌≡◌, ◌≤◌, ◌-◌, ℤ, List, length, Some, None, refl, sym, ◌∙◌, ap, subst, arith, rules, w64}
use Rattle.std.specs.Arc.{arc_value}
use Rattle.std.proofs.lemmas.Int.{to_z-of_z}
use Rattle.std.proofs.lemmas.Bool.{false≢true}
use Rattle.rp_base.specs.Number.{IsTask}
use Rattle.rp_body.specs.declared.statement.Stmt.{Stmt}
use Rattle.rp_body.specs.Check.{KeepsLimits}
use Rattle.rp_body.specs.Store.{limits_of}
use Rattle.rp_entry.specs.declared.operations.Entry.{Entry}
use Rattle.rp_entry.specs.declared.operations.Operations.{Operations}
use Rattle.rp_entry.specs.declared.state.Waiting.{Waiting}
use Rattle.rp_entry.specs.Operations.{of_index}
use Rattle.rp_entry.specs.Queue.{State, IsOpen, IsServiced, queue_at, tasks_waiting}
use Rattle.rp_entry.specs.Actions.{Runs, Acts, calls_entry, open_entry, closed_entry, full_queue, no_entry, with_caller}
use Rattle.rp_entry.specs.Protected.{Protected, IsObject}
use Rattle.rp_base.specs.Sets.{Has}
use Rattle.rp_entry.proofs.Acting.{runs_same, acts_same, is_object_after, shared_is, shared_runs, shared_serviced}
use Rattle.rp_entry.proofs.Chains.{is_serviced}
use Rattle.rp_entry.proofs.Joining.{entry_fits, serviced_joined, object_joined, queue_there}
use Rattle.rp_entry.proofs.Ready.{same_serviced}
use Rattle.rp_entry.proofs.object.Object.entry.Goals as goal

pub returns-in_default-clause-action : goal.returns-in_default-clause-action
returns-in_default-clause-action c =
    let inside = c.self.inside in
    let operations = c.deref-operations.result.now in
    let call : Waiting = record { task = c.args.task; number = c.args.number; arg = c.args.arg } in
    let missing : of_index operations.entries.items c.args.index ≡ None =
    sym (c.in_default.ensures ∙ ap (λ (l : List Entry). of_index l c.args.index) c.deref.ensures.value) in
    let acts : Acts operations inside.state (calls_entry c.args.index call) (Some c.alone.result.outcome) c.alone.result.served inside.state =
    acts_same (ap Some c.alone.ensures.outcome) c.alone.ensures.served refl (no_entry missing) in
    subst (λ (o : Protected). Acts o.operations o.state (calls_entry c.args.index call) (Some c.alone.result.outcome) c.alone.result.served o.state) (shared_is c.deref-operations.ensures ∙ c.self.view_is) acts

pub returns-in_default-clause-serviced : goal.returns-in_default-clause-serviced
returns-in_default-clause-serviced c = same_serviced c.self.view_is c.self.invariant.serviced

pub run-requires-clause-body : goal.run-requires-clause-body
run-requires-clause-body c =
    let own = arc_value c.self.inside.operations in
    let there : of_index own.entries.items c.args.index ≡ Some c.in-Some.entry.now =
    ap (λ (o : Operations). of_index o.entries.items c.args.index) (sym c.deref-operations.ensures) ∙ sym (c.in-Some.ensures ∙ ap (λ (l : List Entry). of_index l c.args.index) c.deref.ensures.value) in
    subst (λ (b : List Stmt). KeepsLimits (limits_of c.self.inside.state.store) b) (sym c.deref-then-is_open.ensures.value) (entry_fits c.args.index c.in-Some.entry.now c.self.invariant.fits there).body

pub invariant_of-self : goal.invariant_of-self
invariant_of-self c = is_object_after c.self.invariant (shared_runs c.deref-operations.ensures c.run.ensures.runs) c.run.ensures.counts

pub returns-then-is_open-clause-action : goal.returns-then-is_open-clause-action
returns-then-is_open-clause-action c =
    let inside = c.self.inside in
    let operations = c.deref-operations.result.now in
    let entry = c.in-Some.entry.now in
    let call : Waiting = record { task = c.args.task; number = c.args.number; arg = c.args.arg } in
    let there : of_index operations.entries.items c.args.index ≡ Some entry =
    sym (c.in-Some.ensures ∙ ap (λ (l : List Entry). of_index l c.args.index) c.deref.ensures.value) in
    let runs : Runs operations entry.body.items call.arg inside.state c.run.result.outcome c.run.result.served c.run.new.self =
    runs_same c.deref-then-is_open.ensures.value (to_z-of_z w64 c.args.arg c.ranges.arg) c.run.ensures.runs in
    let acts : Acts operations inside.state (calls_entry c.args.index call) (Some c.run.result.outcome) c.run.result.served c.run.new.self =
    open_entry there (c.is_open.ensures.0 c.if-is_open.true) runs in
    subst (λ (o : Protected). Acts o.operations o.state (calls_entry c.args.index call) (Some c.run.result.outcome) c.run.result.served c.run.new.self) (shared_is c.deref-operations.ensures ∙ c.self.view_is) acts

pub returns-then-is_open-clause-serviced : goal.returns-then-is_open-clause-serviced
returns-then-is_open-clause-serviced c = shared_serviced c.run.new.self c.deref-operations.ensures (is_serviced c.run.ensures.runs.serviced)

pub has_room-requires-clause-declared : goal.has_room-requires-clause-declared
has_room-requires-clause-declared c =
    let own = arc_value c.self.inside.operations in
    let there : of_index own.entries.items c.args.index ≡ Some c.in-Some.entry.now =
    ap (λ (o : Operations). of_index o.entries.items c.args.index) (sym c.deref-operations.ensures) ∙ sym (c.in-Some.ensures ∙ ap (λ (l : List Entry). of_index l c.args.index) c.deref.ensures.value) in
    queue_there c.args.index c.in-Some.entry.now there c.self.invariant.queues

pub returns-then-not-has_room-clause-action : goal.returns-then-not-has_room-clause-action
returns-then-not-has_room-clause-action c =
    let inside = c.self.inside in
    let operations = c.deref-operations.result.now in
    let entry = c.in-Some.entry.now in
    let call : Waiting = record { task = c.args.task; number = c.args.number; arg = c.args.arg } in
    let there : of_index operations.entries.items c.args.index ≡ Some entry =
    sym (c.in-Some.ensures ∙ ap (λ (l : List Entry). of_index l c.args.index) c.deref.ensures.value) in
    let shut : ¬ IsOpen entry inside.state.store = λ h. false≢true (sym c.if-is_open.false ∙ c.is_open.ensures.1 h) in
    let full : entry.longest ≤ length (queue_at inside.state.queues (c.args.index - 1)) = grind (arith, c.has_room.ensures.1, c.if-not-has_room.true, false≢true) in
    let acts : Acts operations inside.state (calls_entry c.args.index call) (Some c.alone-then-not-has_room.result.outcome) c.alone-then-not-has_room.result.served inside.state =
    acts_same (ap Some c.alone-then-not-has_room.ensures.outcome) c.alone-then-not-has_room.ensures.served refl (full_queue there shut full) in
    subst (λ (o : Protected). Acts o.operations o.state (calls_entry c.args.index call) (Some c.alone-then-not-has_room.result.outcome) c.alone-then-not-has_room.result.served o.state) (shared_is c.deref-operations.ensures ∙ c.self.view_is) acts

pub returns-then-not-has_room-clause-serviced : goal.returns-then-not-has_room-clause-serviced
returns-then-not-has_room-clause-serviced c = same_serviced c.self.view_is c.self.invariant.serviced

pub enqueue-requires-clause-declared : goal.enqueue-requires-clause-declared
enqueue-requires-clause-declared c =
    let own = arc_value c.self.inside.operations in
    let there : of_index own.entries.items c.args.index ≡ Some c.in-Some.entry.now =
    ap (λ (o : Operations). of_index o.entries.items c.args.index) (sym c.deref-operations.ensures) ∙ sym (c.in-Some.ensures ∙ ap (λ (l : List Entry). of_index l c.args.index) c.deref.ensures.value) in
    queue_there c.args.index c.in-Some.entry.now there c.self.invariant.queues

pub enqueue-requires-clause-room : goal.enqueue-requires-clause-room
enqueue-requires-clause-room c =
    let own = arc_value c.self.inside.operations in
    let there : of_index own.entries.items c.args.index ≡ Some c.in-Some.entry.now =
    ap (λ (o : Operations). of_index o.entries.items c.args.index) (sym c.deref-operations.ensures) ∙ sym (c.in-Some.ensures ∙ ap (λ (l : List Entry). of_index l c.args.index) c.deref.ensures.value) in
    omega (arith, c.has_room.ensures.0 c.if-not-has_room.false, (entry_fits c.args.index c.in-Some.entry.now c.self.invariant.fits there).room)

pub invariant_of-self-2 : goal.invariant_of-self-2
invariant_of-self-2 c =
    let inside = c.self.inside in
    let own = arc_value inside.operations in
    let entry = c.in-Some.entry.now in
    let call : Waiting = record { task = c.args.task; number = c.args.number; arg = c.args.arg } in
    let there : of_index own.entries.items c.args.index ≡ Some entry =
    ap (λ (o : Operations). of_index o.entries.items c.args.index) (sym c.deref-operations.ensures) ∙ sym (c.in-Some.ensures ∙ ap (λ (l : List Entry). of_index l c.args.index) c.deref.ensures.value) in
    let shut : ¬ IsOpen entry inside.state.store = λ h. false≢true (sym c.if-is_open.false ∙ c.is_open.ensures.1 h) in
    let left : c.enqueue.new.self ≡ with_caller inside.state c.args.index call =
    c.enqueue.ensures ∙ ap (λ (a : ℤ). with_caller inside.state c.args.index (record { task = c.args.task; number = c.args.number; arg = a })) (to_z-of_z w64 c.args.arg c.ranges.arg) in
    let task : IsTask c.args.task = search rules in
    let free : ¬ Has c.args.task (tasks_waiting inside.state) = λ has. c.requires.free (subst (λ (o : Protected). Has c.args.task (tasks_waiting o.state)) c.self.view_is has) in
    subst (λ (s : State). IsObject own s) (sym left) (object_joined own c.args.index call entry there shut c.self.invariant (c.has_room.ensures.0 c.if-not-has_room.false) task free)

pub returns-clause-action : goal.returns-clause-action
returns-clause-action c =
    let inside = c.self.inside in
    let operations = c.deref-operations.result.now in
    let entry = c.in-Some.entry.now in
    let call : Waiting = record { task = c.args.task; number = c.args.number; arg = c.args.arg } in
    let there : of_index operations.entries.items c.args.index ≡ Some entry =
    sym (c.in-Some.ensures ∙ ap (λ (l : List Entry). of_index l c.args.index) c.deref.ensures.value) in
    let shut : ¬ IsOpen entry inside.state.store = λ h. false≢true (sym c.if-is_open.false ∙ c.is_open.ensures.1 h) in
    let left : c.enqueue.new.self ≡ with_caller inside.state c.args.index call =
    c.enqueue.ensures ∙ ap (λ (a : ℤ). with_caller inside.state c.args.index (record { task = c.args.task; number = c.args.number; arg = a })) (to_z-of_z w64 c.args.arg c.ranges.arg) in
    let acts : Acts operations inside.state (calls_entry c.args.index call) (Some c.alone-2.result.outcome) c.alone-2.result.served c.enqueue.new.self =
    acts_same (ap Some c.alone-2.ensures.outcome) c.alone-2.ensures.served left (closed_entry there shut (c.has_room.ensures.0 c.if-not-has_room.false)) in
    subst (λ (o : Protected). Acts o.operations o.state (calls_entry c.args.index call) (Some c.alone-2.result.outcome) c.alone-2.result.served c.enqueue.new.self) (shared_is c.deref-operations.ensures ∙ c.self.view_is) acts

pub returns-clause-serviced : goal.returns-clause-serviced
returns-clause-serviced c =
    let inside = c.self.inside in
    let own = arc_value inside.operations in
    let entry = c.in-Some.entry.now in
    let call : Waiting = record { task = c.args.task; number = c.args.number; arg = c.args.arg } in
    let there : of_index own.entries.items c.args.index ≡ Some entry =
    ap (λ (o : Operations). of_index o.entries.items c.args.index) (sym c.deref-operations.ensures) ∙ sym (c.in-Some.ensures ∙ ap (λ (l : List Entry). of_index l c.args.index) c.deref.ensures.value) in
    let shut : ¬ IsOpen entry inside.state.store = λ h. false≢true (sym c.if-is_open.false ∙ c.is_open.ensures.1 h) in
    let left : c.enqueue.new.self ≡ with_caller inside.state c.args.index call =
    c.enqueue.ensures ∙ ap (λ (a : ℤ). with_caller inside.state c.args.index (record { task = c.args.task; number = c.args.number; arg = a })) (to_z-of_z w64 c.args.arg c.ranges.arg) in
    subst (λ (s : State). IsServiced own s) (sym left) (serviced_joined own c.args.index call entry there shut c.self.invariant.serviced)
