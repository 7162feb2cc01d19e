-- The procedure of this index is the one that the object has.
use Rattle.std.proofs.Common.{◌≡◌, List, Some, None, Vec, Global, refl, sym, ◌∙◌, ap, subst, w64}
use Rattle.std.proofs.lemmas.Int.{to_z-of_z}
use Rattle.rp_body.specs.declared.statement.Stmt.{Stmt}
use Rattle.rp_entry.specs.Operations.{of_index}
use Rattle.rp_entry.specs.Actions.{Runs, Acts, calls_procedure, procedure, no_procedure}
use Rattle.rp_entry.specs.Protected.{Protected}
use Rattle.rp_entry.proofs.Acting.{runs_same, acts_same, is_object_after, shared_is, shared_runs, shared_serviced}
use Rattle.rp_entry.proofs.Chains.{is_serviced}
use Rattle.rp_entry.proofs.Ready.{same_serviced}
use Rattle.rp_entry.proofs.object.Object.procedure.Goals as goal

pub invariant_of-self : goal.invariant_of-self
invariant_of-self c = is_object_after c.self.invariant (shared_runs c.deref-operations.ensures c.run.ensures.runs) c.run.ensures.counts

pub returns-in-Some-clause-action : goal.returns-in-Some-clause-action
returns-in-Some-clause-action c =
    let inside = c.self.inside in
    let operations = c.deref-operations.result.now in
    let body = c.in-Some.body.now in
    let declared : of_index operations.procedures.items c.args.index ≡ Some body =
    sym (c.in-Some.ensures ∙ ap (λ (l : List (Vec Stmt Global)). of_index l c.args.index) c.deref.ensures.value) in
    let runs : Runs operations body.items c.args.arg inside.state c.run.result.outcome c.run.result.served c.run.new.self =
    runs_same c.deref-in-Some.ensures.value (to_z-of_z w64 c.args.arg c.ranges.arg) c.run.ensures.runs in
    let acts : Acts operations inside.state (calls_procedure c.args.index c.args.arg) (Some c.run.result.outcome) c.run.result.served c.run.new.self = procedure declared runs in
    subst (λ (o : Protected). Acts o.operations o.state (calls_procedure c.args.index c.args.arg) (Some c.run.result.outcome) c.run.result.served c.run.new.self) (shared_is c.deref-operations.ensures ∙ c.self.view_is) acts

pub returns-in-Some-clause-serviced : goal.returns-in-Some-clause-serviced
returns-in-Some-clause-serviced c = shared_serviced c.run.new.self c.deref-operations.ensures (is_serviced c.run.ensures.runs.serviced)

pub returns-in-None-clause-action : goal.returns-in-None-clause-action
returns-in-None-clause-action c =
    let inside = c.self.inside in
    let operations = c.deref-operations.result.now in
    let missing : of_index operations.procedures.items c.args.index ≡ None =
    sym (c.in-None.ensures ∙ ap (λ (l : List (Vec Stmt Global)). of_index l c.args.index) c.deref.ensures.value) in
    let acts : Acts operations inside.state (calls_procedure c.args.index c.args.arg) (Some c.alone.result.outcome) c.alone.result.served inside.state =
    acts_same (ap Some c.alone.ensures.outcome) c.alone.ensures.served refl (no_procedure missing) in
    subst (λ (o : Protected). Acts o.operations o.state (calls_procedure c.args.index c.args.arg) (Some c.alone.result.outcome) c.alone.result.served o.state) (shared_is c.deref-operations.ensures ∙ c.self.view_is) acts

pub returns-in-None-clause-serviced : goal.returns-in-None-clause-serviced
returns-in-None-clause-serviced c = same_serviced c.self.view_is c.self.invariant.serviced
