-- Nobody waits at first.
use Rattle.std.proofs.Common.{List, sym, ◌∙◌, ap, subst, rules}
use Rattle.std.specs.Arc.{arc_value}
use Rattle.rp_body.specs.Store.{limits_of}
use Rattle.rp_entry.specs.declared.operations.Entry.{Entry}
use Rattle.rp_entry.specs.declared.operations.Operations.{Operations}
use Rattle.rp_entry.specs.Operations.{OperationsFit}
use Rattle.rp_entry.specs.Queue.{State, empty_queues}
use Rattle.rp_entry.specs.Protected.{IsObject}
use Rattle.rp_entry.proofs.Ready.{first_is_object}
use Rattle.rp_entry.proofs.object.Object.new.Goals as goal

pub invariant_of-result : goal.invariant_of-result
invariant_of-result c =
    let operations = arc_value c.args.operations in
    let fits : OperationsFit (limits_of c.args.components) operations = search rules in
    let entries = c.deref-3.ensures.value ∙ ap (λ (o : Operations). o.entries.items) c.deref-2.ensures in
    let state = c.in_ok-state.ensures ∙ ap (λ (l : List Entry). record { store = c.args.components; queues = empty_queues l }) entries in
    subst (λ (s : State). IsObject operations s) (sym state) (first_is_object operations c.args.components fits)
