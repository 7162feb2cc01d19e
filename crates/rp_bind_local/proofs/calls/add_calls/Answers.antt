-- All operations are written.
use Rattle.std.proofs.Common.{◌≡◌, ◌++◌, ℕ, List, map, ap, rules, sym, ◌∙◌, string_bytes}
use Rattle.std.specs.Prelude.{flat_map, String}
use Rattle.std.specs.declared.alloc.Global.{Global}
use Rattle.std.specs.Map.Iter.{deref_pair}
use Rattle.std.proofs.lemmas.Map.Iter.{iter_end}
use Rattle.std.proofs.lemmas.List.Folds.{flat_map-map}
use Rattle.rp_deck_declarations.specs.rp_deck_objects.specs.declared.names.OperationName.{OperationName}
use Rattle.rp_deck_declarations.specs.rp_object.specs.Program.{operations_of}
use Rattle.rp_bind_local.specs.Calls.{call_lines, form_of, numbers_text, one_call}
use Rattle.rp_bind_local.specs.Operations.{does_at}
use Rattle.rp_bind_local.proofs.Adding.{written_more}
use Rattle.rp_bind_local.proofs.calls.add_calls.Goals as goal

pub returns : goal.returns
returns c =
    let entries = c.args.object.now.operations.now.entries in
    let start : c.into_iter-name-iterator.result ≡ entries = search rules in
    let shown : map deref_pair c.loop-name.yielded ≡ entries = (iter_end deref_pair entries c.loop-name.yielded c.into_iter-name-iterator.result _ _ _ start c.loop-name.yielded_by c.in-None.is c.next.ensures.steps).0 in
    let lines : String Global × OperationName → List ℕ = λ e. one_call (does_at (operations_of c.args.declaration.now) e.1) c.args.number e.1 c.args.object.now.name.now (string_bytes e.0) in
    c.loop-name.invariant ∙ ap (λ (t : List ℕ). string_bytes c.args.text.now ++ t) (sym (flat_map-map lines deref_pair c.loop-name.yielded) ∙ ap (flat_map lines) shown)

pub loop-name-preserved : goal.loop-name-preserved
loop-name-preserved c =
    let operation = c.in-Some.operation.now in
    let text = string_bytes c.loop-name.text in
    let owner = c.args.object.now.name.now in
    let form : c.form_of-form.result ≡ form_of (does_at (operations_of c.args.declaration.now) operation) = search rules in
    let name : c.deref-in-loop-name.result.now ≡ string_bytes c.in-Some.name.now = search rules in
    let more : string_bytes c.add_call.new.text ≡ text ++ one_call (does_at (operations_of c.args.declaration.now) operation) c.args.number operation owner (string_bytes c.in-Some.name.now) =
    c.in_ok-add_call.ensures ∙ (λ i. text ++ (numbers_text c.args.number (c.kind_of.ensures i) (c.index_of.ensures i) ++ call_lines (form i) owner (name i))) in
    written_more c.loop-name.yielded (λ pair. one_call (does_at (operations_of c.args.declaration.now) pair.1.now) c.args.number pair.1.now owner (string_bytes pair.0.now))
    (c.in-Some.name, c.in-Some.operation) (string_bytes c.args.text.now) text (string_bytes c.add_call.new.text) c.loop-name.invariant more
