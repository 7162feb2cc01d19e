-- All operations are written.
use Rattle.std.proofs.Common.{◌≡◌, ◌++◌, ℕ, List, map, ap, rules, sym, ◌∙◌, string_bytes}
use Rattle.std.specs.Prelude.{flat_map, option_copied, String}
use Rattle.std.specs.declared.alloc.Global.{Global}
use Rattle.std.specs.Map.Iter.{deref_pair}
use Rattle.std.proofs.lemmas.Map.Iter.{iter_end}
use Rattle.std.proofs.lemmas.List.Folds.{flat_map-map}
use Rattle.rp_deck_declarations.specs.rp_deck_objects.specs.declared.names.OperationName.{OperationName}
use Rattle.rp_bind.specs.Packages.{operation_text}
use Rattle.rp_bind.proofs.packages.write_operations.Goals as goal

pub returns : goal.returns
returns c =
    let entries = c.args.operations.now.entries in
    let start : c.into_iter-name-iterator.result ≡ entries = search rules in
    let shown : map deref_pair c.loop-name.yielded ≡ entries = (iter_end deref_pair entries c.loop-name.yielded c.into_iter-name-iterator.result _ _ _ start c.loop-name.yielded_by c.in-None.is c.next.ensures.steps).0 in
    let object = c.args.object in
    let lines : String Global × OperationName → List ℕ = λ e. operation_text object.language object.name.now object.number (option_copied c.args.declaration) (string_bytes e.0) e.1 in
    c.loop-name.invariant ∙ ap (λ (t : List ℕ). string_bytes c.args.text.now ++ t) (sym (flat_map-map lines deref_pair c.loop-name.yielded) ∙ ap (flat_map lines) shown)
