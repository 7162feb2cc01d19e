use Rattle.std.proofs.Common.{◌≡◌, ◌∙◌, true, List, ℕ, Option, Some, None, IfSome, ap, sym}
use Rattle.std.specs.Prelude.{option_map, All}
use Rattle.rp_deck_bodies.specs.indexmap.specs.IndexMap.{values}
use Rattle.rp_object.specs.rp_entry.specs.declared.operations.Operations.{Operations}
use Rattle.rp_object.specs.Program.{has_operation}
use Rattle.rp_deck_objects.specs.declared.names.OperationName.{OperationName}
use Rattle.rp_deck_objects.specs.ObjectViews.{operation_of}
use Rattle.rp_words.specs.Tables.{find, key_names}
use Rattle.rp_deck_bodies.proofs.CountedLemmas.{found_holds}
use Rattle.rp_words.proofs.TablesLemmas.{found_is, found_itself}
use Rattle.rp_deck_objects.proofs.objects.ObjectDraft.operation.Goals as goal

has_found : (name : List ℕ) (names : List (List ℕ)) (declared : List OperationName) (operations : Operations) (found : Option OperationName) → found ≡ find name names declared
    → IfSome found (λ n. All (λ m. has_operation (operation_of m) operations ≡ true) declared → has_operation (operation_of n) operations ≡ true)
has_found name names declared operations None is = tt
has_found name names declared operations (Some n) is = λ all. found_holds (λ (m : OperationName). has_operation (operation_of m) operations ≡ true) name names declared n all (sym is)

pub returns-clause-has : goal.returns-clause-has
returns-clause-has c =
    let self = c.args.self.now in
    has_found c.args.name.now (key_names self.operation_names) (values self.operation_names) self.operations c.copied.result
    (c.copied.ensures ∙ c.get.ensures.value ∙ found_itself c.args.name.now self.operation_names.entries)

pub returns-clause-named : goal.returns-clause-named
returns-clause-named c =
    ap (option_map operation_of) (c.copied.ensures ∙ c.get.ensures.value) ∙ found_is operation_of c.args.name.now c.args.self.now.operation_names.entries
