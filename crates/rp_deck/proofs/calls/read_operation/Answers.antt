-- The operation is one of the names of the object's operations.
use Rattle.std.proofs.Common.{◌≡◌, ◌+◌, ℕ, suc, Some, rules, arith, sym, subst, ◌∙◌}
use Rattle.std.specs.Prelude.{slice_get}
use Rattle.std.specs.List.{IsAmong}
use Rattle.rp_words.specs.indexmap.specs.IndexMap.{values}
use Rattle.rp_deck_declarations.specs.rp_deck_objects.specs.ObjectViews.{operation_of}
use Rattle.rp_deck_declarations.specs.Programs.{IsOffered}
use Rattle.rp_deck_declarations.proofs.Offering.{offered}
use Rattle.rp_deck.proofs.calls.read_operation.Goals as goal

pub returns-clause-offered : goal.returns-clause-offered
returns-clause-offered c =
    let declared = c.args.declared.now in
    let place = c.in_ok-place.place in
    let own = c.in_ok-names.names.now in
    let name = c.in_ok-operation.operation in
    let here : slice_get declared.operations.items place ≡ Some own = search rules in
    let among : IsAmong (values own) name = search rules in
    let next : suc place ≡ place + 1 = omega arith in
    subst (λ operation. IsOffered declared.program (place + 1) operation) (sym c.operation.ensures.value)
    (subst (λ (n : ℕ). IsOffered declared.program n (operation_of name)) next
    (offered declared.program declared.operations.items place own name c.requires.named (c.requires.program ∙ sym c.requires.operations) here among))
