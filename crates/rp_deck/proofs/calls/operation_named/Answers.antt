use Rattle.std.proofs.Common.{◌≡◌, ◌∙◌, ℕ, zero, suc, List, [], ◌∷◌, map, Some, ap, sym}
use Rattle.std.specs.Prelude.{slice_get}
use Rattle.std.specs.Map.{values_of}
use Rattle.std.proofs.lemmas.Option.{slice_get_within, get_or_from_slice_get}
use Rattle.rp_words.specs.indexmap.specs.IndexMap.{values}
use Rattle.rp_deck_declarations.specs.rp_deck_objects.specs.declared.names.OperationName.{OperationName}
use Rattle.rp_deck_declarations.specs.rp_deck_objects.specs.ObjectViews.{operation_of}
use Rattle.rp_words.specs.Tables.{value_at}
use Rattle.rp_deck.proofs.calls.operation_named.Goals as goal

-- the value at a place, and what is seen of it
value_is : {Y X : Type 0} (entries : List (Y × X)) (place : ℕ) (entry : Y × X) → slice_get entries place ≡ Some entry → slice_get (values_of entries) place ≡ Some entry.1
value_is [] place entry found = absurd cc
value_is (e ∷ es) zero entry found = let same : e ≡ entry = cc in ap (λ x. Some x.1) same
value_is (e ∷ es) (suc place) entry found = value_is es place entry found

seen : {X Z : Type 0} (view : X → Z) (xs : List X) (place : ℕ) (x : X) → slice_get xs place ≡ Some x → slice_get (map view xs) place ≡ Some (view x)
seen view [] place x found = absurd cc
seen view (y ∷ ys) zero x found = let same : y ≡ x = cc in ap (λ z. Some (view z)) same
seen view (y ∷ ys) (suc place) x found = seen view ys place x found

pub returns-clause-value : goal.returns-clause-value
returns-clause-value c =
    let found : OperationName = c.in_ok-operation.operation.now in
    let here = value_is c.args.names.now.entries c.in_ok-place.place _ (sym c.in_ok-operation.ensures.entry) in
    sym (ap (value_at (map operation_of (values c.args.names.now))) (sym c.in_ok-place.ensures.place) ∙ seen operation_of (values c.args.names.now) c.in_ok-place.place found here)

pub returns-clause-among : goal.returns-clause-among
returns-clause-among c =
    let found : OperationName = c.in_ok-operation.operation.now in
    let here = value_is c.args.names.now.entries c.in_ok-place.place _ (sym c.in_ok-operation.ensures.entry) in
    (c.in_ok-place.place, (slice_get_within (values c.args.names.now) c.in_ok-place.place found here, sym (get_or_from_slice_get (values c.args.names.now) c.in_ok-place.place found found here)))
