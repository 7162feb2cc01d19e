-- The last call of a task in an order with one action more.
use Rattle.std.proofs.Common.{◌≡◌, ℕ, ◌+◌, ◌<◌, List, [], ◌∷◌, ◌++◌, get_or, length, max, take, arith, sym, ap, ◌∙◌}
use Rattle.std.proofs.lemmas.List.{take_more}
use Rattle.std.proofs.lemmas.List.Elements.{filter_map-append}
use Rattle.rp_script.specs.rp_base.specs.Number.{greatest}
use Rattle.rp_script.specs.rp_base.specs.declared.action.Action.{Action}
use Rattle.rp_script.specs.rp_machine.specs.Asked.{last_number}
use Rattle.rp_script.specs.rp_machine.specs.Replay.{number_for, numbers_of}

greatest_append : (xs ys : List ℕ) → greatest (xs ++ ys) ≡ max (greatest xs) (greatest ys)
greatest_append [] ys = omega arith
greatest_append (x ∷ xs) ys = omega (arith, greatest_append xs ys)

last_append : (task : ℕ) (before : List Action) (action : Action) → last_number task (before ++ action ∷ []) ≡ max (last_number task before) (last_number task (action ∷ []))
last_append task before action =
    ap greatest (filter_map-append (number_for task) before (action ∷ [])) ∙ greatest_append (numbers_of task before) (numbers_of task (action ∷ []))

pub last_more : (task : ℕ) (order : List Action) (place : ℕ) (action other : Action) → place < length order → action ≡ get_or order place other
    → (now number last : ℕ) → now ≡ last_number task (take place order) → number ≡ last_number task (action ∷ []) → last ≡ max now number
    → last ≡ last_number task (take (place + 1) order)
last_more task order place action other within is now number last so_far here greater =
    let longer : take (place + 1) order ≡ take place order ++ action ∷ [] = take_more order place other within ∙ ap (λ (a : Action). take place order ++ a ∷ []) (sym is) in
    greater
    ∙ ap (λ (n : ℕ). max n number) so_far ∙ ap (λ (n : ℕ). max (last_number task (take place order)) n) here
    ∙ sym (last_append task (take place order) action)
    ∙ sym (ap (last_number task) longer)
