-- One item more, or the end.
use Rattle.std.proofs.Common.{◌≡◌, ◌∙◌, ◌+◌, ◌∷◌, ◌++◌, [], List, ℕ, take, sym, ap}
use Rattle.std.specs.Prelude.{flat_map}
use Rattle.std.proofs.lemmas.List.{flat_map_more, take_more}
use Rattle.rp_world.specs.rp_base.specs.declared.action.Action.{Action}
use Rattle.rp_details.specs.Details.{pending_line}
use Rattle.rp_details.proofs.known.add_pending.Goals as goal

pub loop-item-preserved : goal.loop-item-preserved
loop-item-preserved c =
    let items : List Action = c.args.items.now in
    let index = c.loop-item.item-index in
    let item : Action = c.item-item.result in
    let text = c.args.text.now.items in
    let longer : take (index + 1) items ≡ take index items ++ item ∷ [] =
    take_more items index item c.loop-item-test.true ∙ ap (λ (r : Action). take index items ++ r ∷ []) (sym c.item-item.is) in
    c.in_ok-add_item.ensures
    ∙ ap (λ (a : Action). c.loop-item.text.items ++ pending_line a) c.get.ensures.value
    ∙ ap (λ (l : List ℕ). l ++ pending_line item) c.loop-item.invariant
    ∙ flat_map_more pending_line text (take index items) item
    ∙ ap (λ (l : List Action). text ++ flat_map pending_line l) (sym longer)
