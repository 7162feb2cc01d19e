use Rattle.std.proofs.Common.{◌≡◌, [], ◌++◌, ◌∷◌, length, take}
use Rattle.std.specs.Prelude.{flat_map}
use Rattle.rp_codec.proofs.list_text.put_items.Given as goal

abbrev pub invariant-loop-item : goal.invariant-loop-item
invariant-loop-item g l =
    l.out.items ≡ ((l.fn.out.items ++ l.front) ++ length l.items ∷ []) ++ flat_map g.T.Item.item_text (take l.item-index l.items)
