-- The list as far as it is put stands after the bytes, which no refusal touches.
use Rattle.std.proofs.Common.{◌++◌, length, take, ap, arith, ◌∙◌}
use Rattle.std.proofs.lemmas.List.{take_all}
use Rattle.rp_codec.proofs.ListWriting.{on_err, begins, stays, none_yet, one_more, all_put}
use Rattle.rp_codec.proofs.list_text.put_items.Goals as goal

pub returns-in_err-extend_from_slice-clause-err : goal.returns-in_err-extend_from_slice-clause-err
returns-in_err-extend_from_slice-clause-err g c =
    on_err c.from_residual.result (ap (take (length c.args.out.now.items)) c.in_err-extend_from_slice.ensures.items ∙ take_all (length c.args.out.now.items) c.args.out.now.items (omega arith))

pub returns-in_err-push-clause-err : goal.returns-in_err-push-clause-err
returns-in_err-push-clause-err g c =
    on_err c.from_residual-in_err-push.result
    (begins c.args.out.now.items c.as_slice.result.now c.push.new.self.items (c.in_err-push.ensures.items ∙ c.in_ok-extend_from_slice.ensures.items))

pub returns-in_err-extend_from_slice-2-clause-err :
    goal.returns-in_err-extend_from_slice-2-clause-err
returns-in_err-extend_from_slice-2-clause-err g c =
    on_err c.from_residual-in_err-extend_from_slice-2.result
    (stays g.T.Item.item_text c.args.out.now.items c.args.front.now c.args.items.now c.loop-item.item-index c.loop-item.out.items c.extend_from_slice-in-loop-item.new.self.items
    c.in_err-extend_from_slice-2.ensures.items c.loop-item.invariant)

pub loop-item-init : goal.loop-item-init
loop-item-init g c =
    none_yet g.T.Item.item_text c.args.out.now.items c.args.front.now c.args.items.now c.as_slice.result.now c.extend_from_slice.new.self.items c.push.new.self.items
    c.as_slice.ensures.bytes c.in_ok-extend_from_slice.ensures.items c.in_ok-push.ensures.items

pub loop-item-preserved : goal.loop-item-preserved
loop-item-preserved g c =
    let text = g.T.Item.item_text in
    one_more text c.args.out.now.items c.args.front.now c.args.items.now c.loop-item.item-index c.item-item.result c.loop-item.out.items c.as_slice-in-loop-item.result.now c.extend_from_slice-in-loop-item.new.self.items
    c.loop-item-test.true c.item-item.is c.loop-item.invariant
    (c.as_slice-in-loop-item.ensures.bytes ∙ c.put.ensures ∙ ap (λ front. front ++ text c.item-item.result) c.new-text.ensures)
    c.in_ok-extend_from_slice-2.ensures.items

pub returns-clause-ok : goal.returns-clause-ok
returns-clause-ok g c =
    all_put g.T.Item.item_text c.args.out.now.items c.args.front.now c.args.items.now c.loop-item.item-index c.loop-item.out.items c.loop-item-test.false c.loop-item.invariant
