-- The branch is linked to an order that is there.
use Rattle.std.proofs.Common.{◌≡◌, ◌+◌, List, [], ◌∷◌, ◌++◌, length, arith, sym, ap, subst, ◌∙◌}
use Rattle.rp_base.specs.declared.action.Action.{Action}
use Rattle.rp_explore.specs.declared.branch.Branch.{Branch}
use Rattle.rp_explore.specs.Listed.{Listed, IsTree, further, orders_of}
use Rattle.rp_explore.proofs.TreeLemmas.{length_all, branches_push, orders_from-push}
use Rattle.rp_explore.proofs.tree.OrderTree.push.Goals as goal

pub invariant_of-self-2 : goal.invariant_of-self-2
invariant_of-self-2 c =
    let may = c.self.inside.may.items in
    let branches = c.self.inside.branches.items in
    let size : length c.args.self.now.orders ≡ length branches + 1 = ap (λ (v : Listed). length v.orders) (sym c.self.view_is) ∙ length_all may branches in
    let own : length c.args.self.now.may ≡ length may = ap (λ (v : Listed). length v.may) (sym c.self.view_is) in
    let branch : Branch = record { before = c.args.place; action = c.args.action } in
    let linked = branches_push may (length may) 1 branches branch c.self.invariant.linked (omega (arith, size, c.requires.place)) (omega (arith, own, c.requires.action)) in
    subst (λ (bs : List Branch). IsTree may bs) (sym c.in_ok-push.ensures.items) (record { right = c.self.invariant.right; linked = linked })

pub returns-clause-ok : goal.returns-clause-ok
returns-clause-ok c =
    let may = c.self.inside.may.items in
    let branches = c.self.inside.branches.items in
    let branch : Branch = record { before = c.args.place; action = c.args.action } in
    let pushed : orders_of may c.push.new.self.items ≡ orders_of may branches ++ further (record { may = may; orders = orders_of may branches }) c.args.place c.args.action ∷ [] =
    ap (orders_of may) c.in_ok-push.ensures.items ∙ orders_from-push may ([] ∷ []) branches branch in
    ap (λ (orders : List (List Action)). record { may = may; orders = orders }) pushed
    ∙ ap (λ (v : Listed). record v { orders = v.orders ++ further v c.args.place c.args.action ∷ [] }) c.self.view_is
