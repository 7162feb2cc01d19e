-- One order for each branch, and the empty one.
use Rattle.std.proofs.Common.{◌≡◌, ◌+◌, length, arith, sym, ap, subst, ◌∙◌}
use Rattle.rp_explore.specs.Listed.{Listed, order_at, AreOrdersOf}
use Rattle.rp_explore.proofs.TreeLemmas.{length_all, first_all, among_all}
use Rattle.rp_explore.proofs.tree.OrderTree.len.Goals as goal

pub returns-clause-value : goal.returns-clause-value
returns-clause-value c =
    let may = c.self.inside.may.items in
    let branches = c.self.inside.branches.items in
    let size : length c.args.self.now.orders ≡ length branches + 1 = ap (λ (v : Listed). length v.orders) (sym c.self.view_is) ∙ length_all may branches in
    omega (arith, size, c.len.ensures, c.self.inside.branches.ok.0)

pub returns-clause-empty : goal.returns-clause-empty
returns-clause-empty c = ap (λ (v : Listed). order_at v.orders 0) (sym c.self.view_is) ∙ first_all c.self.inside.may.items c.self.inside.branches.items

pub returns-clause-among : goal.returns-clause-among
returns-clause-among c = subst (λ (v : Listed). AreOrdersOf v) c.self.view_is (among_all c.self.inside.may.items c.self.inside.branches.items c.self.invariant.linked)
