-- Each branch leads back to an earlier order.
use Rattle.std.proofs.Common.{◌≡◌, ◌<◌, ◌+◌, ℕ, List, [], ◌∷◌, ◌++◌, length, reverse, get_or, arith, sym, ap, subst, ◌∙◌, append_assoc, append-nil}
use Rattle.std.proofs.lemmas.List.{reverse-append, get_or_read}
use Rattle.rp_base.specs.declared.action.Action.{Action}
use Rattle.rp_base.specs.declared.action.Action.TheVariants.{Noop}
use Rattle.rp_orders.specs.Orders.{AreRight, AreAmong}
use Rattle.rp_explore.specs.Listed.{Listed, order_at, AreOrdersOf, orders_of}
use Rattle.rp_explore.proofs.Lists.{has_at}
use Rattle.rp_explore.proofs.TreeLemmas.{length_all, first_all, grown_all, among_all, right_if_among}
use Rattle.rp_explore.proofs.tree.OrderTree.order.Goals as goal

-- the last of the steps back
reverse_push : (xs : List Action) (x : Action) → reverse (xs ++ x ∷ []) ≡ x ∷ reverse xs
reverse_push xs x = reverse-append xs (x ∷ [])

pub loop-at-init : goal.loop-at-init
loop-at-init c =
    let may = c.self.inside.may.items in
    let branches = c.self.inside.branches.items in
    let size : length c.args.self.now.orders ≡ length branches + 1 = ap (λ (v : Listed). length v.orders) (sym c.self.view_is) ∙ length_all may branches in
    record {
      within = omega (arith, size);
      value = sym (ap (λ (xs : List Action). order_at (orders_of may branches) c.args.place ++ reverse xs) c.new-backward.ensures.items ∙ append-nil (order_at (orders_of may branches) c.args.place));
    }

pub index-branch-requires : goal.index-branch-requires
index-branch-requires c = omega (arith, c.loop-at.invariant.within, c.self.inside.branches.ok.0)

pub index-requires : goal.index-requires
index-requires c =
    let may = c.self.inside.may.items in
    let own = grown_all may c.self.inside.branches.items c.loop-at.at c.index-branch.result.now c.self.invariant.linked c.loop-at-test.true c.loop-at.invariant.within c.index-branch.ensures in
    omega (arith, own.1, c.self.inside.may.ok.0)

pub loop-at-smaller : goal.loop-at-smaller
loop-at-smaller c =
    let may = c.self.inside.may.items in
    let own = grown_all may c.self.inside.branches.items c.loop-at.at c.index-branch.result.now c.self.invariant.linked c.loop-at-test.true c.loop-at.invariant.within c.index-branch.ensures in
    own.0

pub loop-at-preserved : goal.loop-at-preserved
loop-at-preserved c =
    let may = c.self.inside.may.items in
    let branches = c.self.inside.branches.items in
    let branch = c.index-branch.result.now in
    let own = grown_all may branches c.loop-at.at branch c.self.invariant.linked c.loop-at-test.true c.loop-at.invariant.within c.index-branch.ensures in
    let orders = orders_of may branches in
    let back = c.loop-at.backward.items in
    let action = get_or may branch.action Noop in
    let read : c.index.result.now ≡ action = get_or_read may branch.action c.index.result.now own.1 c.index.ensures Noop in
    let now : reverse c.push.new.self.items ≡ action ∷ reverse back = ap reverse c.in_ok-push.ensures.items ∙ reverse_push back c.index.result.now ∙ ap (λ (a : Action). a ∷ reverse back) read in
    record {
      within = omega (arith, own.0, c.loop-at.invariant.within);
      value = c.loop-at.invariant.value
          ∙ ap (λ (xs : List Action). xs ++ reverse back) own.2
          ∙ append_assoc (order_at orders branch.before) (action ∷ []) (reverse back)
          ∙ ap (λ (xs : List Action). order_at orders branch.before ++ xs) (sym now);
    }

pub returns-clause-value : goal.returns-clause-value
returns-clause-value c =
    let may = c.self.inside.may.items in
    let branches = c.self.inside.branches.items in
    let orders = orders_of may branches in
    let end : c.loop-at.at ≡ 0 = omega (arith, c.loop-at-test.false) in
    let there : order_at orders c.loop-at.at ≡ [] = ap (order_at orders) end ∙ first_all may branches in
    c.reverse.ensures.items ∙ sym (c.loop-at.invariant.value ∙ ap (λ (xs : List Action). xs ++ reverse c.loop-at.backward.items) there)
    ∙ ap (λ (v : Listed). order_at v.orders c.args.place) c.self.view_is

-- the order that was found is one of the tree
is_among : (listed : Listed) (place : ℕ) (order : List Action) → place < length listed.orders → order ≡ order_at listed.orders place → AreOrdersOf listed → AreAmong listed.may order
is_among listed place order lt same among = subst (λ (xs : List Action). AreAmong listed.may xs) (sym same) (among (order_at listed.orders place) (has_at listed.orders place [] lt))

pub returns-clause-among : goal.returns-clause-among
returns-clause-among c =
    let all = subst (λ (v : Listed). AreOrdersOf v) c.self.view_is (among_all c.self.inside.may.items c.self.inside.branches.items c.self.invariant.linked) in
    is_among c.args.self.now c.args.place c.reverse.new.self.items c.requires (returns-clause-value c) all

pub returns-clause-right : goal.returns-clause-right
returns-clause-right c =
    let right = subst (λ (v : Listed). AreRight v.may) c.self.view_is c.self.invariant.right in
    right_if_among c.args.self.now.may c.reverse.new.self.items right (returns-clause-among c)
