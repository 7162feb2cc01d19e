use Rattle.std.proofs.Common.{◌≡◌, ◌≤◌, ◌++◌, length, reverse}
use Rattle.rp_explore.specs.Listed.{order_at, orders_of}
use Rattle.rp_explore.proofs.tree.OrderTree.order.Given as goal

-- the order is that at the place reached, and then the actions so far, backward
abbrev pub invariant-loop-at : goal.invariant-loop-at
invariant-loop-at l =
    let orders = orders_of l.self-inside.may.items l.self-inside.branches.items in record {
      within : l.at ≤ length l.self-inside.branches.items;
      value : order_at orders l.place ≡ order_at orders l.at ++ reverse l.backward.items;
    }

abbrev pub decreases-loop-at : goal.decreases-loop-at
decreases-loop-at l = l.at
