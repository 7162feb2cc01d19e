-- Lists of orders, and how memory holds them.
use Rattle.std.specs.Prelude.{◌≡◌, ◌<◌, ◌≤◌, ◌+◌, ℕ, List, [], ◌∷◌, ◌++◌, length, slice_index_or}
use Rattle.rp_base.specs.Sets.{Has}
use Rattle.rp_base.specs.declared.action.Action.{Action}
use Rattle.rp_base.specs.declared.action.Action.TheVariants.{Noop}
use Rattle.rp_base.specs.declared.reply.Answer.{Answer}
use Rattle.rp_orders.specs.Orders.{AreRight, AreAmong, LeadAlike, IsGuarded}
use Rattle.rp_orders.specs.declared.guard.Guard.{Guard}
use Rattle.rp_explore.specs.declared.branch.Branch.{Branch}

-- some orders of the actions that may happen
pub record Listed : Type 0 where
  pub may : List Action
  pub orders : List (List Action)

-- the order at a place, from 0
abbrev pub order_at : List (List Action) → ℕ → List Action
order_at orders place = slice_index_or orders place []

-- the order at a place, and then one of the actions that may happen, by its index
abbrev pub further : Listed → ℕ → ℕ → List Action
further listed place index =
    order_at listed.orders place ++ slice_index_or listed.may index Noop ∷ []

-- each of the orders is of actions that may happen
abbrev pub AreOrdersOf : Listed → Type 0
AreOrdersOf listed = (order : List Action) → Has order listed.orders → AreAmong listed.may order

-- none of the orders is longer than a later one
abbrev pub AreSorted : List (List Action) → Type 0
AreSorted orders = (one other : ℕ) → one ≤ other → other < length orders
    → length (order_at orders one) ≤ length (order_at orders other)

module _ {S : Type 0} (next : S → Action → S) (answers : S → Action → List Answer) (begin : S)
    (guards : List Guard) where
  -- the guards let each action of each of the orders be decided
  abbrev pub AreGuarded : List (List Action) → Type 0
  AreGuarded orders = (order : List Action) → Has order orders
      → IsGuarded next answers begin guards order

  -- no two of the orders, by their places, have the same effect
  abbrev pub AreDistinct : List (List Action) → Type 0
  AreDistinct orders = (one other : ℕ) → one < length orders → other < length orders
      → LeadAlike next answers begin guards (order_at orders one) (order_at orders other)
      → one ≡ other

-- ---- how memory holds them (no public clause names what follows)

-- the orders that are there, and then one for each branch: an earlier one and one action more
abbrev pub orders_from : List Action → List (List Action) → List Branch → List (List Action)
orders_from may orders [] = orders
orders_from may orders (branch ∷ rest) =
    let listed : Listed = record { may = may; orders = orders } in
    orders_from may (orders ++ further listed branch.before branch.action ∷ []) rest

-- the empty order, and then one for each branch
abbrev pub orders_of : List Action → List Branch → List (List Action)
orders_of may branches = orders_from may ([] ∷ []) branches

-- each branch goes on from an earlier order, by an action that may happen; the orders before the
-- first of them are so many
abbrev pub AreBranches : ℕ → ℕ → List Branch → Type 0
AreBranches actions orders [] = Unit {0}
AreBranches actions orders (branch ∷ rest) =
    (branch.before < orders) × (branch.action < actions) × AreBranches actions (orders + 1) rest

-- right actions, and branches of them
pub record IsTree (may : List Action) (branches : List Branch) : Type 0 where
  pub right : AreRight may
  pub linked : AreBranches (length may) 1 branches
