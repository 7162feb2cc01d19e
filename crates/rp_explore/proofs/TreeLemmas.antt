-- The orders that branches hold.
use Rattle.std.proofs.Common.{◌≡◌, ℕ, zero, suc, ◌+◌, ◌<◌, ◌≤◌, List, [], ◌∷◌, ◌++◌, length, get_or, refl, sym, ap, subst, ◌∙◌, inl, inr, arith, length-append, ◌-◌}
use Rattle.std.proofs.lemmas.List.{get_or_append_left, get_or_at}
use Rattle.rp_base.specs.Sets.{Has}
use Rattle.rp_base.specs.declared.action.Action.{Action}
use Rattle.rp_base.specs.declared.action.Action.TheVariants.{Noop}
use Rattle.rp_orders.specs.Orders.{AreRight, AreAmong}
use Rattle.rp_explore.specs.declared.branch.Branch.{Branch}
use Rattle.rp_explore.specs.Listed.{Listed, order_at, further, AreOrdersOf, orders_from, orders_of, AreBranches}
use Rattle.rp_explore.proofs.Lists.{has_at, has_last}

-- actions of which each may happen, and one more
pub among_push : (may order : List Action) (action : Action) → AreAmong may order → Has action may → AreAmong may (order ++ action ∷ [])
among_push may order action among own other h = elim (has_last other action order h) [
  | inl before ↦ among other before
  | inr same ↦ subst (λ (a : Action). Has a may) (sym same) own
]

pub right_if_among : (may order : List Action) → AreRight may → AreAmong may order → AreRight order
right_if_among may order right among action h = right action (among action h)

module _ (may : List Action) where
  abbrev listed : List (List Action) → Listed
  listed orders = record { may = may; orders = orders }

  abbrev more : List (List Action) → Branch → List Action
  more orders branch = further (listed orders) branch.before branch.action

  pub length-orders_from : (orders : List (List Action)) (branches : List Branch) → length (orders_from may orders branches) ≡ length orders + length branches
  length-orders_from orders [] = omega arith
  length-orders_from orders (branch ∷ rest) =
      let step = more orders branch in
      length-orders_from (orders ++ step ∷ []) rest ∙ omega (arith, length-append orders (step ∷ []))

  -- the orders that were there stay
  pub stays_from : (orders : List (List Action)) (branches : List Branch) (i : ℕ) → i < length orders → get_or (orders_from may orders branches) i [] ≡ get_or orders i []
  stays_from orders [] i lt = refl
  stays_from orders (branch ∷ rest) i lt =
      let step = more orders branch in
      stays_from (orders ++ step ∷ []) rest i (omega (arith, length-append orders (step ∷ []))) ∙ get_or_append_left orders (step ∷ []) [] i lt

  pub orders_from-push : (orders : List (List Action)) (branches : List Branch) (branch : Branch)
      → orders_from may orders (branches ++ branch ∷ []) ≡ orders_from may orders branches ++ more (orders_from may orders branches) branch ∷ []
  orders_from-push orders [] branch = refl
  orders_from-push orders (first ∷ rest) branch = orders_from-push (orders ++ more orders first ∷ []) rest branch

  -- one branch more
  pub branches_push : (n k : ℕ) (branches : List Branch) (branch : Branch) → AreBranches n k branches → branch.before < k + length branches → branch.action < n → AreBranches n k (branches ++ branch ∷ [])
  branches_push n k [] branch linked before action = (omega arith, action, tt)
  branches_push n k (first ∷ rest) branch linked before action = (linked.0, linked.1, branches_push n (k + 1) rest branch linked.2 (omega arith) action)

  -- what a branch is
  pub record IsGrown (orders all : List (List Action)) (n i : ℕ) (branch : Branch) : Type 0 where
    pub before : branch.before < length orders + i
    pub action : branch.action < n
    pub goes : get_or all (length orders + i) [] ≡ more all branch

  pub grown : (n : ℕ) (orders : List (List Action)) (branches : List Branch) (i : ℕ) (d : Branch) → AreBranches n (length orders) branches → i < length branches
      → IsGrown orders (orders_from may orders branches) n i (get_or branches i d)
  grown n orders [] i d linked lt = absurd (omega arith)
  grown n orders (branch ∷ rest) zero d linked lt =
      let step = more orders branch in
      let all = orders_from may orders (branch ∷ rest) in
      let size : length (orders ++ step ∷ []) ≡ length orders + 1 = length-append orders (step ∷ []) in
      let here : get_or all (length orders + 0) [] ≡ step =
      ap (λ (k : ℕ). get_or all k []) (omega arith) ∙ stays_from (orders ++ step ∷ []) rest (length orders) (omega arith) ∙ get_or_at orders step [] [] (length orders) refl in
      let old : get_or all branch.before [] ≡ get_or orders branch.before [] =
      stays_from (orders ++ step ∷ []) rest branch.before (omega (arith, linked.0)) ∙ get_or_append_left orders (step ∷ []) [] branch.before linked.0 in
      record {
        before = omega (arith, linked.0);
        action = linked.1;
        goes = here ∙ ap (λ (order : List Action). order ++ get_or may branch.action Noop ∷ []) (sym old);
      }
  grown n orders (branch ∷ rest) (suc i) d linked lt =
      let step = more orders branch in
      let size : length (orders ++ step ∷ []) ≡ length orders + 1 = length-append orders (step ∷ []) in
      let deep = grown n (orders ++ step ∷ []) rest i d (subst (λ (k : ℕ). AreBranches n k rest) (sym size) linked.2) (omega arith) in
      let all = orders_from may orders (branch ∷ rest) in
      record {
        before = omega (arith, deep.before, size);
        action = deep.action;
        goes = ap (λ (k : ℕ). get_or all k []) (omega (arith, size)) ∙ deep.goes;
      }

  -- each order is of actions that may happen
  pub among_from : (orders : List (List Action)) (branches : List Branch) → AreOrdersOf (listed orders) → AreBranches (length may) (length orders) branches → AreOrdersOf (listed (orders_from may orders branches))
  among_from orders [] among linked = among
  among_from orders (branch ∷ rest) among linked =
      let step = more orders branch in
      let size : length (orders ++ step ∷ []) ≡ length orders + 1 = length-append orders (step ∷ []) in
      among_from (orders ++ step ∷ []) rest
      (λ order h. elim (has_last order step orders h) [
        | inl before ↦ among order before
        | inr same ↦ subst (λ (o : List Action). AreAmong may o) (sym same)
            (among_push may (order_at orders branch.before) (get_or may branch.action Noop) (among (order_at orders branch.before) (has_at orders branch.before [] linked.0)) (has_at may branch.action Noop linked.1))
      ])
      (subst (λ (k : ℕ). AreBranches (length may) k rest) (sym size) linked.2)

  pub among_all : (branches : List Branch) → AreBranches (length may) 1 branches → AreOrdersOf (listed (orders_of may branches))
  among_all branches linked = among_from ([] ∷ []) branches (λ order h action has. elim h [
    | inl same ↦ absurd (subst (λ (o : List Action). Has action o) same has)
    | inr none ↦ absurd none
  ]) linked

  pub length_all : (branches : List Branch) → length (orders_of may branches) ≡ length branches + 1
  length_all branches = length-orders_from ([] ∷ []) branches ∙ omega arith

  pub first_all : (branches : List Branch) → order_at (orders_of may branches) 0 ≡ []
  first_all branches = stays_from ([] ∷ []) branches 0 (omega arith)

  -- an order but the first, by its branch
  pub grown_all : (branches : List Branch) (i : ℕ) (branch : Branch) → AreBranches (length may) 1 branches → 0 < i → i ≤ length branches → branch ≡ get_or branches (i - 1) branch
      → (branch.before < i) × (branch.action < length may) × (order_at (orders_of may branches) i ≡ more (orders_of may branches) branch)
  grown_all branches i branch linked above below is =
      let own = grown (length may) ([] ∷ []) branches (i - 1) branch linked (omega arith) in
      let all = orders_of may branches in
      let it : IsGrown ([] ∷ []) all (length may) (i - 1) branch = subst (λ (b : Branch). IsGrown ([] ∷ []) all (length may) (i - 1) b) (sym is) own in (
        omega (arith, it.before),
        it.action,
        ap (λ (k : ℕ). order_at all k) (omega arith) ∙ it.goes,
      )
