-- Which pending items are free to be offered at a position, by the reasons of the rule, and the
-- first of them.
use Rattle.std.specs.Prelude.{◌≡◌, ◌≢◌, ℕ, ◌<◌, false, Some, List, ◌∷◌, ◌++◌}
use Rattle.rp_base.specs.Action.{equal_items}
use Rattle.rp_base.specs.Proposals.{Proposal}
use Rattle.rp_base.specs.Sets.{Has}
use Rattle.rp_base.specs.declared.action.Action.{Action}
use Rattle.rp_base.specs.declared.action.Action.TheVariants.{Noop, Call, Interrupt, Tick}
use Rattle.rp_model.specs.rp_machine.specs.Asked.{last_number, last_occurrence}

-- the item is above all of its task or its source that counted; a tick always is
abbrev pub IsAhead : List Action → Action → Type 0
IsAhead kept Noop = ⊥
IsAhead kept (Call task number object operation arg) = last_number task kept < number
IsAhead kept (Interrupt source occurrence) = last_occurrence source kept < occurrence
IsAhead kept (Tick now) = Unit {0}

-- no proposal at another position has the item, or one that equals it, as its own
abbrev pub IsUnoffered : List Proposal → ℕ → Action → Type 0
IsUnoffered proposals i item =
    (p : Proposal) (own : Action) → Has p proposals → p.position ≢ i → p.own ≡ Some own
    → equal_items item own ≡ false

-- the item is free at the position
abbrev pub IsFree : List Action → List Proposal → ℕ → Action → Type 0
IsFree kept proposals i item = IsAhead kept item × IsUnoffered proposals i item

-- The item is the first of those that are pending that is free.
pub record IsFirstFree (kept : List Action) (proposals : List Proposal) (i : ℕ)
    (pending : List Action) (item : Action) : Type 0 where
  pub before : List Action
  pub after : List Action
  pub place : pending ≡ before ++ item ∷ after
  pub free : IsFree kept proposals i item
  pub first : (other : Action) → Has other before → ¬ IsFree kept proposals i other
