-- What a search has found in the end.
use Rattle.std.specs.Prelude.{◌≡◌, ◌⊎◌, ℕ, ◌<◌, ◌≤◌, Bool, Option, List, length, map}
use Rattle.std.specs.Prelude.{slice_index_or}
use Rattle.rp_base.specs.Number.{greatest}
use Rattle.rp_base.specs.Sets.{Has}
use Rattle.rp_base.specs.declared.action.Action.{Action}
use Rattle.rp_base.specs.declared.action.Action.TheVariants.{Noop}
use Rattle.rp_base.specs.declared.reply.Answer.{Answer}
use Rattle.rp_machine.specs.Replay.{replay_of, answers_after}
use Rattle.rp_orders.specs.Orders.{IsStuck, IsOrderOf, LeadAlike, MayFollow}
use Rattle.rp_orders.specs.declared.guard.Guard.{Guard}
use Rattle.rp_explore.specs.Listed.{order_at}
use Rattle.rp_explore.specs.declared.giver.Giver.{Giver}

-- the length of the longest of the orders
abbrev pub greatest_length : List (List Action) → ℕ
greatest_length orders = greatest (map length orders)

-- The actions that may happen, the orders that were found, whether they lead to every state, the
-- replies that they give, the order and the action that give each first, whether nothing changes
-- anything after each order, for each task the place of the first order after which it waits for
-- ever, and the length of the longest order.
pub record Exploration : Type 0 where
  pub may : List Action
  pub orders : List (List Action)
  pub is_whole : Bool
  pub replies : List Answer
  pub givers : List Giver
  pub finals : List Bool
  pub stuck : List (Option ℕ)
  pub depth : ℕ

module _ {S : Type 0} (next : S → Action → S) (answers : S → Action → List Answer) (begin : S)
    (guards : List Guard) (may : List Action) (orders : List (List Action)) where
  -- the task waits for ever after none of the orders
  abbrev pub IsNeverStuck : ℕ → Type 0
  IsNeverStuck task = (order : List Action) → Has order orders
      → ¬ IsStuck next answers begin guards may task order

  -- the order at the place is the first after which the task waits for ever
  pub record IsFirstStuck (task place : ℕ) : Type 0 where
    pub within : place < length orders
    pub stuck : IsStuck next answers begin guards may task (order_at orders place)
    pub first : (earlier : ℕ) → earlier < place
        → ¬ IsStuck next answers begin guards may task (order_at orders earlier)

  -- no order of the actions that may happen leads to the same state as the order at the place and
  -- is shorter
  abbrev pub IsShortest : ℕ → Type 0
  IsShortest place = (order : List Action) → IsOrderOf next answers begin guards may order
      → LeadAlike next answers begin guards order (order_at orders place)
      → length (order_at orders place) ≤ length order

  -- the order at the place, and then the action with this index, which the guards let be decided,
  -- give the answer
  pub record GivesAt (place index : ℕ) (answer : Answer) : Type 0 where
    pub within : place < length orders
    pub may_happen : index < length may
    pub may_follow : MayFollow next answers begin guards (order_at orders place)
        (slice_index_or may index Noop)
    pub gives : Has answer (answers_after next answers
        (replay_of next answers begin (order_at orders place)) (slice_index_or may index Noop))

  -- they give the answer, and no earlier order does, nor the same with an earlier action
  pub record IsFirstGiver (answer : Answer) (giver : Giver) : Type 0 where
    pub gives : GivesAt giver.place giver.action answer
    pub first : (place index : ℕ)
        → (place < giver.place) ⊎ ((place ≡ giver.place) × (index < giver.action))
        → ¬ GivesAt place index answer
