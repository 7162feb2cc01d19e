-- The order of a world.
use Rattle.std.proofs.Common.{◌≡◌, ℕ, ◌≤◌, List, [], ◌∷◌, inl, refl, arith}
use Rattle.rp_base.specs.Number.{IsTask}
use Rattle.rp_base.specs.declared.action.Action.{Action}
use Rattle.rp_codec.specs.Message.{Message}
use Rattle.rp_model.specs.Effect.{Setting}
use Rattle.rp_model.specs.Parts.{TaskPart}
use Rattle.rp_model.specs.Tasks.{asks}
use Rattle.rp_agreement.specs.Answered.{AreMade, calls_so_far, named}
use Rattle.rp_agreement.specs.Asked.{Asks}
use Rattle.rp_agreement.specs.Computed.{order_of}
use Rattle.rp_agreement.proofs.ItsCalls.{as_many}
use Rattle.rp_board.specs.Looks.{IsWorldOf}
use Rattle.rp_board.specs.OrderLaws.{OrderLaws}
use Rattle.rp_board.specs.Parts.{Part, View}
use Rattle.rp_board.specs.Rule.{node_among, task_among, all_sent}
use Rattle.rp_boxes.specs.OneOrder.{IsWorldOrder}

-- a task that made a call asked for one
some_asked : (sent : List Message) (t : ℕ) (part : TaskPart) (made : List Action) → AreMade sent t part made → 1 ≤ calls_so_far part → (action : Action) × Asks sent t action
some_asked sent t part [] are some = let many : 0 ≡ calls_so_far part = as_many t (calls_so_far part) [] are.numbered in absurd (omega (arith, many, some))
some_asked sent t part (action ∷ rest) are some = (action, (are.asked action).0 (inl refl))

module _ {S : Type 0} (s : Setting S) (view : View) (parts : ℕ → Part) (world : IsWorldOf s view parts) where
  -- what made a call is a task
  makes_calls : (t : ℕ) → 1 ≤ calls_so_far (task_among parts t) → IsTask t
  makes_calls t some =
      let made = world.is.good.kept.made t in
      let asked = some_asked (all_sent parts 16) t (task_among parts t) made.0 made.1 some in
      (world.is.good.packets (asks t asked.1.0 asked.0) asked.1.1).ranges.from

  pub world_order : OrderLaws s → IsWorldOrder s view (order_of s.config.nodes (all_sent parts 16))
  world_order laws = record {
    parts = parts;
    world = world;
    decided = laws.exists s.config.nodes (all_sent parts 16);
    made = λ t n place at.
        let own = laws.made (node_among parts) (task_among parts) (all_sent parts 16) world.is.good.kept t n place at in
        (makes_calls t (let from = own.0 in let up_to = own.1 in omega (arith, from, up_to)), own.0, own.1);
    once = λ t n. laws.once (order_of s.config.nodes (all_sent parts 16)) (named t n);
  }
