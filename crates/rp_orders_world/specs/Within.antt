-- Histories of a cluster in which nothing happens to its program but what may happen.
use Rattle.std.specs.Prelude.{◌≡◌, ℕ, zero, suc, ℤ, IsTrue, Option, Some, None, List, slice_get}
use Rattle.std.specs.Option.{option_map}
use Rattle.rp_world.specs.rp_base.specs.Sets.{Has}
use Rattle.rp_world.specs.rp_base.specs.declared.action.Action.{Action}
use Rattle.rp_world.specs.rp_base.specs.declared.action.Action.TheVariants.{Call, Interrupt, Tick}
use Rattle.rp_world.specs.rp_base.specs.declared.action.Operation.{Operation}
use Rattle.rp_world.specs.rp_base.specs.declared.reply.Answer.{Answer}
use Rattle.rp_world.specs.rp_base.specs.declared.reply.Reply.{Reply}
use Rattle.rp_world.specs.rp_model.specs.Events as events
use Rattle.rp_world.specs.rp_model.specs.Events.{Event, Makes}
use Rattle.rp_world.specs.rp_model.specs.Parts.{TaskPart}
use Rattle.rp_world.specs.rp_model.specs.World.{World, part_at}
use Rattle.rp_world.specs.rp_agreement.specs.Asked.{Asks}
use Rattle.rp_orders.specs.Guards.{all_hold}
use Rattle.rp_orders.specs.declared.guard.Guard.{Guard}

-- the reply that a task got to the call before the one of this number, if there is one
abbrev pub reply_before : ℕ → List Answer → Option Reply
reply_before zero replies = None
reply_before (suc zero) replies = None
reply_before (suc (suc k)) replies = option_map (λ answer. answer.reply) (slice_get replies k)

-- In a history of these events, which led to this world, each call that a task asked a node for is
-- among the actions that may happen, and its guards hold of the reply that the task got to its call
-- before; each interrupt and each tick that a node noted may happen too. How often an interrupt or
-- a tick is noted, and at which nodes, does not matter.
pub record IsWithin (guards : List Guard) (may : List Action) (happened : List Event) (w : World)
    : Type 0 where
  pub calls : (task : ℕ) (call : Action) → Asks w.sent task call → Has call may
  pub guarded : (task number object : ℕ) (operation : Operation) (arg : ℤ) (part : TaskPart)
      → Asks w.sent task (Call task number object operation arg)
      → part_at w.tasks task ≡ Some part
      → IsTrue (all_hold guards task number (reply_before number part.replies))
  pub interrupts : (node source occurrence : ℕ)
      → Has (Makes (events.Interrupt node source occurrence)) happened
      → Has (Interrupt source occurrence) may
  pub ticks : (node now : ℕ) → Has (Makes (events.Tick node now)) happened → Has (Tick now) may
