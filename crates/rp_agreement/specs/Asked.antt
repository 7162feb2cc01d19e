-- What the packets of a world say of a promise and of a call.
use Rattle.std.specs.Prelude.{ℕ, List}
use Rattle.rp_base.specs.Action.{IsRight}
use Rattle.rp_base.specs.Sets.{Has}
use Rattle.rp_base.specs.declared.action.Action.{Action}
use Rattle.rp_codec.specs.Message.{Message}
use Rattle.rp_codec.specs.declared.packet.Party.{Party}
use Rattle.rp_codec.specs.declared.packet.Party.TheVariants.{Node}
use Rattle.rp_codec.specs.declared.packet.Body.{Body}
use Rattle.rp_machine.specs.Calls.{CallName, calls_of}
use Rattle.rp_model.specs.Tasks.{asks}

-- the task asked some node for this very call
abbrev pub Asks : List Message → ℕ → Action → Type 0
Asks sent task action = (node : ℕ) × Has (asks task node action) sent

-- the action is right, and if it is a call, its task asked for it
pub record IsAsked (sent : List Message) (action : Action) : Type 0 where
  pub right : IsRight action
  pub asked : (call : CallName) → Has call (calls_of action) → Asks sent call.task action

-- the node said this to someone
abbrev pub Says : List Message → ℕ → Body → Type 0
Says sent a body = (to : Party) × Has (record { from = Node a; to = to; body = body }) sent
