-- What follows from the invariant for the order of a world.
use Rattle.std.specs.Prelude.{◌≡◌, ℕ, suc, ◌≤◌, Some, List, slice_get}
use Rattle.rp_base.specs.declared.action.Action.{Action}
use Rattle.rp_base.specs.declared.reply.Answer.{Answer}
use Rattle.rp_codec.specs.Message.{Message}
use Rattle.rp_model.specs.rp_machine.specs.Calls.{CallName}
use Rattle.rp_model.specs.rp_machine.specs.Places.{HasReply, IsPlace}
use Rattle.rp_model.specs.rp_machine.specs.Replay.{counted_of}
use Rattle.rp_model.specs.Effect.{Setting}
use Rattle.rp_model.specs.Facts.{IsOrder}
use Rattle.rp_model.specs.Parts.{NodePart, TaskPart}
use Rattle.rp_agreement.specs.Answered.{IsKept, AreItsCalls, calls_so_far, named}
use Rattle.rp_agreement.specs.Computed.{order_of}

-- what a fact says of the order of each world that satisfies the invariant, by its tasks, what was
-- sent and that order
abbrev pub OfEachOrder : {S : Type 0} → Setting S
    → ((ℕ → TaskPart) → List Message → List Action → Type 0) → Type 0
OfEachOrder s says =
    (node : ℕ → NodePart) (task : ℕ → TaskPart) (sent : List Message) → IsKept s node task sent
    → says task sent (order_of s.config.nodes sent)

-- In each world that satisfies the invariant there is an order. Each reply of a task is its answer
-- to the task's call, which takes effect at one place; the calls of a task that count in it are
-- those that the task made; and no other call takes effect, nor one at two places.
pub record OrderLaws {S : Type 0} (s : Setting S) : Type 0 where
  pub exists : (nodes : ℕ) (sent : List Message) → IsOrder nodes sent (order_of nodes sent)
  pub replies : OfEachOrder s (λ task sent order. (t k : ℕ) (answer : Answer)
      → slice_get (task t).replies k ≡ Some answer
      → HasReply s.next s.answers s.begin order (named t (suc k)) answer)
  pub calls : OfEachOrder s (λ task sent order. (t : ℕ)
      → AreItsCalls sent t (task t) (counted_of s.next s.answers s.begin order))
  pub made : OfEachOrder s (λ task sent order. (t n place : ℕ)
      → IsPlace s.next s.answers s.begin order (named t n) place
      → (1 ≤ n) × (n ≤ calls_so_far (task t)))
  pub once : (order : List Action) (call : CallName) (one other : ℕ)
      → IsPlace s.next s.answers s.begin order call one
      → IsPlace s.next s.answers s.begin order call other → one ≡ other
