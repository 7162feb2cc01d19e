-- What an actor may be given, and the result of its step for all who look.
use Rattle.std.specs.Prelude.{◌≡◌, ◌≢◌, ℕ, ◌<◌, ◌^◌, FitsSigned, Some, IfSome, List}
use Rattle.std.specs.Int.{w64}
use Rattle.rp_base.specs.Number.{IsNode, IsPosition}
use Rattle.rp_base.specs.Action.{IsIndex, IsCount}
use Rattle.rp_base.specs.Sets.{Has}
use Rattle.rp_base.specs.declared.action.Action.{Action}
use Rattle.rp_codec.specs.Message.{Message}
use Rattle.rp_codec.specs.declared.packet.Party.TheVariants.{Task}
use Rattle.rp_codec.specs.declared.packet.Body.TheVariants.{Call}
use Rattle.rp_model.specs.Effect.{Done, NodeInput, Receive, Lead, LeadRange, Interrupt, Tick}
use Rattle.rp_model.specs.Effect.{Report, Ask}
use Rattle.rp_model.specs.Tasks.{TaskInput, Submit, Again, Take}
use Rattle.rp_model.specs.Parts.{NodePart}
use Rattle.rp_model.specs.Parts.{TaskPart}
use Rattle.rp_agreement.specs.Sound.{IsCall}
use Rattle.rp_agreement.specs.Steps.{SentToo}

-- the packet was sent, and the numbers are within the ranges of their types
abbrev pub IsInput : List Message → NodeInput → Type 0
IsInput sent (Receive message) = Has message sent
IsInput sent (Lead choice) = IfSome choice IsPosition
IsInput sent (LeadRange first count) = IsPosition first
IsInput sent (Interrupt source occurrence) = IsIndex source × IsCount occurrence
IsInput sent (Tick now) = now < 2 ^ 32
IsInput sent (Report first) = IsPosition first
IsInput sent (Ask to) = IsNode to

-- the numbers are within the ranges of their types, and a packet was sent to the task
abbrev pub IsTaskInput : List Message → ℕ → TaskInput → Type 0
IsTaskInput sent t (Submit node object operation arg) = IsNode node × FitsSigned w64 arg
IsTaskInput sent t (Again node) = IsNode node
IsTaskInput sent t (Take message) = Has message sent × (message.to ≡ Task t)

-- The node x has reached this part and sent these packets; every other node stays as it was.
pub record NodeMoves (x : ℕ) (done : Done NodePart) (node : ℕ → NodePart) (sent : List Message)
    (node' : ℕ → NodePart) (sent' : List Message) : Type 0 where
  pub part : node' x ≡ done.part
  pub others : (k : ℕ) → k ≢ x → node' k ≡ node k
  pub sends : SentToo done.sends sent sent'

-- what the task t waits for is a right call of its own
abbrev pub WaitsForOwn : ℕ → TaskPart → Type 0
WaitsForOwn t part = (call : Action) → part.outstanding ≡ Some call → IsCall t (Call call)

-- The task t has reached this part and sent these packets; every other task stays as it was.
pub record TaskMoves (t : ℕ) (done : Done TaskPart) (task : ℕ → TaskPart) (sent : List Message)
    (task' : ℕ → TaskPart) (sent' : List Message) : Type 0 where
  pub part : task' t ≡ done.part
  pub others : (k : ℕ) → k ≢ t → task' k ≡ task k
  pub sends : SentToo done.sends sent sent'
