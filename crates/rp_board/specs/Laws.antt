-- The facts about agreement that the rule of the table uses: one event of an actor preserves the
-- invariant (no public clause names it).
use Rattle.std.specs.Prelude.{◌≡◌, ℕ, Ok, List}
use Rattle.rp_base.specs.Config.{IsRightConfig}
use Rattle.rp_base.specs.Sets.{Has}
use Rattle.rp_codec.specs.Message.{Message}
use Rattle.rp_codec.specs.declared.packet.Party.TheVariants.{Node, Task}
use Rattle.rp_model.specs.Effect.{Setting, Done, NodeInput}
use Rattle.rp_model.specs.Tasks.{TaskInput, task_effect}
use Rattle.rp_model.specs.Parts.{NodePart, TaskPart}
use Rattle.rp_agreement.specs.Inputs.{IsInput, IsTaskInput, NodeMoves, TaskMoves}
use Rattle.rp_agreement.specs.Sound.{IsMember}
use Rattle.rp_board.specs.Rule.{IsGood}
use Rattle.rp_board.specs.Steps.{ResultsInPart}

-- an event of a node preserves the invariant, and the packets that it sends name it as the sender
abbrev pub NodesKeep : {S : Type 0} → Setting S → Type 0
NodesKeep s =
    (x : ℕ) (input : NodeInput) (done : Done NodePart) (node after : ℕ → NodePart)
    (task : ℕ → TaskPart) (sent later : List Message)
    → IsRightConfig s.config → IsMember s.config.nodes x → IsGood s node task sent
    → IsInput sent input → ResultsInPart s x (node x) input done
    → NodeMoves x done node sent after later
    → IsGood s after task later × ((m : Message) → Has m done.sends → m.from ≡ Node x)

-- an event of a task preserves the invariant, and the packets that it sends name it as the sender
abbrev pub TasksKeep : {S : Type 0} → Setting S → Type 0
TasksKeep s =
    (t : ℕ) (input : TaskInput) (done : Done TaskPart) (node : ℕ → NodePart)
    (task moved : ℕ → TaskPart) (sent later : List Message)
    → IsGood s node task sent → IsTaskInput sent t input
    → task_effect s.config t (task t) input ≡ Ok done → TaskMoves t done task sent moved later
    → IsGood s node moved later × ((m : Message) → Has m done.sends → m.from ≡ Task t)

-- both
pub record EventsKeep {S : Type 0} (s : Setting S) : Type 0 where
  pub nodes : NodesKeep s
  pub tasks : TasksKeep s
