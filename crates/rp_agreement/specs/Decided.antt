-- Decisions, counted in what the nodes wrote. Lamport, "Paxos Made Simple", section 2.2: a value is
-- chosen when a majority of acceptors have accepted it.
use Rattle.std.specs.Prelude.{ℕ, ◌≤◌, List, length}
use Rattle.rp_base.specs.Sets.{Has}
use Rattle.rp_base.specs.Majority.{majority_of, AreNodes}
use Rattle.rp_base.specs.declared.action.Action.{Action}
use Rattle.rp_base.specs.declared.record.Rec.TheVariants.{Voted}
use Rattle.rp_model.specs.Parts.{NodePart}

-- more than half of the nodes have written that they voted for the action in this ballot
pub record IsCast (nodes : ℕ) (node : ℕ → NodePart) (i b : ℕ) (v : Action) : Type 0 where
  pub voters : List ℕ
  pub members : AreNodes nodes voters
  pub majority : majority_of nodes ≤ length voters
  pub voted : (a : ℕ) → Has a voters → Has (Voted i b v) (node a).records
