-- What holds of a node's part once a turn of its replica is counted (no public clause names it).
use Rattle.std.specs.Prelude.{◌≡◌, ℕ, Ok}
use Rattle.rp_model.specs.Effect.{Setting, Done, NodeInput, node_effect}
use Rattle.rp_model.specs.Parts.{NodePart}
use Rattle.rp_actors.specs.rp_replica.specs.State.{ReplicaState}
use Rattle.rp_actors.specs.rp_rules.specs.Inputs.{given_by}
use Rattle.rp_actors.specs.rp_rules.specs.declared.input.Input.{Input}
use Rattle.rp_actors.specs.rp_replica.specs.declared.sent.Sent.{Sent}
use Rattle.rp_actors.specs.Nodes.{member_of, RepresentsWhile, DescribesSent}
use Rattle.rp_board.specs.Parts.{Part, OfNode, part_after}
use Rattle.rp_board.specs.Steps.{IsCutStep}

module _ {S : Type 0} (s : Setting S) (number : ℕ) (before : Part) (input : Input)
    (replica : ReplicaState S) where
  -- the result of the input, for the replica after the step and the packets that it returned
  pub record HasStepped (sent : Sent) (after : Part) : Type 0 where
    pub given : NodeInput
    pub gives : given_by input ≡ Ok given
    pub node : NodePart
    pub was : before.role ≡ OfNode node
    pub done : Done NodePart
    pub results : node_effect s number node given ≡ Ok done
    pub represents : RepresentsWhile (member_of number s.config s.begin) replica done.part
        replica.failed
    pub describes : DescribesSent sent done
    pub is : after ≡ part_after before (OfNode done.part) done.sends

  -- the device failed while the step wrote its record
  pub record HasStopped (after : Part) : Type 0 where
    pub given : NodeInput
    pub gives : given_by input ≡ Ok given
    pub node : NodePart
    pub was : before.role ≡ OfNode node
    pub done : Done NodePart
    pub cut : IsCutStep s number node given done
    pub represents : RepresentsWhile (member_of number s.config s.begin) replica done.part
        replica.failed
    pub is : after ≡ part_after before (OfNode done.part) done.sends
