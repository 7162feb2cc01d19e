-- Callers of a tally's three nodes who break one rule, and nodes that differ.
use Rattle.std.specs.Prelude.{◌≡◌, ℕ, ℤ, pos, Some, None, List, [], ◌∷◌, ◌++◌}
use Rattle.rp_agreement.specs.Order.{AreAlike}
use Rattle.rp_base.specs.Sets.{Has}
use Rattle.rp_base.specs.declared.action.Action.TheVariants.{Call}
use Rattle.rp_base.specs.declared.action.Operation.TheVariants.{Procedure}
use Rattle.rp_base.specs.declared.config.Config.{Config}
use Rattle.rp_base.specs.declared.reply.Reply.TheVariants.{Value}
use Rattle.rp_requests.specs.rp_codec.specs.Text.{reply_text, text_of}
use Rattle.rp_machine.specs.TallyRule.{tally_next, tally_answers}
use Rattle.rp_machine.specs.TallyRule.{tally_image}
use Rattle.rp_requests.specs.rp_model.specs.World.{part_at, with_part}
use Rattle.rp_requests.specs.Nodes.{NodeState}
use Rattle.rp_requests.specs.Tasks.{call_packet}
use Rattle.rp_requests.specs.rp_tasks.specs.Calls.{no_calls}
use Rattle.rp_installations.specs.Moves.{Move, OpensFrom, AnswersBy, IsPacketIn}
use Rattle.rp_installations.specs.Outcomes.{IsOpenAt, IsAllSynced, applied_by}
use Rattle.rp_installations.specs.Sites.{StepPackets, NodeSite, TaskSite, Installation}
use Rattle.rp_installations.specs.Sites.{closed_over, nothing_opened}

-- three nodes, a log of one position, and one sum
abbrev pub three_node_config : Config
three_node_config = record { nodes = 3; max_positions = 1 }

abbrev pub one_sum : List ℤ
one_sum = pos 0 ∷ []

-- what callers keep of the nodes of such a tally
abbrev pub Callers : Type 0
Callers = Installation (List ℤ)

-- ---- moves that break a rule

-- A packet of a step is handed on, synced or not.
pub record HandsOnUnsynced (before after : Callers) : Type 0 where
  pub me : ℕ
  pub site : NodeSite (List ℤ)
  pub here : part_at before.nodes me ≡ Some site
  pub step : StepPackets
  pub made : Has step site.step_packets
  pub packet : List ℕ
  pub one : IsPacketIn packet step.texts
  pub goes : after ≡ record before { handed_on = before.handed_on ++ packet ∷ [] }

-- A packet comes that no step gave.
pub record GetsForgedPacket (before after : Callers) : Type 0 where
  pub packet : List ℕ
  pub goes : after ≡ record before { handed_on = before.handed_on ++ packet ∷ [] }

-- A closed node gets a copy of another node's device in place of its own.
pub record GetsOtherDevice (before after : Callers) : Type 0 where
  pub me : ℕ
  pub site : NodeSite (List ℤ)
  pub here : part_at before.nodes me ≡ Some site
  pub closed : site.node ≡ None
  pub other : ℕ
  pub its : NodeSite (List ℤ)
  pub there : part_at before.nodes other ≡ Some its
  pub goes : after ≡ record before {
    nodes = with_part before.nodes me (closed_over its.synced site.noted);
  }

-- A task that was opened is opened again, and counts its calls from 1.
pub record OpensTaskAgain (before after : Callers) : Type 0 where
  pub task : ℕ
  pub site : TaskSite
  pub here : part_at before.tasks task ≡ Some site
  pub goes : after ≡ record before {
    tasks = with_part before.tasks task (record site { task = Some (no_calls task) });
  }

-- ---- moves by all rules but one

-- A move of an installation, or one that breaks a rule.
pub data MoveOr (Breaks : Callers → Callers → Type 0) (before after : Callers) : Type 0 where
  Keeps : Move 3 (OpensFrom tally_next tally_answers tally_image three_node_config one_sum)
      (AnswersBy tally_next tally_answers tally_image) before after
      → MoveOr Breaks before after
  Breaches : Breaks before after → MoveOr Breaks before after

-- Such moves lead from the one to the other, by way of these.
abbrev pub MovesOr : (Callers → Callers → Type 0) → Callers → List Callers → Callers → Type 0
MovesOr Breaks before [] after = after ≡ before
MovesOr Breaks before (middle ∷ rest) after =
    MoveOr Breaks before middle × MovesOr Breaks middle rest after

-- By such moves two nodes come to differ: both are open, all is synced that their steps gave, and
-- neither has applied a prefix of what the other has.
pub record TwoDiffer (Breaks : Callers → Callers → Type 0) : Type 0 where
  pub moves : List Callers
  pub now : Callers
  pub all : MovesOr Breaks (nothing_opened 3) moves now
  pub x : ℕ
  pub y : ℕ
  pub site : NodeSite (List ℤ)
  pub other_site : NodeSite (List ℤ)
  pub one : NodeState (List ℤ)
  pub other : NodeState (List ℤ)
  pub here : IsOpenAt now x site one
  pub there : IsOpenAt now y other_site other
  pub synced : IsAllSynced site
  pub other_synced : IsAllSynced other_site
  pub differ : ¬ AreAlike (applied_by one) (applied_by other)

-- By such moves task 1 gets two replies of 5, though node 1 has applied one call, which adds 5, and
-- nothing else. The second reply is to a call that adds 7: its packet was handed on.
pub record TakesOldReply (Breaks : Callers → Callers → Type 0) : Type 0 where
  pub moves : List Callers
  pub now : Callers
  pub all : MovesOr Breaks (nothing_opened 3) moves now
  pub task : TaskSite
  pub here : part_at now.tasks 1 ≡ Some task
  pub replies : task.replies ≡ reply_text (Value (pos 5)) ∷ reply_text (Value (pos 5)) ∷ []
  pub called : Has (text_of (call_packet 1 1 (Call 1 1 1 (Procedure 1) (pos 7)))) now.handed_on
  pub site : NodeSite (List ℤ)
  pub node : NodeState (List ℤ)
  pub opened : IsOpenAt now 1 site node
  pub applied : applied_by node ≡ Call 1 1 1 (Procedure 1) (pos 5) ∷ []
