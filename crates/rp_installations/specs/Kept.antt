-- Callers of a tally's three nodes who keep the rules: their task gets its reply, and an interrupt
-- that a node notes is applied.
use Rattle.std.specs.Prelude.{◌≡◌, ℤ, pos, Some, List, [], ◌∷◌}
use Rattle.rp_base.specs.declared.action.Action.{Action}
use Rattle.rp_base.specs.declared.action.Action.TheVariants.{Call, Interrupt}
use Rattle.rp_base.specs.declared.action.Operation.TheVariants.{Procedure}
use Rattle.rp_base.specs.declared.reply.Reply.{Reply}
use Rattle.rp_base.specs.declared.reply.Reply.TheVariants.{Value}
use Rattle.rp_requests.specs.rp_codec.specs.Text.{reply_text}
use Rattle.rp_machine.specs.TallyRule.{tally_next, tally_answers}
use Rattle.rp_machine.specs.TallyRule.{tally_image}
use Rattle.rp_requests.specs.rp_model.specs.World.{part_at}
use Rattle.rp_requests.specs.Nodes.{NodeState}
use Rattle.rp_installations.specs.Moves.{IsInstallation}
use Rattle.rp_installations.specs.Outcomes.{IsOpenAt, applied_by}
use Rattle.rp_installations.specs.Sites.{NodeSite, TaskSite}
use Rattle.rp_installations.specs.Breaches.{Callers, three_node_config, one_sum}

-- the first call of task 1, which adds 5 to the sum, and the reply to it
abbrev pub the_call : Action
the_call = Call 1 1 1 (Procedure 1) (pos 5)

abbrev pub the_reply : Reply
the_reply = Value (pos 5)

-- By moves that keep the rules a request of task 1 returned this reply, and no other, and node 2
-- has applied this call, and nothing else.
pub record AreAnswered : Type 0 where
  pub moves : List Callers
  pub now : Callers
  pub all : IsInstallation tally_next tally_answers tally_image three_node_config one_sum moves now
  pub task : TaskSite
  pub here : part_at now.tasks 1 ≡ Some task
  pub replies : task.replies ≡ reply_text the_reply ∷ []
  pub site : NodeSite (List ℤ)
  pub node : NodeState (List ℤ)
  pub opened : IsOpenAt now 2 site node
  pub applied : applied_by node ≡ the_call ∷ []

-- the first occurrence of interrupt 1
abbrev pub the_interrupt : Action
the_interrupt = Interrupt 1 1

-- By moves that keep the rules node 1 was asked to note this interrupt, and nothing else, and node
-- 2 has applied it, and nothing else.
pub record AreNoted : Type 0 where
  pub moves : List Callers
  pub now : Callers
  pub all : IsInstallation tally_next tally_answers tally_image three_node_config one_sum moves now
  pub asked_site : NodeSite (List ℤ)
  pub asked : part_at now.nodes 1 ≡ Some asked_site
  pub noted : asked_site.noted ≡ the_interrupt ∷ []
  pub site : NodeSite (List ℤ)
  pub node : NodeState (List ℤ)
  pub opened : IsOpenAt now 2 site node
  pub applied : applied_by node ≡ the_interrupt ∷ []
