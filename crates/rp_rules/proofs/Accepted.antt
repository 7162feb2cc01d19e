-- What is planned for a vote, by what holds at its position.
use Rattle.std.proofs.Common.{◌≡◌, ℕ, Bool, true, false, is_some, Option, Some, None, if◌then◌else◌, refl, ap, ◌∙◌}
use Rattle.rp_base.specs.declared.action.Action.{Action}
use Rattle.rp_base.specs.declared.record.Vote.{Vote}
use Rattle.rp_base.specs.Promises.{makes_majority}
use Rattle.rp_base.specs.Records.{learned_at}
use Rattle.rp_server.specs.rp_learner.specs.declared.learner.VoteStatus.{VoteStatus}
use Rattle.rp_server.specs.rp_learner.specs.declared.learner.VoteStatus.TheVariants.{Counting, Learned, Known, Beyond}
use Rattle.rp_model.specs.Leader.{is_beyond}
use Rattle.rp_model.specs.Learner.{on_vote, on_accepted}
use Rattle.rp_model.specs.Node.{RunningNode, nodes_of}
use Rattle.rp_model.specs.Plans.{heard_running}
use Rattle.rp_model.specs.declared.effect.Dropped.TheVariants.{No}
use Rattle.rp_model.specs.declared.plan.Plan.{Plan}
use Rattle.rp_model.specs.declared.plan.Plan.TheVariants as plans
use Rattle.rp_server.specs.Status.{status_of}

module _ {S : Type 0} (node : RunningNode S) (from i : ℕ) (vote : Vote) where
  -- the plan that a status stands for
  abbrev pub status_plan : VoteStatus → Plan
  status_plan Known = plans.Pass No
  status_plan Beyond = plans.Pass No
  status_plan Counting = plans.CountVote from i vote
  status_plan Learned = plans.Learn i vote.action

  abbrev vote_at : Option Action → Bool → Plan
  vote_at (Some learned) majority = plans.Pass No
  vote_at None majority = if majority then plans.Learn i vote.action else plans.CountVote from i vote

  by_tests : (far : Bool) (learned : Option Action) (majority : Bool)
      → status_plan (if far then Beyond else if is_some learned then Known else if majority then Learned else Counting) ≡ (if far then plans.Pass No else vote_at learned majority)
  by_tests true learned majority = refl
  by_tests false (Some learned) majority = refl
  by_tests false None true = refl
  by_tests false None false = refl

  same_vote : (learned : Option Action) → vote_at learned (makes_majority (nodes_of node) i vote (heard_running node.running from i vote).heard) ≡ on_vote node from i vote learned
  same_vote (Some learned) = refl
  same_vote None = refl

  -- the status of a vote tells its plan
  pub accepted_plan : status_plan (status_of (nodes_of node) node.records node.running.heard from i vote) ≡ on_accepted node from i vote
  accepted_plan =
      by_tests (is_beyond node.records i) (learned_at node.records i) (makes_majority (nodes_of node) i vote (heard_running node.running from i vote).heard)
      ∙ ap (λ (plan : Plan). if is_beyond node.records i then plans.Pass No else plan) (same_vote (learned_at node.records i))
