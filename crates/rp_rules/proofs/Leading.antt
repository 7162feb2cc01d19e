-- What is planned for the word to lead where no position is given.
use Rattle.std.proofs.Common.{◌≡◌, ℕ, Bool, true, false, cond, is_some, Option, Some, None, sym, ap, ◌∙◌}
use Rattle.std.specs.Prelude.{Result, Ok, Err}
use Rattle.rp_base.specs.declared.action.Action.{Action}
use Rattle.rp_base.specs.declared.fault.Fault.{Fault}
use Rattle.rp_base.specs.declared.fault.Fault.TheVariants.{LogFull}
use Rattle.rp_base.specs.Proposals.{proposal_at}
use Rattle.rp_base.specs.Records.{learned_at}
use Rattle.rp_model.specs.Leader.{least_free, is_out_of_reach, leads_at, on_lead}
use Rattle.rp_model.specs.Node.{RunningNode, nodes_of}
use Rattle.rp_model.specs.declared.effect.Dropped.TheVariants.{No}
use Rattle.rp_model.specs.declared.plan.Plan.{Plan}
use Rattle.rp_model.specs.declared.plan.Plan.TheVariants as plans
use Rattle.rp_server.proofs.FreePlaces.{least_is_unlearned}

module _ {S : Type 0} (node : RunningNode S) where
  -- out of reach the command to lead at the least free position is refused
  pub lead_out : is_out_of_reach node.setting.config.max_positions node.records (least_free (nodes_of node) node.records node.running.proposals) ≡ true → on_lead node None ≡ Err LogFull
  lead_out out =
      let i = least_free (nodes_of node) node.records node.running.proposals in
      let led : Result Plan Fault = leads_at node i (proposal_at node.running.proposals i) in
      ap (λ (o : Option Action). cond (is_some o) (Ok (plans.Pass No)) (cond (is_out_of_reach node.setting.config.max_positions node.records i) (Err LogFull) led))
      (least_is_unlearned (nodes_of node) node.records node.running.proposals)
      ∙ ap (λ (t : Bool). cond t (Err LogFull) led) out

  -- within reach, where nothing is learned, it is to lead by the proposal that runs there
  pub lead_within : (i : ℕ) → is_some (learned_at node.records i) ≡ false → is_out_of_reach node.setting.config.max_positions node.records i ≡ false
      → leads_at node i (proposal_at node.running.proposals i) ≡ on_lead node (Some i)
  lead_within i unlearned within =
      let led : Result Plan Fault = leads_at node i (proposal_at node.running.proposals i) in
      sym (ap (λ (t : Bool). cond t (Ok (plans.Pass No)) (cond (is_out_of_reach node.setting.config.max_positions node.records i) (Err LogFull) led)) unlearned ∙ ap (λ (t : Bool). cond t (Err LogFull) led) within)
