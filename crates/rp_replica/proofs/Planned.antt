-- A plan of what was given, and the turn that it is.
use Rattle.std.proofs.Common.{◌≡◌, Result, Ok, Err, List, refl, sym, ap, ◌∙◌}
use Rattle.std.specs.Prelude.{OnOk, IfErr}
use Rattle.rp_base.specs.declared.action.Action.{Action}
use Rattle.rp_base.specs.declared.fault.Fault.{Fault}
use Rattle.rp_base.specs.declared.reply.Answer.{Answer}
use Rattle.rp_model.specs.Effect.{NodeInput, plan_of, turn_if}
use Rattle.rp_model.specs.Node.{RunningNode}
use Rattle.rp_model.specs.declared.plan.Plan.{Plan}
use Rattle.rp_rules.specs.Inputs.{Refuses, running_server, plan_if_given, effect_if_given}
use Rattle.rp_rules.specs.Plans.{turn_of_plan}
use Rattle.rp_rules.specs.rp_server.specs.State.{ServerState}

refuses_if : {S : Type 0} (long : Type 0) (node : RunningNode S) (found : Result Plan Fault) (fault : Fault) → Refuses long found fault → Refuses long (turn_if node found) fault
refuses_if long node (Ok plan) fault is = is
refuses_if long node (Err refusal) fault is = is

module _ {S : Type 0} (next : S → Action → S) (answers : S → Action → List Answer) (server : ServerState S) (given : Result NodeInput Fault) where
  -- the result is the turn of the plan
  turns_if : (g : Result NodeInput Fault) → effect_if_given next answers server g ≡ turn_if (running_server next answers server) (plan_if_given next answers server g)
  turns_if (Ok input) = refl
  turns_if (Err refusal) = refl

  pub planned : (plan : Plan) → Ok plan ≡ plan_if_given next answers server given → Ok (turn_of_plan next answers server plan) ≡ effect_if_given next answers server given
  planned plan is = ap (turn_if (running_server next answers server)) is ∙ sym (turns_if given)

  pub planned_on : {T : Type 0} (r : Result T Fault) (plan : Plan) → OnOk r (Ok plan ≡ plan_if_given next answers server given) → OnOk r (Ok (turn_of_plan next answers server plan) ≡ effect_if_given next answers server given)
  planned_on (Ok v) plan is = planned plan is
  planned_on (Err fault) plan is = tt

  -- a reason why there is no plan is one why there is no turn
  refuses_by : (long : Type 0) (g : Result NodeInput Fault) (fault : Fault) → Refuses long (plan_if_given next answers server g) fault → Refuses long (effect_if_given next answers server g) fault
  refuses_by long (Ok input) fault is = refuses_if long (running_server next answers server) (plan_of (running_server next answers server) input) fault is
  refuses_by long (Err refusal) fault is = is

  pub refuses_turn : (long : Type 0) (fault : Fault) → Refuses long (plan_if_given next answers server given) fault → Refuses long (effect_if_given next answers server given) fault
  refuses_turn long fault is = refuses_by long given fault is

  pub refuses_on : {T : Type 0} (long : Type 0) (r : Result T Fault) → IfErr r (Refuses long (plan_if_given next answers server given)) → IfErr r (Refuses long (effect_if_given next answers server given))
  refuses_on long (Ok v) is = tt
  refuses_on long (Err fault) is = refuses_turn long fault is
