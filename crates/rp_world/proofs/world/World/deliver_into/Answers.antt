-- By whether there was something to tell.
use Rattle.std.proofs.Common.{◌≡◌, ℕ, ◌+◌, Bool, Result, Ok, Err, length, refl, sym, ap, subst, ◌∙◌}
use Rattle.std.specs.Prelude.{IsOk}
use Rattle.rp_base.specs.declared.fault.Fault.{Fault}
use Rattle.rp_model.specs.declared.effect.Dropped.TheVariants.{No}
use Rattle.rp_model.specs.declared.effect.Effect.{Effect}
use Rattle.rp_model.specs.Events.{Deliver}
use Rattle.rp_actors.specs.Deliveries.{delivery_answer, only_sent}
use Rattle.rp_actors.specs.Going.{Answers, stated, step_meant}
use Rattle.rp_actors.specs.Steps.{cluster_setting}
use Rattle.rp_actors.proofs.OnlySent.{only_sent_more}
use Rattle.rp_actors.proofs.Reports.{stated_sent}
use Rattle.rp_world.proofs.world.World.deliver_into.Goals as goal

-- a call that is answered by an effect has returned
stated_ok : (result : Result Unit Fault) (effect : Effect) → IsOk (stated result effect) → IsOk result
stated_ok (Ok done) effect is = refl
stated_ok (Err fault) effect is = cc

pub returns-then-deliver-clause-answer : goal.returns-then-deliver-clause-answer
returns-then-deliver-clause-answer g c =
    let was = c.args.self.now in
    let new = c.deliver.new.self in
    let m = step_meant (cluster_setting g.M.Machine.next g.M.Machine.answers g.M.Machine.begin was) was.world (Deliver c.args.number) in
    subst (Answers was m new) (sym c.write_effect.ensures)
    (subst (λ (b : Bool). Answers was m new (delivery_answer was.world new.world b c.deliver.new.reported)) c.if-deliver.true c.deliver.ensures.answer)

pub returns-then-deliver-clause-certain : goal.returns-then-deliver-clause-certain
returns-then-deliver-clause-certain g c = λ light.
    let was = c.args.self.now in
    let new = c.deliver.new.self in
    stated_ok c.write_effect.result c.write_effect.new.effect
    (subst IsOk (sym c.write_effect.ensures)
    (subst (λ (b : Bool). IsOk (delivery_answer was.world new.world b c.deliver.new.reported)) c.if-deliver.true (c.deliver.ensures.certain light)))

pub returns-else-deliver-clause-answer : goal.returns-else-deliver-clause-answer
returns-else-deliver-clause-answer g c =
    let was = c.args.self.now in
    let new = c.deliver.new.self in
    let m = step_meant (cluster_setting g.M.Machine.next g.M.Machine.answers g.M.Machine.begin was) was.world (Deliver c.args.number) in
    let made : c.of_step.result ≡ only_sent was.world new.world =
    c.of_step.ensures
    ∙ ap (λ (k : ℕ). stated_sent (k + 1) c.messages.result No) c.messages-first.ensures.value
    ∙ ap (λ (k : ℕ). stated_sent (length was.world.sent + 1) k No) c.messages.ensures.value
    ∙ sym (only_sent_more was.world new.world) in
    subst (λ (effect : Effect). Answers was m new (Ok effect)) (sym made)
    (subst (λ (b : Bool). Answers was m new (delivery_answer was.world new.world b c.deliver.new.reported)) c.if-deliver.false c.deliver.ensures.answer)
