-- A delivery is a step, and what it leads to satisfies the invariant.
use Rattle.std.proofs.Common.{refl, sym, subst}
use Rattle.std.specs.Prelude.{IsOk}
use Rattle.rp_model.specs.declared.event.Event.TheVariants.{Node}
use Rattle.rp_model.specs.declared.event.Step.TheVariants as steps
use Rattle.rp_model.specs.Effect.{Setting}
use Rattle.rp_model.specs.Events.{Makes, Deliver}
use Rattle.rp_actors.specs.Deliveries.{delivery_answer}
use Rattle.rp_actors.specs.Shape.{IsCluster}
use Rattle.rp_actors.specs.Steps.{IsLightStep, IsStep, cluster_setting}
use Rattle.rp_world.proofs.Answering.{same_setting}
use Rattle.rp_world.proofs.Stepping.{made_whole}
use Rattle.rp_world.proofs.cluster.Cluster.step_by_delivery.Goals as goal

pub invariant_of-self : goal.invariant_of-self
invariant_of-self g c =
    let m = g.M.Machine in
    let old = c.self.inside.world in
    let new = c.deliver.new.self in
    let s = cluster_setting m.next m.answers m.begin old in
    let step = Deliver c.args.number in
    let answer = delivery_answer old.world new.world c.deliver.result c.deliver.new.reported in
    let whole = made_whole m.next m.answers m.begin old new (Node (steps.Deliver c.args.number)) answer step refl c.deliver.ensures.answer in
    let now = c.self.invariant in
    subst (λ (t : Setting g.row.M.Denot). IsCluster t new.world) (sym (same_setting m.next m.answers m.begin old new whole.setup))
    (record {
      right = now.right;
      kept = c.events_keep_replies.ensures.answer s old.world new.world (Makes step) answer now.right now.kept tt whole.world;
      ranged = c.events_keep_ranges.ensures.answer old.setup.config old.setup.program old.world new.world (Makes step) answer now.right now.ranged tt whole.world;
    })

pub returns-clause-step : goal.returns-clause-step
returns-clause-step g c =
    let m = g.M.Machine in
    let old = c.self.inside.world in
    let new = c.deliver.new.self in
    let step = Deliver c.args.number in
    let reports = c.deliver.result in
    let reported = c.deliver.new.reported in
    subst (λ was. IsStep m.next m.answers m.begin was (Node (steps.Deliver c.args.number)) new (delivery_answer was.world new.world reports reported)) c.self.view_is
    (made_whole m.next m.answers m.begin old new (Node (steps.Deliver c.args.number)) (delivery_answer old.world new.world reports reported) step refl c.deliver.ensures.answer)

pub returns-clause-certain : goal.returns-clause-certain
returns-clause-certain g c =
    let m = g.M.Machine in
    let new = c.deliver.new.self in
    subst (λ was. IsLightStep (cluster_setting m.next m.answers m.begin was) was.world (Deliver c.args.number) → IsOk (delivery_answer was.world new.world c.deliver.result c.deliver.new.reported)) c.self.view_is
    c.deliver.ensures.certain
