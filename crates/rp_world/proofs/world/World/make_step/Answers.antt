use Rattle.std.proofs.Common.{◌≡◌, ℕ, Some, Result, Ok, Err, List, inl, refl, sym, ap, subst, ◌∙◌}
use Rattle.std.specs.Prelude.{IsOk}
use Rattle.rp_base.specs.declared.action.Action.{Action}
use Rattle.rp_base.specs.declared.fault.Fault.{Fault}
use Rattle.rp_base.specs.declared.reply.Answer.{Answer}
use Rattle.rp_model.specs.declared.effect.Effect.{Effect}
use Rattle.rp_model.specs.Effect as inputs
use Rattle.rp_model.specs.Effect.{Setting, Done, NodeInput, node_effect}
use Rattle.rp_model.specs.Events as events
use Rattle.rp_model.specs.Events.{Step, step_of}
use Rattle.rp_model.specs.Parts.{NodePart}
use Rattle.rp_model.specs.World.{World, part_at, node_done, node_done_if, commanded, chosen_effect, step_effect}
use Rattle.rp_actors.specs.Going.{Answers, stated, step_meant}
use Rattle.rp_actors.specs.Steps.{IsLightStep, ClusterState, cluster_setting}
use Rattle.rp_world.proofs.Choosing.{its_node, nodes_seen}
use Rattle.rp_actors.proofs.Fields.{fields_of, setting_by}
use Rattle.rp_actors.proofs.Hearing.{same_input}
use Rattle.rp_actors.proofs.Light.{light_input}
use Rattle.rp_actors.proofs.Messages.{sends_are}
use Rattle.rp_world.proofs.world.World.make_step.Goals as goal

-- what a cluster answers to a step
module _ {S P : Type 0} (next : S → Action → S) (answers : S → Action → List Answer) (start : P → S) (was new : ClusterState P) (result : Result Unit Fault) (effect : Effect) where
  abbrev IsMade : Step → Type 0
  IsMade step =
      let s = cluster_setting next answers start was in
      record {
        answer : Answers was (step_meant s was.world step) new (stated result effect);
        certain : IsLightStep s was.world step → IsOk result;
      }

-- the result of a step that gives a node this input
result_of : {S : Type 0} (s : Setting S) (w : World) (step : Step) (me : ℕ) (input : NodeInput) {given : NodeInput} {part : NodePart} {done : Done NodePart} → step_effect s w step ≡ chosen_effect s w (commanded me input (part_at w.nodes me))
    → (let a : Result NodeInput Fault = Ok input in let b : Result NodeInput Fault = Ok given in a ≡ b) → part_at w.nodes me ≡ Some part → node_effect s me part given ≡ Ok done → step_effect s w step ≡ Ok (node_done w me done)
result_of s w step me input {given = given} {part = part} whole is here resulted =
    whole ∙ ap (λ o. chosen_effect s w (commanded me input o)) here ∙ ap (λ (i : NodeInput). node_done_if w me (node_effect s me part i)) (same_input input given is) ∙ ap (node_done_if w me) resulted

pub give_input-requires-clause-given : goal.give_input-requires-clause-given
give_input-requires-clause-given g c = ((inputs.Lead c.in-Lead.position), refl)

pub give_input-requires-clause-sends : goal.give_input-requires-clause-sends
give_input-requires-clause-sends g c = λ given part done is here resulted.
    let was = c.args.self.now in
    let me = c.in-Lead.node in
    let step = events.Lead me c.in-Lead.position in
    let range = subst (λ s. events.IsRightStep (step_of s)) c.in-Lead.is c.requires.step in
    let results = result_of (cluster_setting g.M.Machine.next g.M.Machine.answers g.M.Machine.begin was) was.world step me (inputs.Lead c.in-Lead.position) refl is here resulted in
    sends_are was.world.sent done.sends (c.events_keep_ranges.ensures.effect was.setup.config was.setup.program was.world (events.Makes step) (node_done was.world me done) c.requires.config c.requires.ranged range results).packets

pub give_input-requires-in-Ok-clause-given : goal.give_input-requires-in-Ok-clause-given
give_input-requires-in-Ok-clause-given g c = (inputs.LeadRange c.in-LeadRange.first c.in-LeadRange.count, c.in-Ok.ensures.ok)

pub give_input-requires-in-Ok-clause-sends : goal.give_input-requires-in-Ok-clause-sends
give_input-requires-in-Ok-clause-sends g c = λ given part done is here resulted.
    let was = c.args.self.now in
    let me = c.in-LeadRange.node in
    let step = events.LeadRange me c.in-LeadRange.first c.in-LeadRange.count in
    let range = subst (λ s. events.IsRightStep (step_of s)) c.in-LeadRange.is c.requires.step in
    let results = result_of (cluster_setting g.M.Machine.next g.M.Machine.answers g.M.Machine.begin was) was.world step me (inputs.LeadRange c.in-LeadRange.first c.in-LeadRange.count) refl (sym c.in-Ok.ensures.ok ∙ is) here resulted in
    sends_are was.world.sent done.sends (c.events_keep_ranges.ensures.effect was.setup.config was.setup.program was.world (events.Makes step) (node_done was.world me done) c.requires.config c.requires.ranged range results).packets

pub give_input-requires-in-Tick-clause-given : goal.give_input-requires-in-Tick-clause-given
give_input-requires-in-Tick-clause-given g c = ((inputs.Tick c.in-Tick.now), refl)

pub give_input-requires-in-Report-clause-given : goal.give_input-requires-in-Report-clause-given
give_input-requires-in-Report-clause-given g c = ((inputs.Report c.in-Report.first), refl)

pub give_input-requires-in-Report-clause-sends : goal.give_input-requires-in-Report-clause-sends
give_input-requires-in-Report-clause-sends g c = λ given part done is here resulted.
    let was = c.args.self.now in
    let me = c.in-Report.node in
    let step = events.Report me c.in-Report.first in
    let range = subst (λ s. events.IsRightStep (step_of s)) c.in-Report.is c.requires.step in
    let results = result_of (cluster_setting g.M.Machine.next g.M.Machine.answers g.M.Machine.begin was) was.world step me (inputs.Report c.in-Report.first) refl is here resulted in
    sends_are was.world.sent done.sends (c.events_keep_ranges.ensures.effect was.setup.config was.setup.program was.world (events.Makes step) (node_done was.world me done) c.requires.config c.requires.ranged range results).packets

pub give_input-requires-in-Ask-clause-given : goal.give_input-requires-in-Ask-clause-given
give_input-requires-in-Ask-clause-given g c = ((inputs.Ask c.in-Ask.to), refl)

pub give_input-requires-in-Ask-clause-sends : goal.give_input-requires-in-Ask-clause-sends
give_input-requires-in-Ask-clause-sends g c = λ given part done is here resulted.
    let was = c.args.self.now in
    let me = c.in-Ask.node in
    let step = events.Ask me c.in-Ask.to in
    let range = subst (λ s. events.IsRightStep (step_of s)) c.in-Ask.is c.requires.step in
    let results = result_of (cluster_setting g.M.Machine.next g.M.Machine.answers g.M.Machine.begin was) was.world step me (inputs.Ask c.in-Ask.to) refl is here resulted in
    sends_are was.world.sent done.sends (c.events_keep_ranges.ensures.effect was.setup.config was.setup.program was.world (events.Makes step) (node_done was.world me done) c.requires.config c.requires.ranged range results).packets

pub returns-in-Deliver : goal.returns-in-Deliver
returns-in-Deliver g c =
    subst (λ step. IsMade g.M.Machine.next g.M.Machine.answers g.M.Machine.begin c.args.self.now c.deliver_into.new.self c.deliver_into.result c.deliver_into.new.effect (step_of step)) (sym c.in-Deliver.is)
    (record { answer = c.deliver_into.ensures.answer; certain = c.deliver_into.ensures.certain })

pub returns-in-Lead : goal.returns-in-Lead
returns-in-Lead g c =
    let given = inputs.Lead c.in-Lead.position in
    subst (λ step. IsMade g.M.Machine.next g.M.Machine.answers g.M.Machine.begin c.args.self.now c.give_input.new.self c.give_input.result c.give_input.new.effect (step_of step)) (sym c.in-Lead.is)
    (record { answer = c.give_input.ensures.answer given refl; certain = λ light. let t = light_input (cluster_setting g.M.Machine.next g.M.Machine.answers g.M.Machine.begin c.args.self.now) c.args.self.now.world (events.Lead c.in-Lead.node c.in-Lead.position) light c.in-Lead.node (its_node c.in-Lead.node given (part_at c.args.self.now.world.nodes c.in-Lead.node)) given refl refl in c.give_input.ensures.certain given t.part refl (λ long. long) t.here t.takes_none })

pub returns-in-Tick : goal.returns-in-Tick
returns-in-Tick g c =
    let given = inputs.Tick c.in-Tick.now in
    let made = c.give_input-in-Tick in
    subst (λ step. IsMade g.M.Machine.next g.M.Machine.answers g.M.Machine.begin c.args.self.now made.new.self made.result made.new.effect (step_of step)) (sym c.in-Tick.is)
    (record { answer = made.ensures.answer given refl; certain = λ light. let t = light_input (cluster_setting g.M.Machine.next g.M.Machine.answers g.M.Machine.begin c.args.self.now) c.args.self.now.world (events.Tick c.in-Tick.node c.in-Tick.now) light c.in-Tick.node (its_node c.in-Tick.node given (part_at c.args.self.now.world.nodes c.in-Tick.node)) given refl refl in made.ensures.certain given t.part refl (λ long. long) t.here t.takes_none })

pub returns-in-Report : goal.returns-in-Report
returns-in-Report g c =
    let given = inputs.Report c.in-Report.first in
    let made = c.give_input-in-Report in
    subst (λ step. IsMade g.M.Machine.next g.M.Machine.answers g.M.Machine.begin c.args.self.now made.new.self made.result made.new.effect (step_of step)) (sym c.in-Report.is)
    (record { answer = made.ensures.answer given refl; certain = λ light. let t = light_input (cluster_setting g.M.Machine.next g.M.Machine.answers g.M.Machine.begin c.args.self.now) c.args.self.now.world (events.Report c.in-Report.node c.in-Report.first) light c.in-Report.node (its_node c.in-Report.node given (part_at c.args.self.now.world.nodes c.in-Report.node)) given refl refl in made.ensures.certain given t.part refl (λ long. long) t.here t.takes_none })

pub returns-in-Ask : goal.returns-in-Ask
returns-in-Ask g c =
    let given = inputs.Ask c.in-Ask.to in
    let made = c.give_input-in-Ask in
    subst (λ step. IsMade g.M.Machine.next g.M.Machine.answers g.M.Machine.begin c.args.self.now made.new.self made.result made.new.effect (step_of step)) (sym c.in-Ask.is)
    (record { answer = made.ensures.answer given refl; certain = λ light. let t = light_input (cluster_setting g.M.Machine.next g.M.Machine.answers g.M.Machine.begin c.args.self.now) c.args.self.now.world (events.Ask c.in-Ask.node c.in-Ask.to) light c.in-Ask.node (its_node c.in-Ask.node given (part_at c.args.self.now.world.nodes c.in-Ask.node)) given refl refl in made.ensures.certain given t.part refl (λ long. long) t.here t.takes_none })

pub returns-in-Ok : goal.returns-in-Ok
returns-in-Ok g c =
    let given = inputs.LeadRange c.in-LeadRange.first c.in-LeadRange.count in
    let made = c.give_input-in-Ok in
    subst (λ step. IsMade g.M.Machine.next g.M.Machine.answers g.M.Machine.begin c.args.self.now made.new.self made.result made.new.effect (step_of step)) (sym c.in-LeadRange.is)
    (record { answer = made.ensures.answer given c.in-Ok.ensures.ok; certain = λ light. let t = light_input (cluster_setting g.M.Machine.next g.M.Machine.answers g.M.Machine.begin c.args.self.now) c.args.self.now.world (events.LeadRange c.in-LeadRange.node c.in-LeadRange.first c.in-LeadRange.count) light c.in-LeadRange.node (its_node c.in-LeadRange.node given (part_at c.args.self.now.world.nodes c.in-LeadRange.node)) given refl refl in made.ensures.certain given t.part c.in-Ok.ensures.ok (λ long. long) t.here t.takes_none })

pub returns-in-Err : goal.returns-in-Err
returns-in-Err g c =
    let f = fields_of g.M.Machine.next g.M.Machine.answers g.M.Machine.begin c.self.inside.messages c.self.invariant c.self.view_is in
    let s = setting_by f f.was in
    let refused = c.in-Err.ensures.err s f.was.world (nodes_seen f c.deref.ensures.value) in
    record {
      answer = inl (record { resulted = ap (λ step. step_effect s f.was.world (step_of step)) c.in-LeadRange.is ∙ refused.whole; unchanged = refl });
      certain = λ light.
          let refuses : step_effect s f.was.world (step_of c.args.step) ≡ Err c.in-Err.fault = ap (λ step. step_effect s f.was.world (step_of step)) c.in-LeadRange.is ∙ refused.whole in
          let resulted : step_effect s f.was.world (step_of c.args.step) ≡ Ok light.transition = light.resulted in
          absurd (cc);
    }
