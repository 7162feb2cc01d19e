-- Each event's answer is a step of the cluster.
use Rattle.std.proofs.Common.{◌≡◌, sym, ap, subst}
use Rattle.std.specs.Prelude.{ℤ}
use Rattle.std.specs.Int.{w64}
use Rattle.std.proofs.lemmas.Int.{to_z-of_z}
use Rattle.rp_model.specs.Events.{Submit, Makes, IsRightEvent, event_of, step_of}
use Rattle.rp_model.specs.World.{event_effect}
use Rattle.rp_actors.specs.Going.{Answers, call_meant, stated}
use Rattle.rp_actors.specs.Steps.{IsLightStep, IsStep, cluster_setting}
use Rattle.rp_world.proofs.Stepping.{submitted, asked, made_whole, made_cut, stopped, restarted}
use Rattle.rp_world.proofs.world.World.step_into.Goals as goal
use Rattle.rp_world.proofs.world.World.step_into.Goals.{in-Submit, in-Again, in-Cut, in-Stop, in-Restart}

pub returns-in-Node : goal.returns-in-Node
returns-in-Node g c =
    let m = g.M.Machine in
    let old = c.args.self.now in
    let s = cluster_setting m.next m.answers m.begin old in
    let step = step_of c.in-Node.step in
    let made = c.make_step in
    record {
      step = made_whole m.next m.answers m.begin old made.new.self c.args.event.now (stated made.result made.new.effect) step (ap event_of c.in-Node.is) made.ensures.answer;
      certain = λ taken is light.
          let made_by : event_of c.args.event.now ≡ Makes step = ap event_of c.in-Node.is in
          let same : taken ≡ step = cc in
          made.ensures.certain (subst (IsLightStep s old.world) same light);
    }

pub returns-clause-step : goal.returns-clause-step
returns-clause-step g c =
    let m = g.M.Machine in
    let old = c.args.self.now in
    let s = cluster_setting m.next m.answers m.begin old in
    let stepped = IsStep m.next m.answers m.begin old c.args.event.now in
    subst (stepped c.match-event.self) (sym c.write_effect.ensures) (elim c.match-event.branch [
      | in-Submit w ↦
          let v = w.in-Submit in
          let made = w.submit-answer in
          let range = subst (λ e. IsRightEvent (event_of e)) v.is c.requires.event in
          let answer : Answers old (call_meant (event_effect s old.world (Submit v.task v.node v.object v.operation v.arg))) made.new.self made.result =
          subst (λ (z : ℤ). Answers old (call_meant (event_effect s old.world (Submit v.task v.node v.object v.operation z))) made.new.self made.result) (to_z-of_z w64 v.arg range.4) made.ensures.answer in
          subst (λ now. stepped now c.match-event.answer) (sym w.self-is) (subst (stepped made.new.self) (sym w.answer-is)
          (submitted m.next m.answers m.begin old made.new.self c.args.event.now made.result v.task v.node v.object v.operation v.arg (ap event_of v.is) answer))
      | in-Again w ↦
          let v = w.in-Again in
          let made = w.again-answer in
          subst (λ now. stepped now c.match-event.answer) (sym w.self-is) (subst (stepped made.new.self) (sym w.answer-is)
          (asked m.next m.answers m.begin old made.new.self c.args.event.now made.result v.task v.node (ap event_of v.is) made.ensures.answer))
      | in-Cut w ↦
          let made = w.make_cut-answer in
          subst (λ now. stepped now c.match-event.answer) (sym w.self-is) (subst (stepped made.new.self) (sym w.answer-is)
          (made_cut m.next m.answers m.begin old made.new.self c.args.event.now made.result (step_of w.in-Cut.step) w.in-Cut.kept (ap event_of w.in-Cut.is) made.ensures.answer))
      | in-Stop w ↦
          let v = w.in-Stop in
          let made = w.stop-answer in
          subst (λ now. stepped now c.match-event.answer) (sym w.self-is) (subst (stepped made.new.self) (sym w.answer-is)
          (stopped m.next m.answers m.begin old made.new.self c.args.event.now made.result v.node (ap event_of v.is) made.ensures.answer))
      | in-Restart w ↦
          let v = w.in-Restart in
          let made = w.restart-answer in
          subst (λ now. stepped now c.match-event.answer) (sym w.self-is) (subst (stepped made.new.self) (sym w.answer-is)
          (restarted m.next m.answers m.begin old made.new.self c.args.event.now v.node (ap event_of v.is) made.result made.ensures.answer))
    ])

-- only a step may be light, and these events are none
pub returns-clause-certain : goal.returns-clause-certain
returns-clause-certain g c = λ step is light. elim c.match-event.branch [
  | in-Submit w ↦ let other = ap event_of w.in-Submit.is in cc
  | in-Again w ↦ let other = ap event_of w.in-Again.is in cc
  | in-Cut w ↦ let other = ap event_of w.in-Cut.is in cc
  | in-Stop w ↦ let other = ap event_of w.in-Stop.is in cc
  | in-Restart w ↦ let other = ap event_of w.in-Restart.is in cc
]
