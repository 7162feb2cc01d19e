-- One message more, or the end.
use Rattle.std.proofs.Common.{◌∙◌, ◌-◌, ◌<◌, ◌≤◌, List, [], ◌∷◌, ◌++◌, map, arith, refl, sym, ap, subst, append_assoc, append-nil}
use Rattle.rp_history.specs.Histories.{Happening}
use Rattle.rp_run.specs.rp_model.specs.World.{World}
use Rattle.rp_run.specs.Settled.{is_settled}
use Rattle.rp_run.specs.declared.settled.Settled.{Settled}
use Rattle.rp_world.specs.rp_actors.specs.Steps.{ClusterState}
use Rattle.rp_chart.specs.ScriptCharts.{IsCharted}
use Rattle.rp_chart.specs.ScriptHistory.{drawn_run, message_lost, unsettled_in}
use Rattle.rp_chart.proofs.ScriptHistory.{lost_all, lost_more, lost_none}
use Rattle.rp_chart.proofs.walk.Walk.lose_from.Goals as goal

pub loop-number-init : goal.loop-number-init
loop-number-init g c =
    let m = g.M.Machine in
    let run = c.args.self.now in
    let d = drawn_run m.next m.answers m.begin m.image run.cluster c.args.scene.now in
    record {
      above = omega arith;
      unsettled = c.requires.unsettled;
      past = λ n after before. absurd (omega (arith, c.requires.within));
      cluster = refl;
      settled = λ n. refl;
      stage = refl;
      ways = c.requires.ways;
      charted = λ play happened follows charted.
          subst (λ (l : List Happening). IsCharted m.next m.answers m.begin run.cluster run.chart l)
          (sym (ap (λ (l : List Happening). happened ++ l) (lost_none d c.args.first play run.cluster.world run.settled follows c.requires.first) ∙ append-nil happened)) charted;
    }

pub loop-number-preserved : goal.loop-number-preserved
loop-number-preserved g c =
    let m = g.M.Machine in
    let start = c.args.self.now in
    let d = drawn_run m.next m.answers m.begin m.image start.cluster c.args.scene.now in
    let first = c.args.first in
    let number = c.loop-number.number in
    let held = c.loop-number.invariant in
    let lost = c.lose_one.new.self in
    let next = c.next_unsettled-number in
    let here : number ≤ c.args.last = c.loop-number-test.true in
    let one : 1 ≤ number = omega (arith, held.above, c.requires.first) in
    let later : number < next.result = omega (arith, next.ensures.from) in
    record {
      above = omega (arith, held.above, next.ensures.from);
      unsettled = sym (held.settled next.result) ∙ sym (ap (λ (s : Settled). is_settled s next.result) c.lose_one.ensures.settled) ∙ next.ensures.unsettled;
      past = λ n after before. sym (held.settled n) ∙ sym (ap (λ (s : Settled). is_settled s n) c.lose_one.ensures.settled) ∙ next.ensures.least n (omega arith) before;
      cluster = c.lose_one.ensures.cluster ∙ held.cluster;
      settled = λ n. next.ensures.same n ∙ ap (λ (s : Settled). is_settled s n) c.lose_one.ensures.settled ∙ held.settled n;
      stage = c.lose_one.ensures.stage ∙ held.stage;
      ways = c.in_ok-lose_one.ensures.ways;
      charted = λ play happened follows charted.
          let so_far : List Happening = map (message_lost d play.world) (unsettled_in play first (number - 1)) in
          let same = ap (λ (k : ClusterState _). message_lost (drawn_run m.next m.answers m.begin m.image k c.args.scene.now) k.world number) held.cluster
          ∙ ap (λ (w : World). message_lost d w number) follows.world_is in
          subst (λ (l : List Happening). IsCharted m.next m.answers m.begin lost.cluster lost.chart l)
          (append_assoc happened so_far _
          ∙ ap (λ (h : Happening). happened ++ (so_far ++ h ∷ [])) same
          ∙ ap (λ (l : List Happening). happened ++ l)
          (lost_more d first play start.cluster.world start.settled follows number next.result one held.above held.unsettled later
          (λ n past before. sym (held.settled n) ∙ sym (ap (λ (s : Settled). is_settled s n) c.lose_one.ensures.settled) ∙ next.ensures.least n (omega arith) before)))
          (c.in_ok-lose_one.ensures.charted (happened ++ so_far) (held.charted play happened follows charted));
    }

pub returns-clause-charted : goal.returns-clause-charted
returns-clause-charted g c = λ play happened follows charted.
    let m = g.M.Machine in
    let start = c.args.self.now in
    let d = drawn_run m.next m.answers m.begin m.image start.cluster c.args.scene.now in
    let run = c.loop-number.self in
    let held = c.loop-number.invariant in
    let past : c.args.last < c.loop-number.number = c.loop-number-test.false in
    subst (λ (l : List Happening). IsCharted m.next m.answers m.begin run.cluster run.chart l)
    (ap (λ (l : List Happening). happened ++ l) (lost_all d c.args.first play start.cluster.world start.settled follows c.args.last c.loop-number.number past held.past))
    (held.charted play happened follows charted)
