-- One delivery more, or the end.
use Rattle.std.proofs.Common.{◌≡◌, ◌∙◌, ℕ, ◌+◌, ◌-◌, ◌<◌, ◌≤◌, None, [], ◌∷◌, ◌++◌, length, arith, refl, subst}
use Rattle.rp_run.specs.rp_model.specs.declared.event.Event.TheVariants.{Node as NodeStep}
use Rattle.rp_run.specs.rp_model.specs.declared.event.Step.TheVariants.{Deliver}
use Rattle.rp_run.specs.Items.{DrainLimit}
use Rattle.rp_run.specs.Output.{Play, drained, event_said, note_said}
use Rattle.rp_run.specs.Runs.{run_setting}
use Rattle.rp_run.proofs.LeastUnsettled.{least_is_left, none_is_left}
use Rattle.rp_run.proofs.RunParts.{Underway, sets_out, goes_on, ends, ends_by, says_by, drained_none, drained_full, drained_more}
use Rattle.rp_run.proofs.Stepping.{same_run_setting}
use Rattle.rp_chart.specs.ScriptHistory.{drain_ended, drain_happens, drawn_run, event_happens}
use Rattle.rp_chart.proofs.Charting.{Underway as ChartUnderway, goes_on as chart_goes_on, ends as chart_ends, ends_by as chart_ends_by, follows_of, writes_none}
use Rattle.rp_chart.proofs.ScriptHistory.{drain_none, drain_full, drain_more}
use Rattle.rp_chart.proofs.walk.Walk.drain.Goals as goal

pub loop-delivered-init : goal.loop-delivered-init
loop-delivered-init g c =
    let m = g.M.Machine in
    let options = c.args.scene.now.options.now in
    let s = run_setting m.next m.answers m.begin m.image c.args.self.now.cluster options in
    let d = drawn_run m.next m.answers m.begin m.image c.args.self.now.cluster c.args.scene.now in
    let most = options.most in
    let all : most ≡ most - 0 = omega arith in
    record {
      parts = c.requires.parts;
      setup = refl;
      stage = refl;
      so_far = λ play follows.
          subst (λ (n : ℕ). Underway c.args.self.now.cluster.world c.args.self.now.settled None None (drained s c.args.line most play) (λ (now : Play). drained s c.args.line n now)) all
          (sets_out c.args.self.now.cluster.world c.args.self.now.settled None play (λ (now : Play). drained s c.args.line most now) follows);
      ways = c.requires.ways;
      charted = λ play happened follows charted.
          subst (λ (n : ℕ). ChartUnderway m.next m.answers m.begin c.args.self.now.cluster c.args.self.now.settled c.args.self.now.chart (happened ++ drain_happens d c.args.line most play) (λ (now : Play). drain_happens d c.args.line n now)) all
          (record { play = play; follows = follows; so_far = happened; charted = charted; parts = refl });
    }

pub loop-delivered-preserved : goal.loop-delivered-preserved
loop-delivered-preserved g c =
    let m = g.M.Machine in
    let options = c.args.scene.now.options.now in
    let s = run_setting m.next m.answers m.begin m.image c.args.self.now.cluster options in
    let d = drawn_run m.next m.answers m.begin m.image c.args.self.now.cluster c.args.scene.now in
    let run = c.loop-delivered.self in
    let least = c.least-message in
    let message = least.result in
    let within : message ≤ length run.cluster.world.sent = omega arith in
    let delivered = c.loop-delivered.delivered in
    let most = options.most in
    let below : delivered < most = omega arith in
    let same = same_run_setting m.next m.answers m.begin m.image options c.args.self.now.cluster run.cluster c.loop-delivered.invariant.setup in
    record {
      parts = c.in_ok-step.ensures.parts;
      setup = c.step.ensures.setup ∙ c.loop-delivered.invariant.setup;
      stage = c.step.ensures.stage ∙ c.loop-delivered.invariant.stage;
      so_far = λ play follows.
          let so_far = c.loop-delivered.invariant.so_far play follows in
          let now = so_far.said.play in
          let reached = c.in_ok-step.ensures.reached now so_far.follows in
          goes_on run.cluster.world c.step.new.self.cluster.world run.settled c.step.new.self.settled None None None
          (drained s c.args.line most play) (λ (p : Play). drained s c.args.line (most - delivered) p) so_far
          (event_said s c.args.line now (NodeStep (Deliver message))) (λ (p : Play). drained s c.args.line (most - (delivered + 1)) p)
          (drained_more s c.args.line now most delivered message below
          (least_is_left run.cluster.world run.settled now so_far.follows message least.ensures.least least.ensures.from_one within least.ensures.unsettled))
          (rw same at reached) tt;
      ways = c.in_ok-step.ensures.ways;
      charted = λ play happened follows charted.
          let so_far = c.loop-delivered.invariant.charted play happened follows charted in
          let now = so_far.play in
          let event = NodeStep (Deliver message) in
          let after = (event_said s c.args.line now event).play in
          let reached = c.in_ok-step.ensures.reached now so_far.follows in
          let here = c.in_ok-step.ensures.charted now so_far.so_far so_far.follows so_far.charted in
          chart_goes_on m.next m.answers m.begin run.cluster c.step.new.self.cluster run.settled c.step.new.self.settled run.chart c.step.new.self.chart
          (happened ++ drain_happens d c.args.line most play) (λ (p : Play). drain_happens d c.args.line (most - delivered) p) (λ (p : Play). drain_happens d c.args.line (most - (delivered + 1)) p)
          so_far (event_happens d c.args.line now event ∷ []) after
          (drain_more d c.args.line now most delivered message below
          (least_is_left run.cluster.world run.settled now so_far.follows message least.ensures.least least.ensures.from_one within least.ensures.unsettled))
          (rw same at reached) (rw same at here);
    }

pub returns-then-message-messages-clause-reached : goal.returns-then-message-messages-clause-reached
returns-then-message-messages-clause-reached g c =
    let m = g.M.Machine in
    let options = c.args.scene.now.options.now in
    let s = run_setting m.next m.answers m.begin m.image c.args.self.now.cluster options in
    let d = drawn_run m.next m.answers m.begin m.image c.args.self.now.cluster c.args.scene.now in
    let run = c.loop-delivered.self in
    let least = c.least-message in
    let past : length run.cluster.world.sent < least.result = omega arith in
    λ play follows.
    let so_far = c.loop-delivered.invariant.so_far play follows in
    let now = so_far.said.play in
    let most = options.most - c.loop-delivered.delivered in
    (ends run.cluster.world run.settled None None
    (drained s c.args.line options.most play) (λ (p : Play). drained s c.args.line most p) so_far tt
    (drained_none s c.args.line now most (none_is_left run.cluster.world run.settled now so_far.follows least.result least.ensures.least past))).0

pub returns-then-least-messages-clause-reached : goal.returns-then-least-messages-clause-reached
returns-then-least-messages-clause-reached g c =
    let m = g.M.Machine in
    let options = c.args.scene.now.options.now in
    let s = run_setting m.next m.answers m.begin m.image c.args.self.now.cluster options in
    let d = drawn_run m.next m.answers m.begin m.image c.args.self.now.cluster c.args.scene.now in
    let run = c.loop-delivered.self in
    let least = c.least in
    let past : length run.cluster.world.sent < least.result = omega arith in
    λ play follows.
    let so_far = c.loop-delivered.invariant.so_far play follows in
    let now = so_far.said.play in
    let most = options.most - c.loop-delivered.delivered in
    (ends run.cluster.world run.settled None None
    (drained s c.args.line options.most play) (λ (p : Play). drained s c.args.line most p) so_far tt
    (drained_none s c.args.line now most (none_is_left run.cluster.world run.settled now so_far.follows least.result least.ensures.least past))).0

pub returns-clause-reached : goal.returns-clause-reached
returns-clause-reached g c =
    let m = g.M.Machine in
    let options = c.args.scene.now.options.now in
    let s = run_setting m.next m.answers m.begin m.image c.args.self.now.cluster options in
    let d = drawn_run m.next m.answers m.begin m.image c.args.self.now.cluster c.args.scene.now in
    let run = c.loop-delivered.self in
    let least = c.least in
    let within : least.result ≤ length run.cluster.world.sent = omega arith in
    let delivered = c.loop-delivered.delivered in
    let most = options.most in
    λ play follows.
    let so_far = c.loop-delivered.invariant.so_far play follows in
    let now = so_far.said.play in
    let here = note_said now (DrainLimit c.args.line) in
    rw (c.end_drain.ensures.cluster, c.end_drain.ensures.settled)
    (follows_of run.cluster.world run.settled (drained s c.args.line most play) c.end_drain.result
    (ends_by run.cluster.world run.cluster.world run.settled run.settled None None None
    (drained s c.args.line most play) (λ (p : Play). drained s c.args.line (most - delivered) p) so_far
    here c.end_drain.result
    (drained_full s c.args.line now most delivered least.result c.loop-delivered-test.false
    (least_is_left run.cluster.world run.settled now so_far.follows least.result least.ensures.least least.ensures.from_one within least.ensures.unsettled))
    (says_by run.cluster.world run.settled None None here c.end_drain.result so_far.follows (writes_none _ c.end_drain.result))))

pub returns-then-message-messages-clause-charted : goal.returns-then-message-messages-clause-charted
returns-then-message-messages-clause-charted g c =
    let m = g.M.Machine in
    let options = c.args.scene.now.options.now in
    let s = run_setting m.next m.answers m.begin m.image c.args.self.now.cluster options in
    let d = drawn_run m.next m.answers m.begin m.image c.args.self.now.cluster c.args.scene.now in
    let run = c.loop-delivered.self in
    let least = c.least-message in
    let past : length run.cluster.world.sent < least.result = omega arith in
    λ play happened follows charted.
    let so_far = c.loop-delivered.invariant.charted play happened follows charted in
    let most = options.most - c.loop-delivered.delivered in
    chart_ends m.next m.answers m.begin run.cluster run.settled run.chart
    (happened ++ drain_happens d c.args.line options.most play) (λ (p : Play). drain_happens d c.args.line most p) so_far
    (drain_none d c.args.line so_far.play most (none_is_left run.cluster.world run.settled so_far.play so_far.follows least.result least.ensures.least past))

pub returns-then-least-messages-clause-charted : goal.returns-then-least-messages-clause-charted
returns-then-least-messages-clause-charted g c =
    let m = g.M.Machine in
    let options = c.args.scene.now.options.now in
    let s = run_setting m.next m.answers m.begin m.image c.args.self.now.cluster options in
    let d = drawn_run m.next m.answers m.begin m.image c.args.self.now.cluster c.args.scene.now in
    let run = c.loop-delivered.self in
    let least = c.least in
    let past : length run.cluster.world.sent < least.result = omega arith in
    λ play happened follows charted.
    let so_far = c.loop-delivered.invariant.charted play happened follows charted in
    let most = options.most - c.loop-delivered.delivered in
    chart_ends m.next m.answers m.begin run.cluster run.settled run.chart
    (happened ++ drain_happens d c.args.line options.most play) (λ (p : Play). drain_happens d c.args.line most p) so_far
    (drain_none d c.args.line so_far.play most (none_is_left run.cluster.world run.settled so_far.play so_far.follows least.result least.ensures.least past))

pub returns-clause-charted : goal.returns-clause-charted
returns-clause-charted g c =
    let m = g.M.Machine in
    let options = c.args.scene.now.options.now in
    let s = run_setting m.next m.answers m.begin m.image c.args.self.now.cluster options in
    let d = drawn_run m.next m.answers m.begin m.image c.args.self.now.cluster c.args.scene.now in
    let run = c.loop-delivered.self in
    let least = c.least in
    let within : least.result ≤ length run.cluster.world.sent = omega arith in
    let delivered = c.loop-delivered.delivered in
    let most = options.most in
    λ play happened follows charted.
    let so_far = c.loop-delivered.invariant.charted play happened follows charted in
    chart_ends_by m.next m.answers m.begin run.cluster c.end_drain.new.self.cluster run.settled run.chart c.end_drain.new.self.chart
    (happened ++ drain_happens d c.args.line most play) (λ (p : Play). drain_happens d c.args.line (most - delivered) p) so_far
    (drain_ended d c.args.line ∷ []) c.end_drain.result
    (drain_full d c.args.line so_far.play most delivered least.result c.loop-delivered-test.false
    (least_is_left run.cluster.world run.settled so_far.play so_far.follows least.result least.ensures.least least.ensures.from_one within least.ensures.unsettled))
    (c.end_drain.ensures.charted so_far.so_far so_far.charted)
