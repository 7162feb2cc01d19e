-- One line more, or the end.
use Rattle.std.proofs.Common.{◌≡◌, ◌∙◌, ◌+◌, None, [], map, drop, string_bytes, arith, refl, sym, ap, subst}
use Rattle.std.specs.Prelude.{option_map}
use Rattle.std.proofs.lemmas.Result.{IfOk-weaker}
use Rattle.rp_run.specs.rp_model.specs.Effect.{Setting}
use Rattle.rp_run.specs.rp_model.specs.World.{World, opening_world}
use Rattle.rp_run.specs.Output.{Play, command_said, opening_play, script_said}
use Rattle.rp_run.specs.Runs.{Follows, opening_cluster, run_setting}
use Rattle.rp_history.specs.Histories.{IsSketchOf, lane_text}
use Rattle.rp_history.specs.Pages.{IsDrawnAs}
use Rattle.rp_history.specs.declared.stage.Stage.{Stage}
use Rattle.rp_run.proofs.RunParts.{sets_out, ends, no_line, line_goes_on}
use Rattle.rp_run.proofs.Stepping.{same_run_setting, opening_parts}
use Rattle.rp_world.specs.rp_actors.specs.Steps.{cluster_setting}
use Rattle.rp_run.specs.rp_world.proofs.Answering.{same_setting}
use Rattle.rp_chart.specs.ScriptHistory.{command_happens, drawn_run, lines_happen, script_happens}
use Rattle.rp_chart.proofs.Charting.{goes_on as chart_goes_on, ends as chart_ends}
use Rattle.rp_chart.proofs.ScriptHistory.{next_line, no_line as none_left}
use Rattle.rp_chart.proofs.walk.draw_lines.Goals as goal

pub loop-line-init : goal.loop-line-init
loop-line-init g c =
    let m = g.M.Machine in
    let options = c.args.scene.now.options.now in
    let s = run_setting m.next m.answers m.begin m.image (opening_cluster options.config c.args.program) options in
    let cluster = c.in_ok-new.field-0 in
    let opened = c.in_ok-new.ensures.opened in
    let world = ap (λ k. k.world) opened in
    let t = cluster_setting m.next m.answers m.begin cluster in
    let nodes : opening_world t.config.nodes ≡ cluster.world = ap (λ k. opening_world k.setup.config.nodes) opened ∙ sym world in
    let chart = c.new-3.result in
    let opens = subst (λ (w : World). IsSketchOf t chart.stage chart.sketch [] w) nodes (c.new-3.ensures.opening t) in
    let follows : Follows cluster.world c.new-2.result (opening_play s) = record { world_is = world; settled_are = c.new-2.ensures } in
    record {
      parts = opening_parts options.config.nodes cluster (ap (λ k. k.setup.config.nodes) opened) world;
      setup = ap (λ k. k.setup) opened;
      stage = c.new-3.ensures.stage;
      so_far = sets_out cluster.world c.new-2.result None (opening_play s) (λ (now : Play). script_said s options.most now options.lines.now) follows;
      ways = record { drawable = c.new-3.ensures.drawable; count = opens.count };
      charted = record { play = opening_play s; follows = follows; so_far = []; charted = opens; parts = refl };
    }

pub loop-line-preserved : goal.loop-line-preserved
loop-line-preserved g c =
    let m = g.M.Machine in
    let options = c.args.scene.now.options.now in
    let opening = opening_cluster options.config c.args.program in
    let s = run_setting m.next m.answers m.begin m.image opening options in
    let d = drawn_run m.next m.answers m.begin m.image opening c.args.scene.now in
    let walk = c.loop-line.walk in
    let so_far = c.loop-line.invariant.so_far in
    let same = same_run_setting m.next m.answers m.begin m.image options opening walk.cluster c.loop-line.invariant.setup in
    let reached = c.in_ok-take.ensures.reached so_far.said.play so_far.follows in
    let line = c.line-item.result in
    let charted = c.loop-line.invariant.charted in
    let further = c.in_ok-take.ensures.reached charted.play charted.follows in
    let drawn = c.in_ok-take.ensures.charted charted.play charted.so_far charted.follows charted.charted in
    record {
      parts = c.in_ok-take.ensures.parts;
      setup = c.take.ensures.setup ∙ c.loop-line.invariant.setup;
      stage = c.take.ensures.stage ∙ c.loop-line.invariant.stage;
      so_far = line_goes_on s options.most options.lines.now c.loop-line.line-index c.line-item.result (omega arith) c.line-item.is so_far (rw same at reached) tt;
      ways = c.in_ok-take.ensures.ways;
      charted = chart_goes_on m.next m.answers m.begin walk.cluster c.take.new.self.cluster walk.settled c.take.new.self.settled walk.chart c.take.new.self.chart
          (script_happens d options.most options.lines.now) (λ (now : Play). lines_happen d options.most now (drop c.loop-line.line-index options.lines.now))
          (λ (now : Play). lines_happen d options.most now (drop (c.loop-line.line-index + 1) options.lines.now)) charted
          (command_happens d options.most line.number charted.play line.command) (command_said s options.most line.number charted.play line.command).play
          (next_line d options.most charted.play options.lines.now c.loop-line.line-index line (omega arith) c.line-item.is)
          (rw same at further) (rw same at drawn);
    }

pub returns : goal.returns
returns g c =
    let m = g.M.Machine in
    let options = c.args.scene.now.options.now in
    let opening = opening_cluster options.config c.args.program in
    let s = run_setting m.next m.answers m.begin m.image opening options in
    let d = drawn_run m.next m.answers m.begin m.image opening c.args.scene.now in
    let most = options.most in
    let lines = options.lines.now in
    let walk = c.loop-line.walk in
    let so_far = c.loop-line.invariant.so_far in
    let done = ends walk.cluster.world walk.settled None None (script_said s most (opening_play s) lines) (λ (p : Play). script_said s most p (drop c.loop-line.line-index lines)) so_far tt
    (no_line s most so_far.said.play lines c.loop-line.line-index (omega arith)) in
    let setting = same_setting m.next m.answers m.begin opening walk.cluster c.loop-line.invariant.setup in
    let happened = script_happens d most lines in
    let lanes = map lane_text c.args.scene.now.lanes.now in
    let drawn = chart_ends m.next m.answers m.begin walk.cluster walk.settled walk.chart happened (λ (p : Play). lines_happen d most p (drop c.loop-line.line-index lines)) c.loop-line.invariant.charted
    (none_left d most c.loop-line.invariant.charted.play lines c.loop-line.line-index (omega arith)) in
    let charted = subst (λ (t : Setting _). IsSketchOf t walk.chart.stage walk.chart.sketch happened walk.cluster.world) setting drawn in
    record {
      drawing = IfOk-weaker c.draw_as.result _ _
          (λ page drawn. subst (λ (w : World). IsDrawnAs c.args.scene.now.form s.setting c.args.scene.now.stage lanes happened w (option_map string_bytes page)) done.0.world_is
          (subst (λ (stage : Stage). IsDrawnAs c.args.scene.now.form s.setting stage lanes happened walk.cluster.world (option_map string_bytes page)) c.loop-line.invariant.stage drawn))
          (c.draw_as.ensures.drawn s.setting happened walk.cluster.world charted);
    }
