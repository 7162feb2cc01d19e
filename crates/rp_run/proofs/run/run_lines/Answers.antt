-- One line more, or the end.
use Rattle.std.proofs.Common.{◌∙◌, drop, arith, ap}
use Rattle.rp_output.specs.Faults.{IsRunFault}
use Rattle.rp_run.specs.Output.{Play, opening_play, script_said}
use Rattle.rp_run.specs.Runs.{opening_cluster, run_setting}
use Rattle.rp_run.proofs.RunParts.{sets_out, ends, no_line, line_goes_on, line_fails}
use Rattle.rp_run.proofs.Stepping.{faulted, same_run_setting, opening_parts, never_rises}
use Rattle.rp_output.proofs.Writing.{writes_nothing, writes_failed}
use Rattle.rp_run.proofs.run.run_lines.Goals as goal

pub returns-in_err-new-clause-output : goal.returns-in_err-new-clause-output
returns-in_err-new-clause-output g c = writes_nothing _ _ c.from_residual.result c.from_residual.ensures.0

pub loop-line-init : goal.loop-line-init
loop-line-init g c =
    let m = g.M.Machine in
    let options = c.args.options.now in
    let s = run_setting m.next m.answers m.begin m.image (opening_cluster options.config c.args.program) options in
    let cluster = c.in_ok-new.field-0 in
    let opened = c.in_ok-new.ensures.opened in
    record {
      parts = opening_parts options.config.nodes cluster (ap (λ k. k.setup.config.nodes) opened) (ap (λ k. k.world) opened);
      setup = ap (λ k. k.setup) opened;
      so_far = sets_out cluster.world c.new-2.result (g.W.Write.contents c.args.writer.now) (opening_play s) (λ (now : Play). script_said s options.most now options.lines.now)
          (record { world_is = ap (λ k. k.world) opened; settled_are = c.new-2.ensures });
    }

pub returns-in_err-taken-clause-output : goal.returns-in_err-taken-clause-output
returns-in_err-taken-clause-output g c =
    let m = g.M.Machine in
    let options = c.args.options.now in
    let s = run_setting m.next m.answers m.begin m.image (opening_cluster options.config c.args.program) options in
    let so_far = c.loop-line.invariant.so_far in
    let same = same_run_setting m.next m.answers m.begin m.image options (opening_cluster options.config c.args.program) c.loop-line.run.cluster c.loop-line.invariant.setup in
    let said = c.in_err-taken.ensures.printed so_far.said.play so_far.follows in
    writes_failed _ _ _ c.from_residual-in_err-taken.result c.from_residual-in_err-taken.ensures.0
    (line_fails s options.most options.lines.now c.loop-line.line-index c.line-item.result (omega arith) c.line-item.is so_far (rw same at said))

pub returns-in_err-taken-clause-fault : goal.returns-in_err-taken-clause-fault
returns-in_err-taken-clause-fault g c =
    faulted IsRunFault _ c.from_residual-in_err-taken.result c.from_residual-in_err-taken.ensures.1
    (never_rises c.loop-line.run.cluster.failures c.take-taken.new.self.cluster.failures _ c.never_failed.ensures c.in_err-taken.ensures.fault)

pub loop-line-preserved : goal.loop-line-preserved
loop-line-preserved g c =
    let m = g.M.Machine in
    let options = c.args.options.now in
    let opening = opening_cluster options.config c.args.program in
    let s = run_setting m.next m.answers m.begin m.image opening options in
    let so_far = c.loop-line.invariant.so_far in
    let same = same_run_setting m.next m.answers m.begin m.image options opening c.loop-line.run.cluster c.loop-line.invariant.setup in
    let said = c.in_ok-taken.ensures.printed so_far.said.play so_far.follows in
    let resulted = rw same at said in
    record {
      parts = c.in_ok-taken.ensures.parts;
      setup = c.take-taken.ensures.setup ∙ c.loop-line.invariant.setup;
      so_far = line_goes_on s options.most options.lines.now c.loop-line.line-index c.line-item.result (omega arith) c.line-item.is so_far resulted.0 resulted.1;
    }

pub returns-clause-output : goal.returns-clause-output
returns-clause-output g c =
    let m = g.M.Machine in
    let options = c.args.options.now in
    let s = run_setting m.next m.answers m.begin m.image (opening_cluster options.config c.args.program) options in
    let lines = options.lines.now in
    let run = c.loop-line.run in
    let so_far = c.loop-line.invariant.so_far in
    (ends run.cluster.world run.settled (g.W.Write.contents c.args.writer.now) (g.W.Write.contents c.loop-line.writer)
    (script_said s options.most (opening_play s) lines) (λ (p : Play). script_said s options.most p (drop c.loop-line.line-index lines)) so_far tt
    (no_line s options.most so_far.said.play lines c.loop-line.line-index (omega arith))).1
