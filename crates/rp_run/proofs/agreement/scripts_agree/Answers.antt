-- A script's lines are events one after another.
use Rattle.std.proofs.Common.{ℕ, suc, List, ◌≤◌, arith, length, take, subst}
use Rattle.std.proofs.Math.Seq.{take-length}
use Rattle.rp_base.specs.Records.{applied_of}
use Rattle.rp_run.specs.Agreeing.{IsPrinted, RunIsPrinted, items_after, world_after}
use Rattle.rp_run.specs.Runs.{run_setting, opening_cluster}
use Rattle.rp_run.proofs.Histories.{run_is_history, run_has_moments, noted_in}
use Rattle.rp_run.specs.Output.{opening_play}
use Rattle.rp_run.proofs.Printing.{run_is_printed}
use Rattle.rp_run.proofs.Showing.{lines_show}
use Rattle.rp_run.proofs.agreement.scripts_agree.Goals as goal
use Rattle.rp_deck.specs.declared.deck.Line.{Line}

pub returns-clause-agrees : goal.returns-clause-agrees
returns-clause-agrees g c = λ program.
    let m = g.M.Machine in
    let options = c.args.options.now in
    let config = options.config in
    let s = run_setting m.next m.answers m.begin m.image (opening_cluster config program) options in
    let lines = options.lines.now in
    let right = c.lines_keep_ranges.ensures in
    let laws = c.histories_are_ordered.ensures in
    let printed : (i : ℕ) → IsPrinted s (world_after s options.most lines i) (items_after s options.most lines i) = λ i.
    let history = run_is_history s options.right options.most lines right i in
    let world = world_after s options.most lines i in
    run_is_printed s options.most (take i lines) options.right (laws.ordered config program history.0 world history.1) (c.records_stay_in_the_log.ensures.applied s.setting history.0 world history.1) in
    record {
      agree = λ i j up. laws.agree config program (world_after s options.most lines i) (world_after s options.most lines j) (run_has_moments s options.right options.most lines right i j up);
      printed = printed;
      noted = λ i k v at.
          let history = run_is_history s options.right options.most lines right i in
          noted_in history.0 (take i lines) history.2 v (laws.noted config program history.0 (world_after s options.most lines i) history.1 (suc k) v ((printed i).ordered.decided.decided k v at));
      shows = λ i.
          let history = run_is_history s options.right options.most lines right i in
          let world = world_after s options.most lines i in
          let few = options.right.positions.1 in
          lines_show s options.most (opening_play s) lines i (λ node part there.
          let within : length (applied_of part.records) ≤ config.max_positions = c.records_stay_in_the_log.ensures.applied s.setting history.0 world history.1 node part there in
          omega (arith, within, few));
    }

pub returns-clause-printed : goal.returns-clause-printed
returns-clause-printed g c = λ program.
    let m = g.M.Machine in
    let options = c.args.options.now in
    let config = options.config in
    let s = run_setting m.next m.answers m.begin m.image (opening_cluster config program) options in
    let lines = options.lines.now in
    let all = length lines in
    let history = run_is_history s options.right options.most lines c.lines_keep_ranges.ensures all in
    let world = world_after s options.most lines all in
    subst (λ (list : List Line). RunIsPrinted s options.most list) (take-length lines)
    (run_is_printed s options.most (take all lines) options.right (c.histories_are_ordered.ensures.ordered config program history.0 world history.1) (c.records_stay_in_the_log.ensures.applied s.setting history.0 world history.1))
