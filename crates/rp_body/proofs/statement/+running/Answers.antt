-- The arm that the code runs is the one of the condition's truth, and what is left to do gives what
-- the whole body does.
use Rattle.std.proofs.Common.{◌∙◌, FitsSigned, w64, to_z, rules}
use Rattle.rp_body.proofs.Effects.{Ran, ran_first, ran_second}
use Rattle.rp_body.proofs.Sequence.{Reached, ended, raised, goes_on, rest_fits}
use Rattle.rp_body.proofs.statement.+running.Goals as goal

pub Stmt::run-returns-then-holds-clause-effect : goal.Stmt::run-returns-then-holds-clause-effect
Stmt::run-returns-then-holds-clause-effect t c =
    let r : Ran c.args.arg c.args.out c.args.self.now c.args.components.now c.in-If.cond c.in-If.first c.in-If.second c.holds.result c.deref.result.now (c.run_from.new.components, c.run_from.result) = record {
      arg_fits = c.ranges.arg;
      out_fits = c.ranges.out;
      is_if = c.in-If.is;
      tested = c.holds.ensures;
      run = c.run_from.ensures.effect;
    } in
    ran_first r c.if-holds.true c.deref.ensures.value

pub Stmt::run-returns-else-holds-clause-effect : goal.Stmt::run-returns-else-holds-clause-effect
Stmt::run-returns-else-holds-clause-effect t c =
    let r : Ran c.args.arg c.args.out c.args.self.now c.args.components.now c.in-If.cond c.in-If.first c.in-If.second c.holds.result c.deref-else-holds.result.now (c.run_from-else-holds.new.components, c.run_from-else-holds.result) = record {
      arg_fits = c.ranges.arg;
      out_fits = c.ranges.out;
      is_if = c.in-If.is;
      tested = c.holds.ensures;
      run = c.run_from-else-holds.ensures.effect;
    } in
    ran_second r c.if-holds.false c.deref-else-holds.ensures.value

pub run_from-returns-clause-effect : goal.run_from-returns-clause-effect
run_from-returns-clause-effect t c =
    let r : Reached c.args.arg c.args.start c.args.body.now c.args.components.now c.loop-statement.statement-index c.loop-statement.components (to_z w64 c.loop-statement.out-bits) = record {
      arg_fits = c.ranges.arg;
      start_fits = c.ranges.start;
      so_far = c.loop-statement.invariant.0;
    } in
    ended r c.loop-statement-test.false

pub run_from-returns-in-Raised-clause-effect : goal.run_from-returns-in-Raised-clause-effect
run_from-returns-in-Raised-clause-effect t c =
    let r : Reached c.args.arg c.args.start c.args.body.now c.args.components.now c.loop-statement.statement-index c.loop-statement.components (to_z w64 c.loop-statement.out-bits) = record {
      arg_fits = c.ranges.arg;
      start_fits = c.ranges.start;
      so_far = c.loop-statement.invariant.0;
    } in
    raised r c.statement-item.result c.run.new.components c.run.result c.loop-statement-test.true c.statement-item.is c.run.ensures.effect c.in-Raised.is

pub run_from-loop-statement-preserved : goal.run_from-loop-statement-preserved
run_from-loop-statement-preserved t c =
    let r : Reached c.args.arg c.args.start c.args.body.now c.args.components.now c.loop-statement.statement-index c.loop-statement.components (to_z w64 c.loop-statement.out-bits) = record {
      arg_fits = c.ranges.arg;
      start_fits = c.ranges.start;
      so_far = c.loop-statement.invariant.0;
    } in
    let fits : FitsSigned w64 c.in-Out.next = search rules in (
      goes_on r c.statement-item.result c.run.new.components c.run.result c.loop-statement-test.true c.statement-item.is c.run.ensures.effect c.in-Out.next fits c.in-Out.is,
      c.run.ensures.counts ∙ c.loop-statement.invariant.1,
      rest_fits _ c.args.body.now c.loop-statement.statement-index c.statement-item.result c.loop-statement-test.true c.loop-statement.invariant.2,
    )
