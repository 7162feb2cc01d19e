-- By whether the fault is a refusal.
use Rattle.std.proofs.Common.{◌≡◌, ◌≤◌, true}
use Rattle.rp_base.specs.Fault.{code_of}
use Rattle.rp_output.proofs.Writing.{begins_nothing}
use Rattle.rp_run.specs.Runs.{run_setting}
use Rattle.rp_run.proofs.GoingOn.{refused_on, failed_on}
use Rattle.rp_run.proofs.RunParts.{was_refused}
use Rattle.rp_run.proofs.Stepping.{refused_of}
use Rattle.rp_run.proofs.run.Run.report_refusal.Goals as goal

pub returns-then-is_refusal-clause-goes_on : goal.returns-then-is_refusal-clause-goes_on
returns-then-is_refusal-clause-goes_on g c = λ nodes before event parts fits step.
    let m = g.M.Machine in
    let numbered : 5 ≤ code_of c.args.fault = (c.is_refusal.ensures.0 c.if-is_refusal.true).0 in
    refused_on m.next m.answers m.begin nodes before c.args.self.now.cluster event parts fits c.args.fault c.print.result step numbered c.print.ensures.fault

pub returns-then-is_refusal-clause-printed : goal.returns-then-is_refusal-clause-printed
returns-then-is_refusal-clause-printed g c = λ options before event play step follows.
    let m = g.M.Machine in
    let cluster = c.args.self.now.cluster in
    let s = run_setting m.next m.answers m.begin m.image before options in
    let numbered : 5 ≤ code_of c.args.fault = (c.is_refusal.ensures.0 c.if-is_refusal.true).0 in
    was_refused s c.args.line play event before.world c.args.self.now.settled follows cluster.world c.args.fault _ _ c.print.result
    (refused_of s.setting before.world cluster.world event c.args.fault step.world numbered) c.print.ensures.printed

pub returns-clause-goes_on : goal.returns-clause-goes_on
returns-clause-goes_on g c = λ nodes before event parts fits step.
    let m = g.M.Machine in
    failed_on m.next m.answers m.begin nodes before c.args.self.now.cluster event parts fits c.args.fault step
    (λ numbered.
    let is : c.is_refusal.result ≡ true = c.is_refusal.ensures.1 numbered in
    absurd (cc (is, c.if-is_refusal.false)))

pub returns-clause-printed : goal.returns-clause-printed
returns-clause-printed g c = λ options before event play step follows. begins_nothing _ _
