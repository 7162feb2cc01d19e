-- One task more.
use Rattle.std.proofs.Common.{refl, sym, ◌∙◌, arith, true≢false}
use Rattle.rp_machine.specs.Asked.{waits}
use Rattle.rp_machine.specs.Numbered.{outcome}
use Rattle.rp_explore.proofs.WaitLemmas.{note_more}
use Rattle.rp_explore.proofs.findings.note_waits.Goals as goal
use Rattle.rp_explore.proofs.findings.note_waits.Goals.{in-Some, in_default}

pub loop-index-init : goal.loop-index-init
loop-index-init g c = record { size = omega arith; done = λ task low high. absurd (omega arith); rest = λ task above. refl }

pub loop-index-preserved : goal.loop-index-preserved
loop-index-preserved g c =
    let m = g.M.Machine in
    let r = outcome m.next m.answers c.args.state.now in
    elim c.match-new.branch [
      | in-Some w ↦ note_more (λ task. waits task r.kept r.given) c.args.place c.args.stuck.now c.loop-index.stuck c.match-new.stuck c.loop-index.index w.in-Some.task c.loop-index.invariant c.loop-index-test.true w.in-Some.ensures.value (w.stuck-is ∙ w.note_wait.ensures)
      | in_default w ↦ absurd (true≢false (sym (w.in_default.ensures.valid.1 (omega arith, omega (arith, c.loop-index-test.true)))))
    ]

pub returns : goal.returns
returns g c = λ task is. c.loop-index.invariant.done task is.0 (omega (arith, is.1, c.loop-index-test.false))
