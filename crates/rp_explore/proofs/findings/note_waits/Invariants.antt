use Rattle.rp_machine.specs.Asked.{waits}
use Rattle.rp_machine.specs.Numbered.{outcome}
use Rattle.rp_explore.proofs.WaitLemmas.{AreNoted}
use Rattle.rp_explore.proofs.findings.note_waits.Given as goal

-- the tasks so far were noted
abbrev pub invariant-loop-index : goal.invariant-loop-index
invariant-loop-index g l =
    let m = g.M.Machine in
    let r = outcome m.next m.answers l.state in
    AreNoted (λ task. waits task r.kept r.given) l.place l.fn.stuck l.stuck l.index
