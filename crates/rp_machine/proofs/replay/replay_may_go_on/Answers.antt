-- By induction on the actions, with the laws of the machine.
use Rattle.rp_machine.specs.Replay.{replay_of}
use Rattle.rp_machine.proofs.Applying.{accounted, may_apply}
use Rattle.rp_machine.proofs.replay.replay_may_go_on.Goals as goal

pub returns-clause-runs : goal.returns-clause-runs
returns-clause-runs g c =
    let m = g.M.Machine in
    let laws = c.laws.ensures in
    λ program actions right. (accounted m.next m.answers m.waiting m.begin m.runs laws.none_waits laws.starts laws.keeps laws.accounts program actions right).inside

pub returns-clause-may : goal.returns-clause-may
returns-clause-may g c =
    let m = g.M.Machine in
    let laws = c.laws.ensures in
    λ program actions further right counting.
    may_apply m.next m.answers m.waiting m.begin m.runs laws.none_waits laws.starts laws.keeps laws.accounts program (replay_of m.next m.answers (m.begin program) actions) further
    (accounted m.next m.answers m.waiting m.begin m.runs laws.none_waits laws.starts laws.keeps laws.accounts program actions right) counting
