-- By induction on the actions, with the laws of the machine.
use Rattle.rp_machine.proofs.Replying.{replies_fit}
use Rattle.rp_machine.proofs.replay.replies_fit.Goals as goal

pub returns : goal.returns
returns g c =
    let m = g.M.Machine in
    let laws = c.laws.ensures in
    replies_fit m.next m.answers m.waiting m.begin m.runs laws.none_waits laws.starts laws.keeps laws.accounts laws.replies
