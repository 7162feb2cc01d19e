-- By the calls that are answered.
use Rattle.rp_machine.proofs.Applying.{accounted}
use Rattle.rp_machine.proofs.Few.{few_answers}
use Rattle.rp_machine.proofs.few_answers.answers_are_few.Goals as goal

pub returns : goal.returns
returns g c =
    let m = g.M.Machine in
    let laws = c.laws.ensures in
    λ program actions right.
    let account = accounted m.next m.answers m.waiting m.begin m.runs laws.none_waits laws.starts laws.keeps laws.accounts program actions right in
    few_answers m.next m.answers (m.begin program) actions account.once account.known
