-- By induction on the actions.
use Rattle.rp_machine.proofs.Numbering.{counts_once}
use Rattle.rp_machine.proofs.numbered.calls_count_once.Goals as goal

pub returns : goal.returns
returns g c = λ begin actions. counts_once g.M.Machine.next g.M.Machine.answers begin actions
