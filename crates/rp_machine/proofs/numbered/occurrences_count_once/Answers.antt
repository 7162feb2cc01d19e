-- By induction on the actions.
use Rattle.rp_machine.proofs.Numbering.{occurs_once}
use Rattle.rp_machine.proofs.numbered.occurrences_count_once.Goals as goal

pub returns : goal.returns
returns g c = λ begin actions source. occurs_once g.M.Machine.next g.M.Machine.answers begin actions source
