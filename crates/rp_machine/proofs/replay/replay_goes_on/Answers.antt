-- By induction on the actions.
use Rattle.rp_machine.specs.Replay.{unmoved}
use Rattle.rp_machine.proofs.Replaying.{replay_from-append, goes_on_from}
use Rattle.rp_machine.proofs.replay.replay_goes_on.Goals as goal

pub returns-clause-from : goal.returns-clause-from
returns-clause-from g c = λ begin actions more. replay_from-append g.M.Machine.next g.M.Machine.answers (unmoved begin) actions more

pub returns-clause-on : goal.returns-clause-on
returns-clause-on g c = λ before more. goes_on_from g.M.Machine.next g.M.Machine.answers before more
