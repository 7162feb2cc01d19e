-- By the walk over the events, which keeps each number within its range.
use Rattle.rp_agreement.specs.Answered.{setting_for}
use Rattle.rp_installations.proofs.Stepping.{steps_stay, made}
use Rattle.rp_installations.proofs.Stopping.{stopped}
use Rattle.rp_installations.proofs.pending_steps.pending_steps_become_events.Goals as goal

pub returns-clause-stay : goal.returns-clause-stay
returns-clause-stay g c = λ s sent later me part steps all are. steps_stay s sent later me part steps all are

pub returns-clause-made : goal.returns-clause-made
returns-clause-made g c = λ config program events w me part front back history here are.
    let m = g.M.Machine in
    let s = setting_for m.next m.answers m.begin config program in
    made s (c.histories_keep_ranges.ensures config program) front back events w me part history here are

pub returns-clause-stopped : goal.returns-clause-stopped
returns-clause-stopped g c = λ config program events w me part steps bytes left rest history here untorn texts are e.
    let m = g.M.Machine in
    let s = setting_for m.next m.answers m.begin config program in
    stopped s (c.histories_keep_ranges.ensures config program) events w me part steps bytes left rest history here untorn texts are e
