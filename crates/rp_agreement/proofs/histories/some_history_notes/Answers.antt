-- By computing the result of each event.
use Rattle.rp_agreement.proofs.PlayedNotes.{notes_a_tick, notes_an_interrupt}
use Rattle.rp_agreement.proofs.histories.some_history_notes.Goals as goal

pub returns-clause-tick : goal.returns-clause-tick
returns-clause-tick g c = λ begin. notes_a_tick g.M.Machine.next g.M.Machine.answers begin

pub returns-clause-interrupt : goal.returns-clause-interrupt
returns-clause-interrupt g c = λ begin. notes_an_interrupt g.M.Machine.next g.M.Machine.answers begin
