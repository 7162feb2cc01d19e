use Rattle.rp_tasks.proofs.Taken.{accepted_took, picked_took, released_took}
use Rattle.rp_tasks.proofs.line.gives_what_it_took.Goals as goal

pub returns-clause-accepted : goal.returns-clause-accepted
returns-clause-accepted c word packet text line h = accepted_took word packet text line h

pub returns-clause-picked : goal.returns-clause-picked
returns-clause-picked c word text line e = picked_took word text line e

pub returns-clause-released : goal.returns-clause-released
returns-clause-released c word text line h = released_took word text line h
