use Rattle.rp_world.specs.rp_replica.specs.Inputs.{effect_if_given}
use Rattle.rp_requests.specs.Nodes.{is_at_end}
use Rattle.rp_requests.specs.Timing.{comes_early, comes_late}
use Rattle.rp_installations.proofs.NodeAnswers.{step_gives, last_gives}
use Rattle.rp_installations.proofs.laws.answers_give_the_step.Goals as goal

pub returns-clause-step : goal.returns-clause-step
returns-clause-step g c = λ input old new before after lengths a. let m = g.M.Machine in step_gives (comes_early m.next m.answers old.replica input) (effect_if_given m.next m.answers old.replica input) (is_at_end old.replica input) (comes_late m.next m.answers old.replica input) old new before after lengths a

pub returns-clause-last : goal.returns-clause-last
returns-clause-last g c = λ old new before after lengths a. last_gives old new before after lengths a.0 a.1
