use Rattle.rp_store.proofs.Whole.{before_put, after_put}
use Rattle.rp_store.proofs.laws.stop_inside_put.Goals as goal

pub returns-clause-before : goal.returns-clause-before
returns-clause-before c = before_put

pub returns-clause-after : goal.returns-clause-after
returns-clause-after c = after_put
