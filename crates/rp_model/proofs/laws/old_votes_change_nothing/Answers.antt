-- By the cases of the input.
use Rattle.rp_model.proofs.Forgetting.{changes_nothing}
use Rattle.rp_model.proofs.laws.old_votes_change_nothing.Goals as goal

pub returns : goal.returns
returns g c = λ setting me records one other input alike. changes_nothing c.one_more_record.ensures.learned records setting me one other input alike
