use Rattle.rp_bind.specs.Names.{is_among_in_any_case, is_reserved}
use Rattle.rp_bind.proofs.names.is_reserved.Goals as goal

pub returns : goal.returns
unfolding is_reserved is_among_in_any_case
returns c = c.is_word_among.ensures
