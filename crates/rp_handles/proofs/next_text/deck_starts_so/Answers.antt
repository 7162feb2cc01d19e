-- The image is that of the program that was matched, at the time that it shows.
use Rattle.std.proofs.lemmas.Result.{IfOk-weaker}
use Rattle.rp_handles.proofs.next_text.deck_starts_so.Goals as goal

pub returns-clause-shows : goal.returns-clause-shows
returns-clause-shows c = IfOk-weaker c.shows.result _ _ (λ is shows so. (c.in-Objects.program, c.in-Objects.is, (c.clock_shown.result, shows so))) c.shows.ensures
