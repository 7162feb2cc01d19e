use Rattle.rp_installations.proofs.PendingItems.{begins, goes_on}
use Rattle.rp_installations.proofs.countable.what_is_pending_can_count.Goals as goal

pub returns-clause-opened : goal.returns-clause-opened
returns-clause-opened g c = λ me config begin bytes node records kept opened. let m = g.M.Machine in begins m.next m.answers me config begin bytes node records kept opened

pub returns-clause-stays : goal.returns-clause-stays
returns-clause-stays g c = λ asked old new before after result a were. let m = g.M.Machine in goes_on m.next m.answers m.image asked old new before after result a were
