use Rattle.rp_replica.proofs.Restarting.{opened_part, opened_count}
use Rattle.rp_replica.proofs.laws.opening_is_a_restart.Goals as goal

pub returns-clause-part : goal.returns-clause-part
returns-clause-part g c = λ me config begin disk replica count cut_bytes part h stopped o. opened_part me config begin disk replica count cut_bytes part h stopped o

pub returns-clause-count : goal.returns-clause-count
returns-clause-count g c = λ me config begin disk replica count cut_bytes part h o. opened_count me config begin disk replica count cut_bytes part h o
