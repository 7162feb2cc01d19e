use Rattle.rp_base.specs.Records.{applied_of}
use Rattle.rp_agreement.proofs.Ordering.{decided_begins, applied_decided}
use Rattle.rp_agreement.proofs.order.applied_lists_are_prefixes.Goals as goal

pub returns : goal.returns
returns c = λ nodes node sent sound order is x. decided_begins sound (applied_of (node x).records) order (applied_decided sound x) is
