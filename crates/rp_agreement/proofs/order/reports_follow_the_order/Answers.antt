use Rattle.std.proofs.Common.{List, sym, subst}
use Rattle.rp_base.specs.Records.{applied_of}
use Rattle.rp_base.specs.declared.action.Action.{Action}
use Rattle.rp_agreement.specs.Sound.{IsReported}
use Rattle.rp_agreement.proofs.Ordering.{decided_begins, applied_decided}
use Rattle.rp_agreement.proofs.Sending.{reported_more}
use Rattle.rp_agreement.proofs.order.reports_follow_the_order.Goals as goal

pub returns : goal.returns
returns c = λ nodes node sent sound order is x first applied actions stated.
    let all = applied_of (node x).records in
    let begins = decided_begins sound all order (applied_decided sound x) is in
    subst (λ (list : List Action). IsReported list first applied actions) (sym begins.1) (reported_more all begins.0 first applied actions (sound.says _ stated.1).1)
