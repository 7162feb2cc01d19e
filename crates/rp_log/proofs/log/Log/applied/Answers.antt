use Rattle.std.proofs.Common.{subst}
use Rattle.rp_log.specs.Contents.{Contents, IsTakenInOrder}
use Rattle.rp_log.proofs.Views.{in_order}
use Rattle.rp_log.proofs.log.Log.applied.Goals as goal

pub returns-clause-in_order : goal.returns-clause-in_order
returns-clause-in_order c =
    subst (λ (log : Contents). IsTakenInOrder log) c.self.view_is
    (in_order c.self.inside.front.items c.self.inside.next_reserved c.self.inside.ahead.entries c.self.inside.taken c.self.invariant.taken_within)
