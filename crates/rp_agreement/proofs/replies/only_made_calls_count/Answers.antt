-- What counts of a task's calls is what it made.
use Rattle.rp_machine.specs.Replay.{counted_of}
use Rattle.rp_agreement.specs.Answered.{named}
use Rattle.rp_agreement.specs.Computed.{order_of}
use Rattle.rp_agreement.proofs.OnlyMade.{place_kept, counted_made}
use Rattle.rp_agreement.proofs.replies.only_made_calls_count.Goals as goal

pub returns : goal.returns
returns g c =
    let m = g.M.Machine in
    λ config program node task sent kept t n place at.
    let order = order_of config.nodes sent in
    counted_made sent t (task t) (counted_of m.next m.answers (m.begin program) order) (c.calls_count_in_order.ensures config program node task sent kept t) n at.action at.is_call
    (place_kept m.next m.answers (m.begin program) order (named t n) place at)
