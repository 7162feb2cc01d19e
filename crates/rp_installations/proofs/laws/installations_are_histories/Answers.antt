use Rattle.rp_agreement.specs.Answered.{setting_for}
use Rattle.rp_installations.proofs.Following.{from_nothing, moves_on}
use Rattle.rp_installations.proofs.Agreeing.{agree_later}
use Rattle.rp_installations.proofs.Opened.{moves_keep, none_yet}
use Rattle.rp_installations.proofs.Ordering.{order_now}
use Rattle.rp_installations.specs.Sites.{nothing_opened}
use Rattle.rp_installations.proofs.laws.installations_are_histories.Goals as goal

pub returns-clause-history : goal.returns-clause-history
returns-clause-history g c = λ config program moves after right all.
    let m = g.M.Machine in
    let s = setting_for m.next m.answers m.begin config program in
    from_nothing s (c.histories_keep_ranges.ensures config program) m.image right moves after all

pub returns-clause-longer : goal.returns-clause-longer
returns-clause-longer g c = λ config program events world now later moves history behind all.
    let m = g.M.Machine in
    let s = setting_for m.next m.answers m.begin config program in
    moves_on s (c.histories_keep_ranges.ensures config program) m.image moves events world now later history behind all

pub returns-clause-agree : goal.returns-clause-agree
returns-clause-agree g c = λ config program moves more now later x y site other_site one other right first all kept other_kept synced.
    let m = g.M.Machine in
    let s = setting_for m.next m.answers m.begin config program in
    let ranged = c.histories_keep_ranges.ensures config program in
    agree_later s ranged m.image (c.histories_are_ordered.ensures.agree config program) now (from_nothing s ranged m.image right moves now first)
    (moves_keep m.next m.answers m.image config (m.begin program) (nothing_opened config.nodes) moves now (none_yet m.next m.answers m.image config (m.begin program)) first) more later all x y site other_site one other kept other_kept synced

pub returns-clause-ordered : goal.returns-clause-ordered
returns-clause-ordered g c = λ config program moves now right all.
    let m = g.M.Machine in
    let s = setting_for m.next m.answers m.begin config program in
    let ranged = c.histories_keep_ranges.ensures config program in
    order_now s ranged (c.histories_are_ordered.ensures.ordered config program) (c.histories_are_ordered.ensures.noted config program) now (from_nothing s ranged m.image right moves now all)
