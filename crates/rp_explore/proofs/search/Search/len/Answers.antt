-- Equal states would have equal keys.
use Rattle.std.proofs.Common.{subst}
use Rattle.rp_explore.specs.Listed.{AreGuarded, AreDistinct}
use Rattle.rp_explore.specs.Searched.{Searched}
use Rattle.rp_explore.proofs.TableLemmas.{distinct_orders}
use Rattle.rp_explore.proofs.search.Search.len.Goals as goal

pub returns-clause-distinct : goal.returns-clause-distinct
returns-clause-distinct g c =
    let m = g.M.Machine in
    let inside = c.self.inside in
    subst (λ (v : Searched _). AreDistinct m.next m.answers v.begin v.guards v.listed.orders) c.self.view_is
    (distinct_orders m.next m.answers (m.begin inside.program.now) inside.guards.now m.image inside.known.pieces inside.known.keys.keys inside.tree.orders c.len-lines.ensures c.self.invariant.0 c.len-count.ensures.unique)

pub returns-clause-guarded : goal.returns-clause-guarded
returns-clause-guarded g c =
    let m = g.M.Machine in
    subst (λ (v : Searched _). AreGuarded m.next m.answers v.begin v.guards v.listed.orders) c.self.view_is c.self.invariant.1
