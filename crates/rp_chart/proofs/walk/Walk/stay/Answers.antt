-- Nothing happens in the moment, or a message is lost.
use Rattle.std.proofs.Common.{ℕ, length, sym, subst}
use Rattle.rp_history.specs.rp_drawing.specs.Ways.{IsEndingWithin}
use Rattle.rp_history.specs.Histories.{lost_of}
use Rattle.rp_world.specs.rp_actors.specs.Steps.{cluster_setting}
use Rattle.rp_chart.proofs.Charting.{has_ways}
use Rattle.rp_chart.proofs.walk.Walk.stay.Goals as goal

pub stay-requires-clause-lost : goal.stay-requires-clause-lost
stay-requires-clause-lost g c =
    subst (λ (n : ℕ). IsEndingWithin n (lost_of c.args.lost)) (sym c.requires.ways.count) c.requires.lost

pub returns-clause-ways : goal.returns-clause-ways
returns-clause-ways g c =
    has_ways c.args.self.now.cluster c.stay.new.self c.stay.result (length c.args.self.now.chart.sketch.ways.items)
    c.stay.ensures.drawable c.stay.ensures.count c.requires.ways.count

pub returns-clause-charted : goal.returns-clause-charted
returns-clause-charted g c = λ happened charted.
    let m = g.M.Machine in
    let cluster = c.args.self.now.cluster in
    c.stay.ensures.stays (cluster_setting m.next m.answers m.begin cluster) happened cluster.world charted
