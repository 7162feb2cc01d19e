use Rattle.std.proofs.Common.{◌≡◌, ◌-◌, ◌<◌, Option, Some, length, refl, ap, sym, subst, arith, ◌∙◌}
use Rattle.std.specs.Prelude.{slice_get, slice_set}
use Rattle.std.proofs.lemmas.Option.{slice_get_read}
use Rattle.rp_drawing.specs.Ways.{ended_ways, is_end_drawn, is_way_drawn, IsEndingWithin}
use Rattle.rp_drawing.specs.declared.sketch.Arrival.{Arrival}
use Rattle.rp_drawing.specs.declared.sketch.Ending.{Ending}
use Rattle.rp_drawing.proofs.WayLemmas.{set_ends}
use Rattle.rp_drawing.proofs.sketch.Sketch.end.Goals as goal

pub returns-clause-ways : goal.returns-clause-ways
returns-clause-ways c =
    let ways = c.args.self.now.ways.items in
    let place = c.in-Some.ending.message - 1 in
    let way = c.index-way.result.now in
    let within = subst (IsEndingWithin (length ways)) c.in-Some.is c.requires in
    let below : place < length ways = omega (arith, within.0, within.1) in
    let there : slice_get ways place ≡ Some way = slice_get_read ways (length ways) place way refl below c.index-way.ensures in
    let arrival : Arrival = record { moment = c.args.moment; line = c.args.line; end = c.in-Some.ending.end } in
    ap (λ (a : Arrival). slice_set ways place (record way { ended = Some a })) c.unwrap_or.ensures
    ∙ set_ends ways place way arrival there
    ∙ ap (λ (o : Option Ending). ended_ways ways o c.args.moment c.args.line) (sym c.in-Some.is)

pub returns-clause-drawn : goal.returns-clause-drawn
returns-clause-drawn c =
    let ways = c.args.self.now.ways.items in
    let place = c.in-Some.ending.message - 1 in
    let way = c.index-way.result.now in
    let within = subst (IsEndingWithin (length ways)) c.in-Some.is c.requires in
    let below : place < length ways = omega (arith, within.0, within.1) in
    let there : slice_get ways place ≡ Some way = slice_get_read ways (length ways) place way refl below c.index-way.ensures in
    ap is_way_drawn (sym there) ∙ ap (λ (o : Option Ending). is_end_drawn ways o) (sym c.in-Some.is)
