-- The drawing of a sketch.
use Rattle.std.specs.Prelude.{◌≡◌, ℕ, ◌+◌, ◌-◌, ◌*◌, ◌/◌, ◌≤◌, nat_eq, Option, Some, None, List, []}
use Rattle.std.specs.Prelude.{◌∷◌, ◌++◌, codes, flat_map, length, if◌then◌else◌}
use Rattle.std.specs.List.{sum_by}
use Rattle.rp_drawing.specs.Elements.{curve_text}
use Rattle.rp_drawing.specs.Legend.{legend_text}
use Rattle.rp_drawing.specs.Lines.{head_text, lanes_text, names_text, row_bytes, row_text}
use Rattle.rp_drawing.specs.Pages.{arrival_y, departure_y, lane_x, line_y}
use Rattle.rp_drawing.specs.Stops.{stops_text}
use Rattle.rp_drawing.specs.declared.drawing.Lane.{Lane}
use Rattle.rp_drawing.specs.declared.elements.Curve.{Curve}
use Rattle.rp_drawing.specs.declared.sketch.Arrival.{Arrival}
use Rattle.rp_drawing.specs.declared.sketch.End.{End}
use Rattle.rp_drawing.specs.declared.sketch.End.TheVariants.{Taken, Unheard, Lost}
use Rattle.rp_drawing.specs.declared.sketch.Sketch.{Sketch}
use Rattle.rp_drawing.specs.declared.sketch.Way.{Way}

-- what a way looks like by how it ends
abbrev pub end_kind : End → ℕ
end_kind Taken = 0
end_kind Unheard = 1
end_kind Lost = 2

-- a curve of this colour and kind from one place to another: a straight one, or one that leaves its
-- lane to the left and comes back
abbrev pub curve_between : ℕ → ℕ → ℕ → ℕ → ℕ → ℕ → ℕ → Curve
curve_between colour kind x to_x y end_x end_y = record {
  look = record { colour = colour; kind = kind };
  from = record { x = x; y = y };
  by = record { x = if nat_eq x to_x then x - 24 else (x + end_x) / 2; y = (y + end_y) / 2 };
  to = record { x = end_x; y = end_y };
}

-- A way begins on the lane of its packet's sender, in the line of the moment that sent it, and ends
-- on the receiver's lane in the line of the moment that settled it; where nothing did, it ends half
-- way.
abbrev pub curve_to : ℕ → Way → Option Arrival → Curve
curve_to lanes way None =
    let x = lane_x lanes way.sending.from in
    let to_x = lane_x lanes way.sending.to in
    let y = departure_y lanes way.line in
    curve_between way.sending.colour 3 x to_x y ((x + to_x) / 2) (y + 12)
curve_to lanes way (Some arrival) =
    let x = lane_x lanes way.sending.from in
    let to_x = lane_x lanes way.sending.to in
    let y = departure_y lanes way.line in
    curve_between way.sending.colour (end_kind arrival.end) x to_x y to_x
    (arrival_y lanes arrival.line)

abbrev pub way_curve : ℕ → Way → Curve
way_curve lanes way = curve_to lanes way way.ended

-- the arrow of a way, if it is drawn
abbrev pub way_text : ℕ → Way → List ℕ
way_text lanes way = if way.sending.is_drawn then curve_text (way_curve lanes way) ++ 10 ∷ []
    else []

-- The text of a drawing, all of it: its head, its legend, its lanes under these names, how they look
-- while their nodes are stopped, the arrows of its ways, in order, its moments, and the names again.
-- Names and labels have no `<` (Words), so it has no other arrow.
abbrev pub page_text : List Lane → Sketch → List ℕ
page_text names sketch =
    let lanes = length names in
    let end = line_y lanes sketch.lines + 18 in
    head_text end
    ++ legend_text
    ++ lanes_text lanes end names
    ++ stops_text lanes end sketch.rows.items
    ++ flat_map (way_text lanes) sketch.ways.items
    ++ flat_map (row_text lanes) sketch.rows.items
    ++ names_text lanes sketch.lines names
    ++ (codes "</svg>" ++ 10 ∷ [])

-- how many bytes a drawing has at most: 300 for each lane and message, 32 for each line, and for
-- each moment 400, and 3 for each letter of what an actor does in it
abbrev pub most_page_bytes : ℕ → Sketch → ℕ
most_page_bytes lanes sketch =
    9300 + 300 * (lanes + length sketch.ways.items) + 32 * sketch.lines
    + 100 * length sketch.rows.items + sum_by row_bytes sketch.rows.items

-- The text is the page of the sketch under names of this many lanes, and is short.
pub record IsDrawnBy (sketch : Sketch) (lanes : ℕ) (text : List ℕ) : Type 0 where
  pub names : List Lane
  pub count : length names ≡ lanes
  pub page : text ≡ page_text names sketch
  pub short : length text ≤ most_page_bytes lanes sketch
