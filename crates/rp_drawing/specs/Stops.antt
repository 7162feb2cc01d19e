-- How the lane of a node looks while the node is stopped.
use Rattle.std.specs.Prelude.{ℕ, ◌+◌, ◌^◌, nat_eq, nat_lt, Bool, true, false, ◌&&◌, Option, Some}
use Rattle.std.specs.Prelude.{None, List, [], ◌∷◌, ◌++◌, if◌then◌else◌}
use Rattle.rp_drawing.specs.Elements.{upright_text}
use Rattle.rp_drawing.specs.Pages.{lane_x, line_y}
use Rattle.rp_drawing.specs.declared.sketch.Kind.{Kind}
use Rattle.rp_drawing.specs.declared.sketch.Kind.TheVariants.{Act, Record, Torn, Stop, Restart}
use Rattle.rp_drawing.specs.declared.sketch.Kind.TheVariants.{State}
use Rattle.rp_drawing.specs.declared.sketch.Mark.{Mark}
use Rattle.rp_drawing.specs.declared.sketch.Row.{Row}

-- a mark that says that a node stops
abbrev pub is_stop : Kind → Bool
is_stop Act = false
is_stop Record = false
is_stop Torn = true
is_stop Stop = true
is_stop Restart = false
is_stop State = false

-- a mark that says that a node starts again
abbrev pub is_restart_mark : Kind → Bool
is_restart_mark Act = false
is_restart_mark Record = false
is_restart_mark Torn = false
is_restart_mark Stop = false
is_restart_mark Restart = true
is_restart_mark State = false

-- the mark says that the node of this lane starts again
abbrev pub restarts : ℕ → Option Mark → Bool
restarts lane None = false
restarts lane (Some mark) = is_restart_mark mark.kind && nat_eq mark.lane lane

-- the last line that a page has
abbrev pub within_page : ℕ → ℕ
within_page line = if nat_lt line (2 ^ 32) then line else 2 ^ 32

-- the place of a mark, down the page, in this line
abbrev pub mark_y : ℕ → ℕ → ℕ
mark_y lanes line = line_y lanes (within_page line) + 10

-- where the node of a lane starts again: at the first of these moments that says so, or else the
-- end of the page
abbrev pub restart_y : ℕ → ℕ → ℕ → List Row → ℕ
restart_y lanes end lane [] = end
restart_y lanes end lane (row ∷ rest) =
    if restarts lane row.label.mark then mark_y lanes row.line else restart_y lanes end lane rest

-- the look of a lane while its node is stopped, from one place down to another
abbrev pub stop_text : ℕ → ℕ → ℕ → ℕ → List ℕ
stop_text lanes lane y to_y = upright_text (record {
  look = record { colour = 0; kind = 11 };
  from = record { x = lane_x lanes lane; y = y };
  to_y = to_y;
})

-- that of the lane on which a mark says that a node stops, down to where that lane's node restarts
abbrev pub stop_by : ℕ → ℕ → (ℕ → ℕ) → Option Mark → List ℕ
stop_by lanes y restart None = []
stop_by lanes y restart (Some mark) =
    if is_stop mark.kind && nat_lt mark.lane lanes
    then stop_text lanes mark.lane y (restart mark.lane) ++ 10 ∷ [] else []

-- Each stop of these moments, those of the last moments first: the lane is that of a stopped node
-- from the mark of the stop down to the next restart of the same lane.
abbrev pub stops_text : ℕ → ℕ → List Row → List ℕ
stops_text lanes end [] = []
stops_text lanes end (row ∷ rest) =
    stops_text lanes end rest
    ++ stop_by lanes (mark_y lanes row.line) (λ lane. restart_y lanes end lane rest) row.label.mark
