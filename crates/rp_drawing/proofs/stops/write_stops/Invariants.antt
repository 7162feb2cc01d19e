use Rattle.std.proofs.Common.{◌≡◌, ℕ, ◌≤◌, ◌<◌, ◌+◌, ◌*◌, ◌++◌, length, drop, get_or, string_bytes}
use Rattle.rp_drawing.specs.Stops.{restart_y, stops_text}
use Rattle.rp_drawing.proofs.stops.write_stops.Given as goal

-- the stops of the moments from this place on are written, and the next restart of each lane is known
abbrev pub invariant-loop-place : goal.invariant-loop-place
invariant-loop-place l = record {
  within : l.place ≤ length l.rows;
  lanes : length l.next.items ≡ l.page.lanes;
  next : (lane : ℕ) → lane < l.page.lanes
      → get_or l.next.items lane 0 ≡ restart_y l.page.lanes l.end lane (drop l.place l.rows);
  stops : string_bytes l.text
      ≡ string_bytes l.initial.text ++ stops_text l.page.lanes l.end (drop l.place l.rows);
  short : length (string_bytes l.text) + 100 * l.place
      ≤ length (string_bytes l.initial.text) + 100 * length l.rows;
}

abbrev pub decreases-loop-place : goal.decreases-loop-place
decreases-loop-place l = l.place
