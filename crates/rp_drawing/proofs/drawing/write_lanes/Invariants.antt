use Rattle.std.proofs.Common.{◌≡◌, ◌≤◌, ◌+◌, ◌*◌, ◌++◌, length, drop, string_bytes}
use Rattle.rp_drawing.specs.Lines.{lanes_from, lanes_text}
use Rattle.rp_drawing.proofs.drawing.write_lanes.Given as goal

-- the lanes so far are written, and the others are left
abbrev pub invariant-loop-place : goal.invariant-loop-place
invariant-loop-place l = record {
  lanes : string_bytes l.text ++ lanes_from l.page.lanes l.end l.place (drop l.place l.lanes)
      ≡ string_bytes l.initial.text ++ lanes_text l.page.lanes l.end l.lanes;
  short : length (string_bytes l.text) ≤ length (string_bytes l.initial.text) + 300 * l.place;
}
