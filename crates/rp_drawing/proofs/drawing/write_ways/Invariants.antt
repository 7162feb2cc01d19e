use Rattle.std.proofs.Common.{◌≡◌, ◌≤◌, ◌+◌, ◌*◌, ◌++◌, length, take, string_bytes}
use Rattle.std.specs.Prelude.{flat_map}
use Rattle.rp_drawing.specs.Drawings.{way_text}
use Rattle.rp_drawing.proofs.drawing.write_ways.Given as goal

-- the ways so far are written
abbrev pub invariant-loop-way : goal.invariant-loop-way
invariant-loop-way l = record {
  ways : string_bytes l.text ≡ string_bytes l.initial.text ++ flat_map (way_text l.page.lanes) (take l.way-index l.ways);
  short : length (string_bytes l.text) ≤ length (string_bytes l.initial.text) + 300 * l.way-index;
}
