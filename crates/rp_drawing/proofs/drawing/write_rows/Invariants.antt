use Rattle.std.proofs.Common.{◌≡◌, ◌≤◌, ◌+◌, ◌++◌, length, take, string_bytes}
use Rattle.std.specs.List.{sum_by}
use Rattle.std.specs.Prelude.{flat_map}
use Rattle.rp_drawing.specs.Lines.{row_bytes, row_text}
use Rattle.rp_drawing.proofs.drawing.write_rows.Given as goal

-- the moments so far are written
abbrev pub invariant-loop-row : goal.invariant-loop-row
invariant-loop-row l = record {
  rows : string_bytes l.text ≡ string_bytes l.initial.text ++ flat_map (row_text l.page.lanes) (take l.row-index l.rows);
  short : length (string_bytes l.text) ≤ length (string_bytes l.initial.text) + sum_by row_bytes (take l.row-index l.rows);
}
