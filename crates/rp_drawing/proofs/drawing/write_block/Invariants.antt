use Rattle.std.proofs.Common.{◌≡◌, ◌≤◌, ◌+◌, ◌*◌, ◌++◌, length, drop, string_bytes}
use Rattle.rp_drawing.specs.Lines.{names_from}
use Rattle.rp_drawing.proofs.drawing.write_block.Given as goal

-- the names so far are written, and the others are left
abbrev pub invariant-loop-place : goal.invariant-loop-place
invariant-loop-place l = record {
  names : string_bytes l.text ++ names_from l.page.lanes l.block l.place (drop l.place l.lanes)
      ≡ string_bytes l.initial.text ++ names_from l.page.lanes l.block 0 l.lanes;
  short : length (string_bytes l.text) ≤ length (string_bytes l.initial.text) + 100 * l.place;
}
