use Rattle.std.proofs.Common.{◌≡◌, ◌≤◌, ◌+◌, ◌*◌, ◌++◌, length, string_bytes}
use Rattle.rp_drawing.specs.Lines.{repeated_names}
use Rattle.rp_drawing.proofs.drawing.write_names.Given as goal

-- the names so far are written
abbrev pub invariant-loop-block : goal.invariant-loop-block
invariant-loop-block l = record {
  names : string_bytes l.text ≡ string_bytes l.initial.text ++ repeated_names l.page.lanes l.lanes l.block;
  short : length (string_bytes l.text) ≤ length (string_bytes l.initial.text) + 1600 * l.block;
}
