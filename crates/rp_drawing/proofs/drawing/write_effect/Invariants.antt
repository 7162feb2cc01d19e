use Rattle.std.proofs.Common.{◌≡◌, ◌≤◌, ◌+◌, ◌*◌, ◌++◌, length, string_bytes}
use Rattle.rp_drawing.specs.Lines.{effect_lines}
use Rattle.rp_drawing.proofs.drawing.write_effect.Given as goal

-- the lines so far are written
abbrev pub invariant-loop-number : goal.invariant-loop-number
invariant-loop-number l = record {
  effect : string_bytes l.text
      ≡ string_bytes l.initial.text ++ effect_lines l.page.lanes l.line (string_bytes l.effect.text) l.number;
  short : length (string_bytes l.text) ≤ length (string_bytes l.initial.text) + 108 * l.number;
}
