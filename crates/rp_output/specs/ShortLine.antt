-- Short lines, put together from their last part to their first.
use Rattle.std.specs.Prelude.{ℕ, List, drop}
use Rattle.rp_output.specs.declared.short_line.ShortLine.{ShortLine}

-- what was put together
abbrev pub short_line_text : ShortLine → List ℕ
short_line_text line = drop line.start line.bytes
