-- The line of figures of a run in threads, without its end.
use Rattle.std.specs.Prelude.{ℕ, Option, Some, None, List, ◌++◌, codes, decimal}
use Rattle.rp_live.specs.declared.figures.Figures.{Figures}
use Rattle.rp_live_run.specs.declared.figures.FiguresLine.{FiguresLine}

-- how many calls were answered of how many, and by which turn; how many packets were lost; and how
-- many ballots were begun
abbrev pub figures_text : Figures → List ℕ
figures_text f =
    decimal f.answered ++ (codes " of " ++ (decimal f.asked ++ (codes " calls by turn "
    ++ (decimal f.last_reply ++ (codes ", " ++ (decimal f.lost ++ (codes " packets lost, "
    ++ (decimal f.led ++ codes " ballots"))))))))

-- and how long it took, if that is known
abbrev pub with_time : List ℕ → Option ℕ → List ℕ
with_time text (Some milliseconds) = text ++ (codes ", " ++ (decimal milliseconds ++ codes " ms"))
with_time text None = text

-- the whole line
abbrev pub figures_line_of : FiguresLine → List ℕ
figures_line_of f = with_time (figures_text f.figures) f.milliseconds
