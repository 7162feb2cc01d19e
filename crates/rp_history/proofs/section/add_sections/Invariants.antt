use Rattle.std.proofs.Common.{◌≡◌, ◌+◌, ◌++◌, drop, string_bytes}
use Rattle.rp_history.specs.Pages.{sections_from}
use Rattle.rp_history.proofs.section.add_sections.Given as goal

-- the sections so far are written, and the others are left
abbrev pub invariant-loop-place : goal.invariant-loop-place
invariant-loop-place l =
    string_bytes l.text ++ sections_from l.lanes (l.place + 1) (drop l.place l.rows)
    ≡ string_bytes l.initial.text ++ sections_from l.lanes 1 l.rows
