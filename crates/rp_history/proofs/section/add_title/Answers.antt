-- The title of a moment.
use Rattle.std.proofs.Common.{◌≡◌, ◌∙◌, ◌++◌, ℕ, List, length, string_bytes, ap}
use Rattle.rp_drawing.specs.Pages.{line_y}
use Rattle.rp_drawing.specs.Stops.{within_page}
use Rattle.rp_history.specs.Pages.{section_title}
use Rattle.rp_history.proofs.section.add_title.Goals as goal

pub returns : goal.returns
returns c =
    let text = string_bytes c.args.text.now in
    c.in_ok-write.ensures.bytes
    ∙ ap (λ (y : ℕ). text ++ section_title c.args.number y c.as_str-cause.result.now) c.moment_y-y.ensures
    ∙ ap (λ (cause : List ℕ). text ++ section_title c.args.number (line_y (length c.args.lanes.now) (within_page c.args.row.now.line)) cause) c.as_str-cause.ensures
