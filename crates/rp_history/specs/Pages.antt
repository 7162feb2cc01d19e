-- The page of a run: its drawing, and a section for each moment that has a line of the drawing.
use Rattle.std.specs.Prelude.{◌≡◌, ℕ, ◌+◌, ◌&&◌, ◌||◌, nat_eq, nat_le, if◌then◌else◌, false}
use Rattle.std.specs.Prelude.{Option, Some, None, List, [], ◌∷◌, ◌++◌, codes, decimal, flat_map}
use Rattle.std.specs.Prelude.{length, map, slice_get, string_bytes}
use Rattle.rp_drawing.specs.Drawings.{page_text}
use Rattle.rp_drawing.specs.Pages.{line_y}
use Rattle.rp_drawing.specs.Stops.{within_page}
use Rattle.rp_drawing.specs.declared.drawing.Lane.{Lane}
use Rattle.rp_drawing.specs.declared.sketch.Mark.{Mark}
use Rattle.rp_drawing.specs.declared.sketch.Row.{Row}
use Rattle.rp_drawing.specs.declared.sketch.Sketch.{Sketch}
use Rattle.rp_history.specs.Histories.{Happening, IsDrawnIfShort, IsSketchOf, IsTooLongFor}
use Rattle.rp_history.specs.Histories.{LaneText, is_too_long, lane_text}
use Rattle.rp_history.specs.declared.stage.Stage.{Stage}
use Rattle.rp_model.specs.Effect.{Setting}
use Rattle.rp_model.specs.World.{World}
use Rattle.rp_history.specs.Frame.{before_drawing, after_drawing, after_sections, after_switch}
use Rattle.rp_history.specs.Frame.{switch_text}
use Rattle.rp_history.specs.declared.page.Form.{Form}
use Rattle.rp_history.specs.declared.page.Form.TheVariants.{Drawing, Page, Calls}

-- a byte of a text as it is written in HTML: `&` and `<` by their names, and a blank for one that is
-- not printed and ends no line
abbrev pub escaped : ℕ → List ℕ
escaped byte =
    if nat_eq byte 38 then codes "&amp;"
    else if nat_eq byte 60 then codes "&lt;"
    else if nat_eq byte 10 || (nat_le 33 byte && nat_le byte 126) then byte ∷ [] else 32 ∷ []

abbrev pub escaped_text : List ℕ → List ℕ
escaped_text bytes = flat_map escaped bytes

-- the name of a lane, if there is one
abbrev pub lane_name : Option Lane → List ℕ
lane_name None = []
lane_name (Some lane) = string_bytes lane.name.text

-- who acted in a moment: the name of the lane of its mark, if it has one
abbrev pub actor_name : List Lane → Option Mark → List ℕ
actor_name names None = []
actor_name names (Some mark) = lane_name (slice_get names mark.lane)

-- the title of the section of a moment of this number: where its line is in the drawing, and what
-- happened
abbrev pub section_title : ℕ → ℕ → List ℕ → List ℕ
section_title number y cause =
    codes "<section id='moment-" ++ (decimal number ++ (codes "' data-y='" ++ (decimal y
    ++ (codes "'>\n<h2>" ++ (decimal number ++ (codes ": " ++ (cause ++ codes "</h2>\n")))))))

-- who acted, and what that actor did
abbrev pub deed_text : List ℕ → List ℕ → List ℕ
deed_text actor effect =
    codes "<p><b>" ++ (actor ++ (codes "</b> " ++ (effect ++ codes "</p>\n<pre>\n")))

-- the section of a moment of this number, from 1, under these lanes, with what else is said of it
abbrev pub section_text : List Lane → ℕ → Row → List ℕ
section_text names number row =
    section_title number (line_y (length names) (within_page row.line))
    (string_bytes row.label.cause.text)
    ++ (deed_text (actor_name names row.label.mark) (string_bytes row.label.effect.text)
    ++ (escaped_text row.label.details.items ++ codes "</pre>\n</section>\n"))

-- that of a moment that has a line of the drawing
abbrev pub row_section : List Lane → ℕ → Row → List ℕ
row_section names number row = if row.is_drawn then section_text names number row else []

-- those of moments, of which the first has this number
abbrev pub sections_from : List Lane → ℕ → List Row → List ℕ
sections_from names number [] = []
sections_from names number (row ∷ rest) =
    row_section names number row ++ sections_from names (number + 1) rest

abbrev pub sections_text : List Lane → List Row → List ℕ
sections_text names rows = sections_from names 1 rows

-- The page of a sketch, all of it: a head, the drawing under lanes of these names, the sections of
-- its moments, and a script that shows one of them at a time.
abbrev pub html_text : Form → List Lane → Sketch → List ℕ
html_text form names sketch =
    before_drawing ++ page_text names sketch ++ after_drawing ++ switch_text form ++ after_switch
    ++ sections_text names sketch.rows.items ++ after_sections

-- The text is to the byte the page of a sketch of the history in which this happened, which leads
-- to this world, under these lanes. The sketch is not too long. So each section is that of a moment of
-- the history, and has its label.
pub record IsPageOf {S : Type 0} (form : Form) (s : Setting S) (stage : Stage)
    (lanes : List LaneText) (happened : List Happening) (last : World) (text : List ℕ)
    : Type 0 where
  pub sketch : Sketch
  pub sketched : IsSketchOf s stage sketch happened last
  pub short : is_too_long stage sketch ≡ false
  pub names : List Lane
  pub lanes_are : map lane_text names ≡ lanes
  pub page : text ≡ html_text form names sketch

-- The page of that history, or none if its sketch is too long.
abbrev pub IsPageIfShort : {S : Type 0} → Form → Setting S → Stage → List LaneText
    → List Happening → World → Option (List ℕ)
    → Type 0
IsPageIfShort form s stage lanes happened last None = IsTooLongFor s stage happened last
IsPageIfShort form s stage lanes happened last (Some text) =
    IsPageOf form s stage lanes happened last text

-- the drawing of that history, or its page, which may show calls and replies alone at first
abbrev pub IsDrawnAs : {S : Type 0} → Form → Setting S → Stage → List LaneText → List Happening
    → World → Option (List ℕ)
    → Type 0
IsDrawnAs Drawing s stage lanes happened last text =
    IsDrawnIfShort s stage lanes happened last text
IsDrawnAs Page s stage lanes happened last text =
    IsPageIfShort Page s stage lanes happened last text
IsDrawnAs Calls s stage lanes happened last text =
    IsPageIfShort Calls s stage lanes happened last text
