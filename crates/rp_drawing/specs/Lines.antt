-- What a drawing has beside its arrows: its head, its lanes and their names, and the lines of its
-- moments.
use Rattle.std.specs.Prelude.{ℕ, zero, suc, ◌+◌, ◌-◌, ◌*◌, ◌/◌, Option, Some, None, List}
use Rattle.std.specs.Prelude.{[], ◌∷◌, ◌++◌, codes, decimal, if◌then◌else◌, length, string_bytes}
use Rattle.rp_drawing.specs.Elements.{dash_text, upright_text, words_text}
use Rattle.rp_drawing.specs.Pages.{lane_x, line_y, lines_between_names, name_y}
use Rattle.rp_drawing.specs.Stops.{within_page}
use Rattle.rp_drawing.specs.Style.{style_text}
use Rattle.rp_drawing.specs.Words.{text_line, text_lines}
use Rattle.rp_drawing.specs.declared.drawing.Lane.{Lane}
use Rattle.rp_drawing.specs.declared.elements.Point.{Point}
use Rattle.rp_drawing.specs.declared.sketch.Kind.{Kind}
use Rattle.rp_drawing.specs.declared.sketch.Kind.TheVariants.{Act, Record, Torn, Stop, Restart}
use Rattle.rp_drawing.specs.declared.sketch.Kind.TheVariants.{State}
use Rattle.rp_drawing.specs.declared.sketch.Mark.{Mark}
use Rattle.rp_drawing.specs.declared.sketch.Row.{Row}

-- the head of a drawing of this height: its size, and how elements look
abbrev pub head_text : ℕ → List ℕ
head_text height =
    codes "<svg xmlns='http://www.w3.org/2000/svg' viewBox='0 0 " ++ (decimal 860 ++ (codes " "
    ++ (decimal height ++ (codes "' width='" ++ (decimal 860 ++ (codes "' height='"
    ++ (decimal height ++ (codes "'>\n" ++ style_text))))))))

-- ---- lanes and their names

-- the name of the lane at this place, from 0: at the head, for block 0, or above line 50 * block
abbrev pub name_text : ℕ → ℕ → ℕ → Lane → List ℕ
name_text lanes block place lane =
    words_text lane.colour (record { x = lane_x lanes place; y = name_y lanes block place })
    (string_bytes lane.name.text)

-- a lane by its place, from 0: a line down to the end of the page, and its name
abbrev pub lane_text : ℕ → ℕ → ℕ → Lane → List ℕ
lane_text lanes end place lane =
    upright_text (record {
      look = record { colour = lane.colour; kind = 8 };
      from = record { x = lane_x lanes place; y = name_y lanes 0 place + 4 };
      to_y = end;
    }) ++ (codes "\n" ++ name_text lanes 0 place lane)

-- the lanes from this place on
abbrev pub lanes_from : ℕ → ℕ → ℕ → List Lane → List ℕ
lanes_from lanes end place [] = []
lanes_from lanes end place (lane ∷ rest) =
    (lane_text lanes end place lane ++ 10 ∷ []) ++ lanes_from lanes end (place + 1) rest

abbrev pub lanes_text : ℕ → ℕ → List Lane → List ℕ
lanes_text lanes end names = lanes_from lanes end 0 names

-- the names of the lanes from this place on, written again above line 50 * block
abbrev pub names_from : ℕ → ℕ → ℕ → List Lane → List ℕ
names_from lanes block place [] = []
names_from lanes block place (lane ∷ rest) =
    (name_text lanes block place lane ++ 10 ∷ []) ++ names_from lanes block (place + 1) rest

-- those above the lines 50, 100 and so on, n times
abbrev pub repeated_names : ℕ → List Lane → ℕ → List ℕ
repeated_names lanes names zero = []
repeated_names lanes names (suc n) =
    repeated_names lanes names n ++ names_from lanes (suc n) 0 names

-- the names of the lanes again, as often as a drawing of this many lines has them
abbrev pub names_text : ℕ → ℕ → List Lane → List ℕ
names_text lanes lines names = repeated_names lanes names (lines / lines_between_names)

-- ---- moments

-- where a text is in the line that begins here
abbrev pub text_point : ℕ → ℕ → Point
text_point x y = record { x = x; y = y + 13 }

-- what a mark looks like
abbrev pub mark_kind : Kind → ℕ
mark_kind Act = 4
mark_kind Record = 5
mark_kind Torn = 6
mark_kind Stop = 7
mark_kind Restart = 9
mark_kind State = 10

-- the mark of a moment whose line begins here, if it has one: a short line across its lane
abbrev pub mark_text : ℕ → ℕ → Option Mark → List ℕ
mark_text lanes y None = []
mark_text lanes y (Some mark) = codes "\n" ++ dash_text (record {
  look = record { colour = mark.colour; kind = mark_kind mark.kind };
  from = record { x = lane_x lanes mark.lane - 4; y = y + 10 };
  width = 8;
})

-- a moment that is drawn: what happens, and its mark
abbrev pub row_element : ℕ → Row → List ℕ
row_element lanes row =
    let y = line_y lanes (within_page row.line) in
    words_text 0 (text_point 4 y) (string_bytes row.label.cause.text)
    ++ mark_text lanes y row.label.mark

-- the line of this number, from 0, of what an actor does, that many lines below its moment's line
abbrev pub effect_line : ℕ → ℕ → List ℕ → ℕ → List ℕ
effect_line lanes line effect number =
    words_text 0 (text_point 600 (line_y lanes (within_page (line + number))))
    (text_line effect number)

-- the first n lines of what an actor does in a moment of this line
abbrev pub effect_lines : ℕ → ℕ → List ℕ → ℕ → List ℕ
effect_lines lanes line effect zero = []
effect_lines lanes line effect (suc n) =
    effect_lines lanes line effect n ++ (effect_line lanes line effect n ++ 10 ∷ [])

-- all of it
abbrev pub effect_line_text : ℕ → ℕ → List ℕ → List ℕ
effect_line_text lanes line effect = effect_lines lanes line effect (text_lines effect)

abbrev pub row_text : ℕ → Row → List ℕ
row_text lanes row = if row.is_drawn
    then (row_element lanes row ++ 10 ∷ [])
    ++ effect_line_text lanes row.line (string_bytes row.label.effect.text)
    else []

-- how many bytes are written of a moment at most, by the letters of what an actor does
abbrev pub row_bytes : Row → ℕ
row_bytes row = 300 + 3 * length (string_bytes row.label.effect.text)
