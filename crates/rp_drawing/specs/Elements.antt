-- The elements of a drawing as text.
use Rattle.std.specs.Prelude.{ℕ, List, ◌++◌, codes, decimal}
use Rattle.rp_drawing.specs.declared.elements.Curve.{Curve}
use Rattle.rp_drawing.specs.declared.elements.Dash.{Dash}
use Rattle.rp_drawing.specs.declared.elements.Look.{Look}
use Rattle.rp_drawing.specs.declared.elements.Point.{Point}
use Rattle.rp_drawing.specs.declared.elements.Upright.{Upright}

-- how many bytes the head of a drawing has at most, and its legend
abbrev pub most_head_bytes : ℕ
most_head_bytes = 4500

-- a look, as two classes
abbrev pub look_text : Look → List ℕ
look_text l = codes "c" ++ (decimal l.colour ++ (codes " k" ++ decimal l.kind))

-- a place, as its two numbers
abbrev pub point_text : Point → List ℕ
point_text p = decimal p.x ++ (codes " " ++ decimal p.y)

-- a curve, as a path
abbrev pub curve_text : Curve → List ℕ
curve_text c =
    codes "<path class='" ++ (look_text c.look ++ (codes "' d='M" ++ (point_text c.from
    ++ (codes "Q" ++ (point_text c.by ++ (codes " " ++ (point_text c.to ++ codes "'/>")))))))

-- a line to the right
abbrev pub dash_text : Dash → List ℕ
dash_text d =
    codes "<path class='" ++ (look_text d.look ++ (codes "' d='M" ++ (point_text d.from
    ++ (codes "h" ++ (decimal d.width ++ codes "'/>")))))

-- a line down
abbrev pub upright_text : Upright → List ℕ
upright_text u =
    codes "<path class='" ++ (look_text u.look ++ (codes "' d='M" ++ (point_text u.from
    ++ (codes "V" ++ (decimal u.to_y ++ codes "'/>")))))

-- letters of this colour at a place
abbrev pub words_text : ℕ → Point → List ℕ → List ℕ
words_text colour place letters =
    codes "<text class='t" ++ (decimal colour ++ (codes "' x='" ++ (decimal place.x
    ++ (codes "' y='" ++ (decimal place.y ++ (codes "'>"
    ++ (letters ++ codes "</text>")))))))
