-- Where lanes and lines are on a page.
use Rattle.std.specs.Prelude.{ℕ, ◌+◌, ◌*◌, ◌/◌, nat_le, if◌then◌else◌}

-- how high the legend is, above the lanes' names
abbrev pub legend_height : ℕ
legend_height = 64

-- after how many lines the names of the lanes are written again
abbrev pub lines_between_names : ℕ
lines_between_names = 50

-- how much room the names of n lanes take where they are written again
abbrev pub names_height : ℕ → ℕ
names_height lanes = 14 * lanes + 24

-- the lane of this place, from 0, of n lanes
abbrev pub lane_x : ℕ → ℕ → ℕ
lane_x lanes lane =
    if nat_le lanes 6 then 270 + 60 * lane else if nat_le lanes 10 then 270 + 34 * lane
    else 270 + 22 * lane

-- the name of a lane: at the head, for block 0, and again above line 50 * block
abbrev pub name_y : ℕ → ℕ → ℕ → ℕ
name_y lanes block lane =
    18 + legend_height + 14 * lane + (18 * lines_between_names + names_height lanes) * block

-- the start of a line, from 0, below all names that are above it
abbrev pub line_y : ℕ → ℕ → ℕ
line_y lanes line =
    30 + legend_height + 14 * lanes + 18 * line
    + names_height lanes * (line / lines_between_names)

-- where ways end in it, above its mark, and begin, below it
abbrev pub arrival_y : ℕ → ℕ → ℕ
arrival_y lanes line = line_y lanes line + 5

abbrev pub departure_y : ℕ → ℕ → ℕ
departure_y lanes line = line_y lanes line + 15
