-- The ways of the messages of a run: each from the moment in which it was sent to the one in which
-- it was settled, and none upwards.
use Rattle.std.specs.Prelude.{◌≡◌, ℕ, zero, suc, ◌+◌, ◌-◌, ◌<◌, ◌≤◌, Bool, true, false, ◌||◌}
use Rattle.std.specs.Prelude.{nat_eq, Option, Some, None, List, [], ◌∷◌, ◌++◌, length, map}
use Rattle.std.specs.Prelude.{max, slice_get, string_bytes, unwrap_or, if◌then◌else◌}
use Rattle.std.specs.List.{list_any}
use Rattle.rp_drawing.specs.Words.{text_lines}
use Rattle.rp_drawing.specs.declared.sketch.Arrival.{Arrival}
use Rattle.rp_drawing.specs.declared.sketch.Ending.{Ending}
use Rattle.rp_drawing.specs.declared.sketch.Label.{Label}
use Rattle.rp_drawing.specs.declared.sketch.Moment.{Moment}
use Rattle.rp_drawing.specs.declared.sketch.Row.{Row}
use Rattle.rp_drawing.specs.declared.sketch.Sending.{Sending}
use Rattle.rp_drawing.specs.declared.sketch.Sketch.{Sketch}
use Rattle.rp_drawing.specs.declared.sketch.Way.{Way}

-- the moments of a sketch
abbrev pub moments_of : Sketch → List Moment
moments_of sketch = map (λ row. row.moment) sketch.rows.items

-- what is settled was sent before
abbrev pub IsEndingWithin : ℕ → Option Ending → Type 0
IsEndingWithin before None = Unit {0}
IsEndingWithin before (Some e) = (1 ≤ e.message) × (e.message ≤ before)

-- the message of this number is settled
abbrev pub settles : Option Ending → ℕ → Bool
settles None number = false
settles (Some e) number = nat_eq e.message number

-- the way of a packet that is sent in the moment of this place and line
abbrev pub sent_way : ℕ → ℕ → Sending → Way
sent_way moment line sending =
    record { sending = sending; sent = moment; line = line; ended = None }

abbrev pub sent_ways : List Sending → ℕ → ℕ → List Way
sent_ways sends moment line = map (sent_way moment line) sends

-- a way ends in the moment of this place and line, unless it has ended before
abbrev pub ended_way : Arrival → Way → Way
ended_way arrival way = record way { ended = Some (unwrap_or way.ended arrival) }

-- the way of a message of this number does
abbrev pub ended_at : List Way → ℕ → Arrival → List Way
ended_at [] number arrival = []
ended_at (way ∷ rest) zero arrival = ended_way arrival way ∷ rest
ended_at (way ∷ rest) (suc place) arrival = way ∷ ended_at rest place arrival

abbrev pub ended_ways : List Way → Option Ending → ℕ → ℕ → List Way
ended_ways ways None moment line = ways
ended_ways ways (Some e) moment line =
    ended_at ways (e.message - 1) (record { moment = moment; line = line; end = e.end })

-- whether the way that a moment ends is drawn
abbrev pub is_way_drawn : Option Way → Bool
is_way_drawn None = false
is_way_drawn (Some way) = way.sending.is_drawn

abbrev pub is_end_drawn : List Way → Option Ending → Bool
is_end_drawn ways None = false
is_end_drawn ways (Some e) = is_way_drawn (slice_get ways (e.message - 1))

-- ---- a sketch of one moment more

-- A moment has a line of the drawing exactly if its label is drawn, or the way that ends in it, or
-- one that begins in it.
abbrev pub is_row_drawn : Sketch → Moment → Label → Bool
is_row_drawn sketch moment label =
    label.is_drawn || (is_end_drawn sketch.ways.items moment.ending
    || list_any (λ s. s.is_drawn) moment.sends.items)

-- the row of a moment under this label: its first line is the next one
abbrev pub row_of : Sketch → Moment → Label → Row
row_of sketch moment label = record {
  moment = moment;
  line = sketch.lines;
  is_drawn = is_row_drawn sketch moment label;
  label = label;
}

-- the ways after it: one may end in it, and those of the packets that it sends begin in it
abbrev pub ways_after : Sketch → Moment → List Way
ways_after sketch moment =
    ended_ways sketch.ways.items moment.ending (length sketch.rows.items) sketch.lines
    ++ sent_ways moment.sends.items (length sketch.rows.items) sketch.lines

-- how many lines a moment takes under a label: as many as what an actor does has, and at least one
abbrev pub label_lines : Label → ℕ
label_lines label = max 1 (text_lines (string_bytes label.effect.text))

-- the lines after a moment: those of its label more exactly if it is drawn
abbrev pub lines_after : ℕ → Label → Bool → ℕ
lines_after lines label is_drawn = if is_drawn then lines + label_lines label else lines

-- The new sketch is the old one and this moment under this label, and nothing else.
pub record AddsMoment (old new : Sketch) (moment : Moment) (label : Label) : Type 0 where
  pub rows : new.rows.items ≡ old.rows.items ++ row_of old moment label ∷ []
  pub ways : new.ways.items ≡ ways_after old moment
  pub lines : new.lines ≡ lines_after old.lines label (is_row_drawn old moment label)

-- ---- what ways are

module _ (rows : List Row) where
  -- The message of this number was sent in the moment at which its way begins.
  pub record IsSent (number : ℕ) (way : Way) : Type 0 where
    pub row : Row
    pub there : slice_get rows way.sent ≡ Some row
    pub after : row.moment.before < number
    pub sending_is : slice_get row.moment.sends.items (number - suc row.moment.before)
        ≡ Some way.sending
    pub line_is : way.line ≡ row.line

  -- no moment among the first ones settles the message of this number
  abbrev pub IsUnsettled : ℕ → ℕ → Type 0
  IsUnsettled number count =
      (i : ℕ) (row : Row) → i < count → slice_get rows i ≡ Some row
      → settles row.moment.ending number ≡ false

  -- It was settled in the moment in which its way ends, which is later than that of its sending,
  -- and in none before.
  pub record IsSettled (number : ℕ) (way : Way) (arrival : Arrival) : Type 0 where
    pub row : Row
    pub there : slice_get rows arrival.moment ≡ Some row
    pub ending_is : row.moment.ending ≡ Some (record { message = number; end = arrival.end })
    pub line_is : arrival.line ≡ row.line
    pub later : way.sent < arrival.moment
    pub first : IsUnsettled number arrival.moment

  -- where its way has not ended, no moment settles it
  abbrev pub IsEnded : ℕ → Way → Option Arrival → Type 0
  IsEnded number way None = IsUnsettled number (length rows)
  IsEnded number way (Some arrival) = IsSettled number way arrival

  pub record IsWay (number : ℕ) (way : Way) : Type 0 where
    pub sent : IsSent number way
    pub ended : IsEnded number way way.ended

  -- the ways of the messages from 1 on, of which some are settled
  pub record AreWays (ways : List Way) : Type 0 where
    pub each : (k : ℕ) (way : Way) → slice_get ways k ≡ Some way → IsWay (suc k) way
    pub known : (i : ℕ) (row : Row) → slice_get rows i ≡ Some row
        → IsEndingWithin (length ways) row.moment.ending

-- A way that is drawn begins in a line so far, and ends in a later one.
pub record IsDown (lines : ℕ) (way : Way) : Type 0 where
  pub begins : way.sending.is_drawn ≡ true → way.line < lines
  pub ends : (arrival : Arrival) → way.ended ≡ Some arrival → way.sending.is_drawn ≡ true
      → (way.line < arrival.line) × (arrival.line < lines)

abbrev pub AreDown : ℕ → List Way → Type 0
AreDown lines ways = (k : ℕ) (way : Way) → slice_get ways k ≡ Some way → IsDown lines way
