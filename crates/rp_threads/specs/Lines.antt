-- What a link does in a turn: it takes what was fetched, and passes on one packet.
use Rattle.std.specs.Prelude.{◌≡◌, ℕ, Option, Some, None, List, [], ◌∷◌}
use Rattle.rp_base.specs.Sets.{Has}
use Rattle.rp_codec.specs.Message.{Message}
use Rattle.rp_codec.specs.Text.{text_of}
use Rattle.rp_tasks.specs.Line.{Line, word_of, drawn, accepted, picked, released}

-- the bytes are the text of one of these packets
abbrev pub IsTextAmong : List Message → List ℕ → Type 0
IsTextAmong packets text = (m : Message) × Has m packets × (text ≡ text_of m)

-- Every text that the link holds is the text of one of these packets.
pub record HoldsTextsOf (packets : List Message) (line : Line) : Type 0 where
  pub each : (text : List ℕ) → Has text line.held → IsTextAmong packets text

-- the link after it took the packet that was fetched, if one was
abbrev pub line_with : Option (List ℕ) → Line → Line
line_with None line = line
line_with (Some text) line = accepted (word_of line) text (drawn line)

-- the packet that the link passes on, chosen by the next word of its stream, if it holds one
abbrev pub given_on : Line → Option (List ℕ)
given_on line = picked (word_of line) line

-- the link after it passed that packet on; if it is empty it does not change, and no word is drawn
abbrev pub left_of : List (List ℕ) → Line → Line
left_of [] line = line
left_of (text ∷ others) line = released (word_of line) (drawn line)

abbrev pub line_after : Line → Line
line_after line = left_of line.held line
