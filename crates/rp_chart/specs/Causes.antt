-- The texts at the left of a drawing: what happens.
use Rattle.std.specs.Prelude.{ℕ, Option, Some, None, List}
use Rattle.rp_run.specs.rp_codec.specs.Message.{Message}
use Rattle.rp_run.specs.rp_model.specs.World.{part_at}
use Rattle.rp_run.specs.rp_output.specs.Trace.{message_line_of, or_nothing}

-- the line of this number, from 1, of the deck
abbrev pub line_text : List (List ℕ) → ℕ → List ℕ
line_text deck line = or_nothing (part_at deck line)

-- the line of a packet, or this line of the deck if there is no such packet
abbrev pub packet_text : List (List ℕ) → List ℕ → ℕ → Option Message → List ℕ
packet_text names line number None = line
packet_text names line number (Some m) = message_line_of names number m

-- the packet that is delivered, or else the line of the deck
abbrev pub cause_text : List (List ℕ) → List ℕ → Option ℕ → Option Message → List ℕ
cause_text names line None packet = line
cause_text names line (Some number) packet = packet_text names line number packet
