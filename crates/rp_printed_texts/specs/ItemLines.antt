-- Reading the text of an item of a run, line by line: what its first line says, and what is after it.
use Rattle.std.specs.Prelude.{◌≡◌, ◌≢◌, ◌<◌, ◌^◌, ◌==◌, ℕ, Some, List, [], ◌∷◌, codes}
use Rattle.std.specs.Prelude.{if◌then◌else◌}
use Rattle.rp_run.specs.rp_base.specs.declared.fault.Fault.{Fault}
use Rattle.rp_run.specs.rp_base.specs.declared.fault.Fault.TheVariants.{NotRunning, BallotsSpent}
use Rattle.rp_run.specs.rp_base.specs.declared.fault.Fault.TheVariants.{LogFull}
use Rattle.rp_run.specs.rp_base.specs.declared.fault.Fault.TheVariants.{NoSuchMessage, TaskBusy}
use Rattle.rp_run.specs.rp_base.specs.declared.fault.Fault.TheVariants.{NumbersSpent}
use Rattle.rp_run.specs.rp_base.specs.Right.{IsReply}
use Rattle.rp_printed_texts.specs.Reading.{LineRead, ReplyTaken, NodeOpened, NodeRunning, NodeFull}
use Rattle.rp_printed_texts.specs.Reading.{NodeApplied, NodeStopped, StepRefused, DrainEnded}
use Rattle.rp_printed_texts.specs.Reading.{read_line, HasNoSpace}
use Rattle.rp_printed_texts.specs.Packets.{read_packet, stated_of, AreNumbers, IsPartyName}
use Rattle.rp_run.specs.Items.{Note, Sent, Opened, AlreadyRunning, PendingFull, Stopped, Refused}
use Rattle.rp_run.specs.Items.{DrainLimit, Item, Called, Replied, Shown, Noted, notes_text}

-- the bytes before the first line feed, and those after it
abbrev pub first_line : List ℕ → List ℕ
first_line [] = []
first_line (byte ∷ rest) = if byte == 10 then [] else byte ∷ first_line rest

abbrev pub after_line : List ℕ → List ℕ
after_line [] = []
after_line (byte ∷ rest) = if byte == 10 then rest else after_line rest

-- no byte of the text is a line feed
abbrev pub IsOneLine : List ℕ → Type 0
IsOneLine [] = Unit {0}
IsOneLine (byte ∷ rest) = (byte ≢ 10) × IsOneLine rest

-- a refusal of a step has this code and this name
abbrev pub IsRefusal : Fault → ℕ → List ℕ → Type 0
IsRefusal NotRunning code name = (code ≡ 5) × (name ≡ codes "NotRunning")
IsRefusal BallotsSpent code name = (code ≡ 6) × (name ≡ codes "BallotsSpent")
IsRefusal LogFull code name = (code ≡ 7) × (name ≡ codes "LogFull")
IsRefusal NoSuchMessage code name = (code ≡ 8) × (name ≡ codes "NoSuchMessage")
IsRefusal TaskBusy code name = (code ≡ 9) × (name ≡ codes "TaskBusy")
IsRefusal NumbersSpent code name = (code ≡ 10) × (name ≡ codes "NumbersSpent")
IsRefusal _ code name = ⊥

-- the numbers of a note have 64 bits, its names are words, and its fault is one that refuses a step
abbrev pub FitsNote : Note → Type 0
FitsNote (Sent number from to body) =
    (number < 2 ^ 64) × (IsPartyName from × IsOneLine from) × (IsPartyName to × IsOneLine to)
    × AreNumbers (stated_of body).1
FitsNote (Opened node records bytes) = (node < 2 ^ 64) × (records < 2 ^ 64) × (bytes < 2 ^ 64)
FitsNote (AlreadyRunning node) = node < 2 ^ 64
FitsNote (PendingFull node) = node < 2 ^ 64
FitsNote (Stopped node) = node < 2 ^ 64
FitsNote (Refused line why) = (line < 2 ^ 64) × ((code : ℕ) × (name : List ℕ) × IsRefusal why code name)
FitsNote (DrainLimit line) = line < 2 ^ 64

-- the line says what the note is
abbrev pub SaysNote : Note → List ℕ → Type 0
SaysNote (Sent number from to body) text = read_packet text ≡ Some (record {
  number = number;
  from = from;
  to = to;
  kind = (stated_of body).0;
  numbers = (stated_of body).1;
})
SaysNote (Opened node records bytes) text = read_line text ≡ Some (NodeOpened node records bytes)
SaysNote (AlreadyRunning node) text = read_line text ≡ Some (NodeRunning node)
SaysNote (PendingFull node) text = read_line text ≡ Some (NodeFull node)
SaysNote (Stopped node) text = read_line text ≡ Some (NodeStopped node)
SaysNote (Refused line why) text =
    (code : ℕ) × (name : List ℕ)
    × (IsRefusal why code name × (read_line text ≡ Some (StepRefused line code name)))
SaysNote (DrainLimit line) text = read_line text ≡ Some (DrainEnded line)

-- the numbers of an item have 64 bits, and its name is a word
abbrev pub FitsItem : Item → Type 0
FitsItem (Called task asked) = Unit {0}
FitsItem (Replied name answer) =
    (HasNoSpace name × IsOneLine name) × (answer.number < 2 ^ 64) × IsReply answer.reply
FitsItem (Shown node applied image) = (node < 2 ^ 64) × (applied < 2 ^ 64)
FitsItem (Noted []) = Unit {0}
FitsItem (Noted (note ∷ notes)) = FitsNote note

-- The text says what the item is: nothing for a call that is made; a line for a reply; a line, and
-- then the image, for a node that is shown; a line for the first note, and then those of the others.
abbrev pub SaysItem : Item → List ℕ → Type 0
SaysItem (Called task asked) text = text ≡ []
SaysItem (Replied name answer) text =
    (read_line (first_line text) ≡ Some (ReplyTaken name answer.number answer.reply))
    × (after_line text ≡ [])
SaysItem (Shown node applied image) text =
    (read_line (first_line text) ≡ Some (NodeApplied node applied)) × (after_line text ≡ image)
SaysItem (Noted []) text = text ≡ []
SaysItem (Noted (note ∷ notes)) text =
    SaysNote note (first_line text) × (after_line text ≡ notes_text notes)
