-- The visible items of a run.
use Rattle.std.specs.Prelude.{ℕ, ℤ, nat_eq, Option, Some, None, List, [], ◌++◌, filter_map}
use Rattle.std.specs.Prelude.{flat_map, if◌then◌else◌}
use Rattle.rp_base.specs.declared.action.Operation.{Operation}
use Rattle.rp_base.specs.declared.fault.Fault.{Fault}
use Rattle.rp_base.specs.declared.reply.Answer.{Answer}
use Rattle.rp_model.specs.rp_codec.specs.declared.packet.Body.{Body}
use Rattle.rp_output.specs.Printed.{reply_line_of, applied_line_of, refused_line_of, opened_line_of}
use Rattle.rp_output.specs.Printed.{running_line_of, full_line_of, stopped_line_of, limit_line_of}
use Rattle.rp_output.specs.FaultMessage.{with_line_feed}
use Rattle.rp_output.specs.Trace.{trace_line_of}

-- what a call asks for: an object, an operation of it and an argument
pub record Asked : Type 0 where
  pub object : ℕ
  pub operation : Operation
  pub arg : ℤ

-- What else is printed: the packet of this number was sent, by one party to another, each under its
-- name; a stopped node runs again, with the numbers of records found and bytes truncated, or it was
-- running already; it has no place for one more pending item; it is shown, and is stopped; a step
-- of the line of this number was refused, and why; or `drain` in that line delivered as many
-- messages as it may.
pub data Note : Type 0 where
  Sent : ℕ → List ℕ → List ℕ → Body → Note
  Opened : ℕ → ℕ → ℕ → Note
  AlreadyRunning : ℕ → Note
  PendingFull : ℕ → Note
  Stopped : ℕ → Note
  Refused : ℕ → Fault → Note
  DrainLimit : ℕ → Note

-- its line, without the end
abbrev pub note_line : Note → List ℕ
note_line (Sent number from to body) = trace_line_of number from to body
note_line (Opened node records bytes) = opened_line_of node records bytes
note_line (AlreadyRunning node) = running_line_of node
note_line (PendingFull node) = full_line_of node
note_line (Stopped node) = stopped_line_of node
note_line (Refused line why) = refused_line_of line why
note_line (DrainLimit line) = limit_line_of line

-- the lines of some notes
abbrev pub notes_text : List Note → List ℕ
notes_text notes = flat_map (λ note. with_line_feed (note_line note)) notes

-- A task makes its next call; a task takes a reply, under the task's name; a running node is shown,
-- with its number, how many actions it has applied, and its image; or there are notes.
pub data Item : Type 0 where
  Called : ℕ → Asked → Item
  Replied : List ℕ → Answer → Item
  Shown : ℕ → ℕ → List ℕ → Item
  Noted : List Note → Item

-- the text of an item: that of a call is empty, since nothing is printed when it is made
abbrev pub item_text : Item → List ℕ
item_text (Called task asked) = []
item_text (Replied name answer) = with_line_feed (reply_line_of name answer.number answer.reply)
item_text (Shown node applied image) = with_line_feed (applied_line_of node applied) ++ image
item_text (Noted notes) = notes_text notes

-- the texts of items, joined
abbrev pub items_text : List Item → List ℕ
items_text items = flat_map item_text items

-- what a call of this task asks for, if the item is one
abbrev pub asked_in : ℕ → Item → Option Asked
asked_in t (Called task asked) = if nat_eq task t then Some asked else None
asked_in t (Replied name answer) = None
asked_in t (Shown node applied image) = None
asked_in t (Noted notes) = None

-- what the calls of a task ask for, in order
abbrev pub asked_by : ℕ → List Item → List Asked
asked_by t items = filter_map (asked_in t) items

-- the reply that a task of this number takes, if the item is one
abbrev pub reply_in : ℕ → Item → Option Answer
reply_in t (Called task asked) = None
reply_in t (Replied name answer) = if nat_eq answer.task t then Some answer else None
reply_in t (Shown node applied image) = None
reply_in t (Noted notes) = None

-- the replies that a task takes, in order
abbrev pub replies_by : ℕ → List Item → List Answer
replies_by t items = filter_map (reply_in t) items
