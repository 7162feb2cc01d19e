-- What the declarations of a deck say: one line after another up to `script`, or the first bad
-- line.
use Rattle.std.specs.Prelude.{ℕ, ◌-◌, ◌&&◌, Bool, not, List, [], ◌∷◌, codes, length, slice_set}
use Rattle.std.specs.Prelude.{Option, Some, None, Result, Ok, Err, if◌then◌else◌}
use Rattle.std.specs.Str.{bytes_eq}
use Rattle.rp_object.specs.rp_base.specs.declared.fault.DeckReason.{DeckReason}
use Rattle.rp_object.specs.rp_base.specs.declared.fault.DeckReason.TheVariants.{NodesExpected}
use Rattle.rp_object.specs.rp_base.specs.declared.fault.DeckReason.TheVariants.{UnknownWord}
use Rattle.rp_object.specs.rp_base.specs.declared.fault.DeckReason.TheVariants.{EndExpected}
use Rattle.rp_object.specs.rp_base.specs.declared.fault.DeckReason.TheVariants.{ScriptExpected}
use Rattle.rp_deck_declarations.specs.declared.draft.Kind.{Kind}
use Rattle.rp_words.specs.LineFaults.{BadLine}
use Rattle.rp_words.specs.Lines.{LineText}
use Rattle.rp_words.specs.Reading.{◌>>=◌}
use Rattle.rp_deck_objects.specs.Objects.{ObjectText, object_step}
use Rattle.rp_deck_declarations.specs.Drafts.{DraftText, empty_draft, profile_of, last_object}
use Rattle.rp_deck_declarations.specs.Drafts.{is_in_body, kind_of, nodes_line, declaration_line}
use Rattle.rp_deck_declarations.specs.Drafts.{script_line}

-- what a line gives and what follows, up to the first bad one
abbrev pub on_line : {X Y : Type 0} → ℕ → Result X DeckReason → (X → Result Y BadLine)
    → Result Y BadLine
on_line number (Ok x) next = next x
on_line number (Err reason) next = Err (record { line = number; reason = reason })

abbrev pub with_last_object : DraftText → ObjectText → DraftText
with_last_object d object = record d { drafts = slice_set d.drafts (length d.drafts - 1) object }

-- a line that belongs to the last object
abbrev pub object_line_of : Option ObjectText → DraftText → LineText → Result DraftText DeckReason
object_line_of None d line = Err UnknownWord
object_line_of (Some object) d line = do
  after ← object_step (profile_of d) object line
  Ok (with_last_object d after)

abbrev pub line_of_kind : Option Kind → DraftText → LineText → Result DraftText DeckReason
line_of_kind None d line = object_line_of (last_object d) d line
line_of_kind (Some kind) d line = declaration_line d kind line.rest

-- a line before `script`
unfoldable pub declaring_line : DraftText → LineText → Result DraftText DeckReason
declaring_line d line = line_of_kind (kind_of d line.first) d line

-- `script` ends the declarations; in a body it is no word
abbrev pub ends_declarations : DraftText → LineText → Bool
ends_declarations d line = not (is_in_body d) && bytes_eq line.first (codes "script")

-- what is missing where no line is left
abbrev pub missing : DraftText → DeckReason
missing d = if is_in_body d then EndExpected else ScriptExpected

-- what these lines declare after what is declared already, and the lines after `script`; the line
-- after the last of the deck has this number
unfoldable pub declarations_from : ℕ → DraftText → List LineText
    → Result (DraftText × List LineText) BadLine
declarations_from last d [] = Err (record { line = last; reason = missing d })
declarations_from last d (line ∷ rest) =
    if ends_declarations d line
    then on_line line.number (script_line d line.rest) (λ e. Ok (d, rest))
    else on_line line.number (declaring_line d line) (λ after. declarations_from last after rest)

-- what the lines of a deck declare, and the lines after `script`
unfoldable pub declarations_of : ℕ → List LineText → Result (DraftText × List LineText) BadLine
declarations_of last [] = Err (record { line = last; reason = NodesExpected })
declarations_of last (line ∷ rest) =
    on_line line.number (nodes_line line) (λ nodes. declarations_from last (empty_draft nodes) rest)
