-- The guards of a deck: a call is made only if its task's last reply is this one, or is not.
use Rattle.std.specs.Prelude.{ℕ, ◌+◌, ◌||◌, ◌&&◌, Bool, nat_eq, nat_lt, List, [], ◌∷◌, ◌++◌, codes}
use Rattle.std.specs.Prelude.{filter, length, Option, Some, None, Result, Ok, if◌then◌else◌}
use Rattle.std.specs.Str.{bytes_eq}
use Rattle.rp_deck.specs.rp_base.specs.declared.fault.DeckReason.{DeckReason}
use Rattle.rp_deck.specs.rp_base.specs.declared.fault.DeckReason.TheVariants.{UnknownWord}
use Rattle.rp_deck.specs.rp_base.specs.declared.reply.Reply.{Reply}
use Rattle.rp_deck.specs.rp_base.specs.declared.reply.Reply.TheVariants as replies
use Rattle.rp_deck.specs.ScriptLines.{declared_at}
use Rattle.rp_deck_declarations.specs.Declaring.{on_line}
use Rattle.rp_deck_declarations.specs.ScriptNames.{DeclaredNames}
use Rattle.rp_explore_deck.specs.AddedLines.{guard_named}
use Rattle.rp_explore_deck.specs.PlannedActions.{is_call_of, calls_among}
use Rattle.rp_explore_deck.specs.declared.actions.PlannedAction.{PlannedAction}
use Rattle.rp_orders.specs.declared.guard.Guard.{Guard}
use Rattle.rp_explore_deck.specs.declared.guard_lines.GuardLine.{GuardLine}
use Rattle.rp_explore_deck.specs.declared.replies.ReplyWord.{ReplyWord}
use Rattle.rp_explore_deck.specs.declared.replies.ReplyWord.TheVariants.{Value, Truth, Exception}
use Rattle.rp_words.specs.LineFaults.{BadLine}
use Rattle.rp_words.specs.Lines.{LineText}
use Rattle.rp_words.specs.Reading.{◌>>=◌, some_or, unless, made_of, word_at, integer_at, end_at}
use Rattle.rp_words.specs.Words.{truth_named}

-- ---- replies, as a run prints them

-- the first word of a reply
abbrev pub reply_word_named : List ℕ → Option ReplyWord
reply_word_named word =
    if bytes_eq word (codes "value") then Some Value
    else if bytes_eq word (codes "truth") then Some Truth
    else if bytes_eq word (codes "Constraint_Error") then Some (Exception replies.ConstraintError)
    else if bytes_eq word (codes "Program_Error") then Some (Exception replies.ProgramError)
    else if bytes_eq word (codes "No_Such_Operation") then Some (Exception replies.NoSuchOperation)
    else None

-- `true` or `false`
unfoldable pub truth_value_at : List ℕ → Result (Bool × List ℕ) DeckReason
truth_value_at words = do
  word ← word_at words
  value ← some_or UnknownWord (truth_named word.0)
  Ok (value, word.1)

-- the rest of a reply, after its first word
abbrev pub reply_from : ReplyWord → List ℕ → Result (Reply × List ℕ) DeckReason
reply_from Value words = made_of replies.Value (integer_at words)
reply_from Truth words = made_of replies.Truth (truth_value_at words)
reply_from (Exception reply) words = Ok (reply, words)

-- `value V`, `truth true`, `truth false`, or an exception's name
unfoldable pub reply_at : List ℕ → Result (Reply × List ℕ) DeckReason
reply_at words = do
  word ← word_at words
  first ← some_or UnknownWord (reply_word_named word.0)
  reply_from first word.1

-- ---- lines

-- `when TASK REPLY`, `unless TASK REPLY`
unfoldable pub guard_line : DeclaredNames → LineText → Result GuardLine DeckReason
guard_line d line = do
  is_wanted ← some_or UnknownWord (guard_named line.first)
  task ← declared_at d.tasks line.rest
  reply ← reply_at task.1
  e ← end_at reply.1
  Ok (record { line = line.number; task = task.0; reply = reply.0; is_wanted = is_wanted })

-- ---- the calls that they are for

-- how many calls of the task are on lines above this one
abbrev pub calls_above : ℕ → ℕ → List PlannedAction → ℕ
calls_above line task planned =
    length (filter (λ p. nat_lt p.line line && is_call_of task p.action) planned)

-- a guard is for the next call of its task: not for the first one, and not where no call is left
unfoldable pub guard_of : List PlannedAction → GuardLine → Result Guard DeckReason
guard_of planned guard = do
  let before = calls_above guard.line guard.task planned
  first ← unless UnknownWord (nat_eq before 0 || nat_eq before (calls_among guard.task planned))
  Ok (record {
    task = guard.task;
    number = before + 1;
    reply = guard.reply;
    is_wanted = guard.is_wanted;
  })

-- what was placed before, and each of these guards, or the first that has no such call
abbrev pub guards_of : List PlannedAction → List Guard → List GuardLine
    → Result (List Guard) BadLine
guards_of planned before [] = Ok before
guards_of planned before (guard ∷ rest) =
    on_line guard.line (guard_of planned guard)
    (λ placed. guards_of planned (before ++ placed ∷ []) rest)
