-- Reading the lines that a run prints, word by word, as docs/DECK.md lists them under 'What is
-- printed'. Nothing here is used to print.
use Rattle.std.specs.Prelude.{◌≢◌, ℕ, ℤ, pos, neg_ℤ, Bool, true, false, ◌==◌, ◌&&◌, nat_eq}
use Rattle.std.specs.Prelude.{Option, Some, None, List, [], ◌∷◌, codes, if◌then◌else◌}
use Rattle.std.specs.Cmp.Lexicographic.{pointwise}
use Rattle.std.specs.Option.{option_map}
use Rattle.std.specs.Str.Parse.{digits_value}
use Rattle.rp_output.specs.rp_base.specs.declared.reply.Reply.{Reply}
use Rattle.rp_output.specs.rp_base.specs.declared.reply.Reply.TheVariants.{Value, Truth}
use Rattle.rp_output.specs.rp_base.specs.declared.reply.Reply.TheVariants.{ConstraintError}
use Rattle.rp_output.specs.rp_base.specs.declared.reply.Reply.TheVariants.{ProgramError}
use Rattle.rp_output.specs.rp_base.specs.declared.reply.Reply.TheVariants.{NoSuchOperation}

-- What a line says: a task, by its name, takes the reply to its call of this number; a node runs
-- again, with the numbers of records found and of bytes truncated; it was running already; it has
-- no place for one more pending item; it has applied this many actions; it is stopped; a step of the
-- script's line of this number was refused, by the code and the name of a fault; `drain` in that
-- line delivered as many messages as it may; or the logs agree.
pub data LineRead : Type 0 where
  ReplyTaken : List ℕ → ℕ → Reply → LineRead
  NodeOpened : ℕ → ℕ → ℕ → LineRead
  NodeRunning : ℕ → LineRead
  NodeFull : ℕ → LineRead
  NodeApplied : ℕ → ℕ → LineRead
  NodeStopped : ℕ → LineRead
  StepRefused : ℕ → ℕ → List ℕ → LineRead
  DrainEnded : ℕ → LineRead
  LogsAgree : LineRead

-- the same bytes
abbrev pub is_word : List ℕ → List ℕ → Bool
is_word word other = pointwise nat_eq word other

-- the words of a text: what is between its spaces
abbrev pub with_first : ℕ → List (List ℕ) → List (List ℕ)
with_first byte [] = (byte ∷ []) ∷ []
with_first byte (word ∷ rest) = (byte ∷ word) ∷ rest

abbrev pub words_in : List ℕ → List (List ℕ)
words_in [] = [] ∷ []
words_in (byte ∷ rest) =
    if byte == 32 then [] ∷ words_in rest else with_first byte (words_in rest)

-- a number, where a minus may come first
abbrev pub signed_in : List ℕ → ℤ
signed_in [] = pos 0
signed_in (byte ∷ rest) =
    if byte == 45 then neg_ℤ (pos (digits_value 10 rest)) else pos (digits_value 10 (byte ∷ rest))

-- the words of a reply
abbrev pub truth_in : List ℕ → Option Reply
truth_in word =
    if is_word word (codes "true") then Some (Truth true)
    else if is_word word (codes "false") then Some (Truth false) else None

abbrev pub exception_in : List ℕ → Option Reply
exception_in word =
    if is_word word (codes "Constraint_Error") then Some ConstraintError
    else if is_word word (codes "Program_Error") then Some ProgramError
    else if is_word word (codes "No_Such_Operation") then Some NoSuchOperation
    else None

abbrev pub printed_reply : List (List ℕ) → Option Reply
printed_reply (kind ∷ value ∷ []) =
    if is_word kind (codes "value") then Some (Value (signed_in value))
    else if is_word kind (codes "truth") then truth_in value else None
printed_reply (name ∷ []) = exception_in name
printed_reply _ = None

-- the words after `reply`
abbrev pub taken_in : List (List ℕ) → Option LineRead
taken_in (task ∷ number ∷ reply) =
    option_map (λ r. ReplyTaken task (digits_value 10 number) r) (printed_reply reply)
taken_in _ = None

-- the words after `node`
abbrev pub two_words_in : ℕ → List ℕ → List ℕ → Option LineRead
two_words_in node first second =
    if is_word first (codes "applied") then Some (NodeApplied node (digits_value 10 second))
    else if is_word first (codes "already") && is_word second (codes "running")
    then Some (NodeRunning node)
    else if is_word first (codes "pending") && is_word second (codes "full")
    then Some (NodeFull node) else None

abbrev pub state_in : List (List ℕ) → Option LineRead
state_in (node ∷ open' ∷ records ∷ found ∷ cut ∷ bytes ∷ []) =
    if is_word open' (codes "open") && is_word records (codes "records")
    && is_word cut (codes "cut")
    then Some (NodeOpened (digits_value 10 node) (digits_value 10 found) (digits_value 10 bytes))
    else None
state_in (node ∷ first ∷ second ∷ []) = two_words_in (digits_value 10 node) first second
state_in (node ∷ word ∷ []) =
    if is_word word (codes "stopped") then Some (NodeStopped (digits_value 10 node)) else None
state_in _ = None

-- what is before a colon
abbrev pub before_colon : List ℕ → List ℕ
before_colon [] = []
before_colon (byte ∷ rest) = if byte == 58 then [] else byte ∷ before_colon rest

-- the words after `line`
abbrev pub step_in : List (List ℕ) → Option LineRead
step_in (number ∷ refused ∷ code ∷ name ∷ []) =
    if is_word refused (codes "refused")
    then Some (StepRefused (digits_value 10 (before_colon number)) (digits_value 10 code) name)
    else None
step_in (number ∷ drain ∷ limit ∷ []) =
    if is_word drain (codes "drain") && is_word limit (codes "limit")
    then Some (DrainEnded (digits_value 10 (before_colon number))) else None
step_in _ = None

abbrev pub line_in : List (List ℕ) → Option LineRead
line_in [] = None
line_in (word ∷ rest) =
    if is_word word (codes "reply") then taken_in rest
    else if is_word word (codes "node") then state_in rest
    else if is_word word (codes "line") then step_in rest
    else None

-- what a line says, if anything
abbrev pub read_line : List ℕ → Option LineRead
read_line text =
    if is_word text (codes "logs agree") then Some LogsAgree else line_in (words_in text)

-- no byte of the text is a space
abbrev pub HasNoSpace : List ℕ → Type 0
HasNoSpace [] = Unit {0}
HasNoSpace (byte ∷ rest) = (byte ≢ 32) × HasNoSpace rest
