-- The lines of a deck for `explore` that live mode does not have, rules and guards, and the deck
-- without them.
use Rattle.std.specs.Prelude.{ℕ, ◌+◌, ◌||◌, Bool, true, false, nat_eq, List, [], ◌∷◌, ◌++◌, codes}
use Rattle.std.specs.Prelude.{Option, Some, None, is_some, Result, Ok, if◌then◌else◌}
use Rattle.std.specs.List.{list_any}
use Rattle.std.specs.Str.{bytes_eq}
use Rattle.rp_deck.specs.rp_base.specs.Sets.{with_member}
use Rattle.rp_deck.specs.rp_base.specs.declared.fault.DeckReason.{DeckReason}
use Rattle.rp_deck_declarations.specs.Declaring.{on_line}
use Rattle.rp_explore_deck.specs.declared.rules.RuleKind.{RuleKind}
use Rattle.rp_explore_deck.specs.declared.rules.RuleKind.TheVariants.{Never, Always, Finally}
use Rattle.rp_words.specs.LineFaults.{BadLine}
use Rattle.rp_words.specs.Lines.{LineText, is_line_feed}

-- ---- which lines they are

-- the first word of a rule
abbrev pub rule_named : List ℕ → Option RuleKind
rule_named word =
    if bytes_eq word (codes "never") then Some Never
    else if bytes_eq word (codes "always") then Some Always
    else if bytes_eq word (codes "finally") then Some Finally
    else None

-- the first word of a guard: whether its reply is wanted
abbrev pub guard_named : List ℕ → Option Bool
guard_named word =
    if bytes_eq word (codes "when") then Some true
    else if bytes_eq word (codes "unless") then Some false
    else None

abbrev pub is_script : LineText → Bool
is_script line = bytes_eq line.first (codes "script")

abbrev pub is_rule : LineText → Bool
is_rule line = is_some (rule_named line.first)

abbrev pub is_guard : LineText → Bool
is_guard line = is_some (guard_named line.first)

-- the number of a line is among these
abbrev pub is_line_among : List ℕ → ℕ → Bool
is_line_among numbers number = list_any (nat_eq number) numbers

abbrev pub with_line : List ℕ → LineText → List ℕ
with_line numbers line = with_member nat_eq numbers line.number

-- the rules, by their numbers: the lines right before the first `script` that begin so, where those
-- right before these lines are known
abbrev pub rules_after : List ℕ → List LineText → List ℕ
rules_after before [] = []
rules_after before (line ∷ lines) =
    if is_script line then before
    else if is_rule line then rules_after (with_line before line) lines
    else rules_after [] lines

-- the lines after the first `script`
abbrev pub after_script : List LineText → List LineText
after_script [] = []
after_script (line ∷ lines) = if is_script line then lines else after_script lines

-- the lines that begin as guards, by their numbers, and those that are known already
abbrev pub guards_after : List ℕ → List LineText → List ℕ
guards_after known [] = known
guards_after known (line ∷ lines) =
    guards_after (if is_guard line then with_line known line else known) lines

-- the numbers of the rules, and of the guards
pub record Added : Type 0 where
  pub rules : List ℕ
  pub guards : List ℕ

abbrev pub added_lines : List LineText → Added
added_lines lines =
    record { rules = rules_after [] lines; guards = guards_after [] (after_script lines) }

abbrev pub is_added : Added → ℕ → Bool
is_added added number = is_line_among added.rules number || is_line_among added.guards number

-- ---- the deck without them

-- the bytes from somewhere in the line of this number on, where each byte of an added line is a
-- space
abbrev pub blanked : Added → ℕ → List ℕ → List ℕ
blanked added number [] = []
blanked added number (byte ∷ rest) =
    if is_line_feed byte then byte ∷ blanked added (number + 1) rest
    else (if is_added added number then 32 else byte) ∷ blanked added number rest

-- the text with its added lines blank, so that the others keep their numbers
abbrev pub plain_text : Added → List ℕ → List ℕ
plain_text added text = blanked added 1 text

-- ---- how some of the lines are read

-- what was read before, and what each line of these numbers says, or the first of them that is bad
abbrev pub read_lines : {X : Type 0} → List ℕ → (LineText → Result X DeckReason) → List X
    → List LineText → Result (List X) BadLine
read_lines numbers read before [] = Ok before
read_lines numbers read before (line ∷ lines) =
    if is_line_among numbers line.number
    then on_line line.number (read line)
    (λ x. read_lines numbers read (before ++ x ∷ []) lines)
    else read_lines numbers read before lines
