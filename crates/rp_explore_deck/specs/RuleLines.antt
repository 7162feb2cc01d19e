-- The rules of a deck: what has to hold in each state that its actions lead to.
use Rattle.std.specs.Prelude.{ℕ, zero, suc, ◌+◌, Bool, true, false, not, List, [], ◌∷◌, ◌++◌, codes}
use Rattle.std.specs.Prelude.{slice_get, Result, Ok, Err, if◌then◌else◌}
use Rattle.std.specs.Str.{bytes_eq}
use Rattle.rp_deck.specs.rp_base.specs.declared.action.Operation.{Operation}
use Rattle.rp_deck.specs.rp_base.specs.declared.action.Operation.TheVariants.{Function}
use Rattle.rp_deck.specs.rp_base.specs.declared.fault.DeckReason.{DeckReason}
use Rattle.rp_deck.specs.rp_base.specs.declared.fault.DeckReason.TheVariants.{UnknownWord}
use Rattle.rp_deck.specs.rp_base.specs.declared.fault.DeckReason.TheVariants.{UnknownName, TooMany}
use Rattle.rp_deck.specs.ScriptLines.{declared_at}
use Rattle.rp_deck_declarations.specs.DeclaredTexts.{ProgramText, Objects}
use Rattle.rp_deck_declarations.specs.ScriptNames.{DeclaredNames}
use Rattle.rp_deck_declarations.specs.rp_deck_objects.specs.Objects.{FunctionText, Value}
use Rattle.rp_deck_declarations.specs.rp_deck_objects.specs.Objects.{Truth as IsTruth}
use Rattle.rp_deck_declarations.specs.rp_entry.specs.Operations.{of_index}
use Rattle.rp_explore_deck.specs.AddedLines.{rule_named}
use Rattle.rp_explore_deck.specs.declared.rules.RuleKind.{RuleKind}
use Rattle.rp_explore_deck.specs.declared.rules.RuleKind.TheVariants as kinds
use Rattle.rp_explore_deck.specs.declared.rules.Truth.{Truth}
use Rattle.rp_deck_declarations.specs.rp_object.specs.Program.{is_some_and}
use Rattle.rp_words.specs.Lines.{LineText}
use Rattle.rp_words.specs.Reading.{◌>>=◌, some_or, unless, word_at, end_at, dotted_of}
use Rattle.rp_words.specs.Tables.{place_of, find}
use Rattle.rp_words.specs.Words.{is_at_end}

-- these functions are never all true at once; each is true in every state; each is true wherever
-- nothing is left to happen; the task of this number does not wait there
pub data RuleText : Type 0 where
  Never : (truths : List Truth) → RuleText
  Always : (truths : List Truth) → RuleText
  Finally : (truths : List Truth) → RuleText
  Free : (task : ℕ) → RuleText

-- a rule, and the number of its line
pub record PlacedRuleText : Type 0 where
  pub line : ℕ
  pub rule : RuleText

-- ---- functions

abbrev pub is_truth : FunctionText → Bool
is_truth (Value expr) = false
is_truth (IsTruth cond) = true

-- the operation of an object is a function that returns a Boolean
abbrev pub has_truth : ProgramText → ℕ → Operation → Bool
has_truth (Objects profile objects) number (Function index) =
    is_some_and (λ object. is_some_and is_truth (of_index object.functions index))
    (of_index objects number)
has_truth _ number operation = false

-- the word `OBJECT.FUNCTION`, of a function that returns a Boolean
unfoldable pub truth_of : DeclaredNames → ProgramText → List ℕ → Result Truth DeckReason
truth_of d program word = do
  names ← dotted_of word
  place ← some_or UnknownName (place_of names.0 d.objects)
  object ← some_or UnknownName (slice_get d.operations place)
  operation ← some_or UnknownName (find names.1 object.names object.operations)
  truth ← unless UnknownName (not (has_truth program (place + 1) operation))
  Ok (record { object = place + 1; operation = operation })

-- the next word as such a function
unfoldable pub truth_at : DeclaredNames → ProgramText → List ℕ → Result (Truth × List ℕ) DeckReason
truth_at d program words = do
  word ← word_at words
  truth ← truth_of d program word.0
  Ok (truth, word.1)

-- the functions that were read before, and those that the words up to the end of the line name, at
-- most n more
unfoldable pub truths_at : ℕ → DeclaredNames → ProgramText → List Truth → List ℕ
    → Result (List Truth) DeckReason
truths_at zero d program before words = if is_at_end words then Ok before else Err TooMany
truths_at (suc most) d program before words =
    if is_at_end words then Ok before
    else (truth_at d program words
    >>= (λ truth. truths_at most d program (before ++ truth.0 ∷ []) truth.1))

-- the most functions of a rule after the first: a program has 64 at most
abbrev pub most_truths : ℕ
most_truths = 63

-- ---- lines

abbrev pub rule_of : RuleKind → List Truth → RuleText
rule_of kinds.Never truths = Never truths
rule_of kinds.Always truths = Always truths
rule_of kinds.Finally truths = Finally truths

-- the line begins with `finally free`
abbrev pub is_free : RuleKind → List ℕ → Bool
is_free kinds.Finally word = bytes_eq word (codes "free")
is_free _ word = false

-- the rest of `finally free TASK`
unfoldable pub free_at : DeclaredNames → List ℕ → Result RuleText DeckReason
free_at d words = do
  task ← declared_at d.tasks words
  e ← end_at task.1
  Ok (Free task.0)

-- the rest of a rule, after its first word and the next one
unfoldable pub truths_from : DeclaredNames → ProgramText → RuleKind → List ℕ → List ℕ
    → Result RuleText DeckReason
truths_from d program kind word words = do
  truth ← truth_of d program word
  truths ← truths_at most_truths d program (truth ∷ []) words
  Ok (rule_of kind truths)

-- `never F ..`, `always F ..`, `finally F ..`, `finally free TASK`
unfoldable pub rule_line : DeclaredNames → ProgramText → LineText → Result PlacedRuleText DeckReason
rule_line d program line = do
  kind ← some_or UnknownWord (rule_named line.first)
  word ← word_at line.rest
  rule ← (if is_free kind word.0 then free_at d word.1
      else truths_from d program kind word.0 word.1)
  Ok (record { line = line.number; rule = rule })
