-- Bodies of operations, and how each line of one goes on.
use Rattle.std.specs.Prelude.{ℕ, ◌-◌, ◌==◌, Bool, true, false, not, nat_lt, List, [], ◌∷◌, codes}
use Rattle.std.specs.Prelude.{length, Option, Some, None, is_some, Result, Ok, if◌then◌else◌}
use Rattle.std.specs.Str.{bytes_eq}
use Rattle.rp_words.specs.rp_base.specs.declared.fault.DeckReason.{DeckReason}
use Rattle.rp_words.specs.rp_base.specs.declared.fault.DeckReason.TheVariants.{UnknownWord, TooMany}
use Rattle.rp_deck_bodies.specs.declared.names.Component.{Component}
use Rattle.rp_deck_bodies.specs.declared.statements.BodyWord.{BodyWord}
use Rattle.rp_deck_bodies.specs.declared.statements.BodyWord.TheVariants.{Statement, Else, End}
use Rattle.rp_deck_bodies.specs.declared.statements.StatementWord.{StatementWord}
use Rattle.rp_deck_bodies.specs.declared.statements.StatementWord.TheVariants as words
use Rattle.rp_words.specs.Lines.{LineText}
use Rattle.rp_words.specs.Reading.{◌>>=◌, some_or, unless, word_at, end_at}
use Rattle.rp_deck_bodies.specs.Expressions.{ExprText, CondText, int_of, bool_of, expr_line}
use Rattle.rp_deck_bodies.specs.Expressions.{cond_line}

-- statements in order: the last one, and those before it
pub data BodyText : Type 0 where
  Empty : BodyText
  Set : (before : BodyText) (place : ℕ) (value : ExprText) → BodyText
  Put : (before : BodyText) (place : ℕ) (value : CondText) → BodyText
  Out : (before : BodyText) (value : ExprText) → BodyText
  If : (before : BodyText) (condition : CondText) (first second : BodyText) → BodyText

-- an `if` whose `end` was not read yet: its condition, the statements before it, and once its
-- `else` was read the statements up to there
pub record OpenIfText : Type 0 where
  pub condition : CondText
  pub before : BodyText
  pub first : Option BodyText

-- a body whose `end` was not read yet: the open `if`s, the innermost first, the statements of the
-- innermost part, and how many more there may be
pub record OpenBodyText : Type 0 where
  pub ifs : List OpenIfText
  pub statements : BodyText
  pub left : ℕ

-- a body that has no line yet
abbrev pub begun_body : OpenBodyText
begun_body = record { ifs = []; statements = Empty; left = 64 }

abbrev pub body_word_named : List ℕ → Option BodyWord
body_word_named first =
    if bytes_eq first (codes "set") then Some (Statement words.Set)
    else if bytes_eq first (codes "put") then Some (Statement words.Put)
    else if bytes_eq first (codes "out") then Some (Statement words.Out)
    else if bytes_eq first (codes "if") then Some (Statement words.If)
    else if bytes_eq first (codes "else") then Some Else
    else if bytes_eq first (codes "end") then Some End
    else None

-- `else` may follow the first statements of an `if`
abbrev pub may_turn : List OpenIfText → Bool
may_turn [] = false
may_turn (innermost ∷ outer) = not (is_some innermost.first)

abbrev pub may_follow : OpenBodyText → BodyWord → Bool
may_follow b (Statement word) = true
may_follow b Else = may_turn b.ifs
may_follow b End = true

-- the first word of a line
unfoldable pub body_word : OpenBodyText → List ℕ → Result BodyWord DeckReason
body_word b first = do
  word ← some_or UnknownWord (body_word_named first)
  here ← unless UnknownWord (not (may_follow b word))
  Ok word

-- one statement more, at most 8 deep and at most 64 in a body
unfoldable pub one_more : OpenBodyText → Result OpenBodyText DeckReason
one_more b = do
  deep ← unless TooMany (not (nat_lt (length b.ifs) 8))
  many ← unless TooMany (b.left == 0)
  Ok (record b { left = b.left - 1 })

-- at `else`
abbrev pub with_else_at : List OpenIfText → OpenBodyText → OpenBodyText
with_else_at [] b = b
with_else_at (innermost ∷ outer) b = record b {
  ifs = record innermost { first = Some b.statements } ∷ outer;
  statements = Empty;
}

abbrev pub with_else : OpenBodyText → OpenBodyText
with_else b = with_else_at b.ifs b

-- the two parts of an `if`, where these are the last statements read of it
abbrev pub first_part : Option BodyText → BodyText → BodyText
first_part None statements = statements
first_part (Some first) statements = first

abbrev pub second_part : Option BodyText → BodyText → BodyText
second_part None statements = Empty
second_part (Some first) statements = statements

-- at the `end` of an `if`
abbrev pub closed_at : List OpenIfText → OpenBodyText → OpenBodyText
closed_at [] b = b
closed_at (innermost ∷ outer) b = record b {
  ifs = outer;
  statements =
      If innermost.before innermost.condition
      (first_part innermost.first b.statements) (second_part innermost.first b.statements);
}

abbrev pub closed : OpenBodyText → OpenBodyText
closed b = closed_at b.ifs b

module _ (names : List (List ℕ)) (declared : List Component) where
  -- a statement, after its first word; of an `if` the condition
  unfoldable pub statement_line : OpenBodyText → StatementWord → List ℕ
      → Result OpenBodyText DeckReason
  statement_line b words.Set rest = do
    word ← word_at rest
    place ← int_of names declared word.0
    value ← expr_line names declared word.1
    Ok (record b { statements = Set b.statements place value })
  statement_line b words.Put rest = do
    word ← word_at rest
    place ← bool_of names declared word.0
    value ← cond_line names declared word.1
    Ok (record b { statements = Put b.statements place value })
  statement_line b words.Out rest = do
    value ← expr_line names declared rest
    Ok (record b { statements = Out b.statements value })
  statement_line b words.If rest = do
    condition ← cond_line names declared rest
    Ok (record b {
      ifs = record { condition = condition; before = b.statements; first = None } ∷ b.ifs;
      statements = Empty;
    })

  -- a line by what its first word is, and whether it ends the body
  unfoldable pub body_line_of : OpenBodyText → BodyWord → List ℕ
      → Result (OpenBodyText × Bool) DeckReason
  body_line_of b (Statement word) rest = do
    more ← one_more b
    after ← statement_line more word rest
    Ok (after, false)
  body_line_of b Else rest = do
    e ← end_at rest
    Ok (with_else b, false)
  body_line_of b End rest = do
    e ← end_at rest
    Ok (closed b, length b.ifs == 0)

  -- a line of a body
  unfoldable pub body_line : OpenBodyText → LineText → Result (OpenBodyText × Bool) DeckReason
  body_line b line = do
    word ← body_word b line.first
    body_line_of b word line.rest
