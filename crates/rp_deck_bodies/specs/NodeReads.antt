-- What reading the nodes of an expression or of a condition did (no public clause names it).
use Rattle.std.specs.Prelude.{◌≡◌, ℕ, IsTrue, List, codes, Option, Some, None, Result, Ok}
use Rattle.std.specs.Prelude.{if◌then◌else◌}
use Rattle.std.specs.Str.{bytes_eq}
use Rattle.rp_words.specs.indexmap.specs.IndexMap.{values}
use Rattle.rp_body.specs.Check.{expr_names, cond_names}
use Rattle.rp_body.specs.declared.expression.Expr.{Expr}
use Rattle.rp_body.specs.declared.expression.Cond.{Cond}
use Rattle.rp_words.specs.declared.line_error.LineError.{LineError}
use Rattle.rp_words.specs.rp_base.specs.declared.fault.DeckReason.TheVariants.{BadNumber}
use Rattle.rp_words.specs.Reading.{Makes, some_or}
use Rattle.rp_words.specs.Tables.{key_names}
use Rattle.rp_words.specs.Words.{begins_as_number, number_of, unread}
use Rattle.rp_deck_bodies.specs.declared.expressions.ExprWord.{ExprWord}
use Rattle.rp_deck_bodies.specs.declared.expressions.ExprWord.TheVariants as words
use Rattle.rp_deck_bodies.specs.declared.expressions.Nodes.{Nodes}
use Rattle.rp_deck_bodies.specs.declared.names.Component.{Component}
use Rattle.rp_deck_bodies.specs.Counted.{WhereCounted}
use Rattle.rp_deck_bodies.specs.Expressions.{NodeReader, ExprText, Number, Arg, Out, Int, Add}
use Rattle.rp_deck_bodies.specs.Expressions.{Sub, CondText, leaf, two_at, int_of, expr_at, cond_at}
use Rattle.rp_deck_bodies.specs.ExpressionViews.{expr_text, cond_text}

-- it returned what the reader says, seen by view, and the names are the same
abbrev pub Reads : {X Y : Type 0} → (X → Y) → NodeReader Y → Nodes → Nodes → Result X LineError
    → Type 0
Reads view reader old new result =
    Makes (λ x. (view x, new.left, unread new.words)) result (reader old.left (unread old.words))
    × (new.names ≡ old.names)

abbrev pub ReadsExpr : NodeReader ExprText → Nodes → Nodes → Result Expr LineError → Type 0
ReadsExpr reader old new result = Reads expr_text reader old new result

abbrev pub ReadsCond : NodeReader CondText → Nodes → Nodes → Result Cond LineError → Type 0
ReadsCond reader old new result = Reads cond_text reader old new result

-- an expression, and a condition, at most so deep
abbrev pub expr_in : Nodes → ℕ → NodeReader ExprText
expr_in nodes depth = expr_at (key_names nodes.names.now) (values nodes.names.now) depth

abbrev pub cond_in : Nodes → ℕ → NodeReader CondText
cond_in nodes depth = cond_at (key_names nodes.names.now) (values nodes.names.now) depth

-- the words by which an expression begins, but for a number and a component's name
abbrev pub expr_word_named : List ℕ → Option ExprWord
expr_word_named word =
    if bytes_eq word (codes "arg") then Some words.Arg
    else if bytes_eq word (codes "out") then Some words.Out
    else if bytes_eq word (codes "add") then Some words.Add
    else if bytes_eq word (codes "sub") then Some words.Sub
    else None

module _ (names : List (List ℕ)) (declared : List Component) where
  -- an expression by what its first word names, each part of it read by part
  unfoldable pub expr_of : NodeReader ExprText → Option ExprWord → List ℕ → NodeReader ExprText
  expr_of part (Some words.Arg) word left rest = Ok (Arg, left, rest)
  expr_of part (Some words.Out) word left rest = Ok (Out, left, rest)
  expr_of part (Some words.Add) word left rest = two_at part Add left rest
  expr_of part (Some words.Sub) word left rest = two_at part Sub left rest
  expr_of part None word left rest =
      if begins_as_number word then leaf Number (some_or BadNumber (number_of word)) left rest
      else leaf Int (int_of names declared word) left rest

-- the components in it are counted
abbrev pub IsExprCounted : Nodes → Expr → Type 0
IsExprCounted nodes expr =
    WhereCounted (values nodes.names.now) (λ limits. IsTrue (expr_names limits expr))

abbrev pub IsCondCounted : Nodes → Cond → Type 0
IsCondCounted nodes cond =
    WhereCounted (values nodes.names.now) (λ limits. IsTrue (cond_names limits cond))
