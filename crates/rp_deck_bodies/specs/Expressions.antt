-- Expressions and conditions, and how their words are read.
use Rattle.std.specs.Prelude.{ℕ, zero, suc, ◌-◌, ◌==◌, ℤ, Bool, true, false, List, [], ◌∷◌, codes}
use Rattle.std.specs.Prelude.{Option, Some, None, Result, Ok, Err, if◌then◌else◌}
use Rattle.std.specs.Str.{bytes_eq}
use Rattle.rp_words.specs.rp_base.specs.declared.fault.DeckReason.{DeckReason}
use Rattle.rp_words.specs.rp_base.specs.declared.fault.DeckReason.TheVariants.{BadExpression}
use Rattle.rp_words.specs.rp_base.specs.declared.fault.DeckReason.TheVariants.{BadNumber}
use Rattle.rp_words.specs.rp_base.specs.declared.fault.DeckReason.TheVariants.{UnknownName}
use Rattle.rp_deck_bodies.specs.declared.expressions.CondWord.{CondWord}
use Rattle.rp_deck_bodies.specs.declared.expressions.CondWord.TheVariants as words
use Rattle.rp_deck_bodies.specs.declared.names.Component.{Component}
use Rattle.rp_deck_bodies.specs.declared.names.Component.TheVariants as components
use Rattle.rp_words.specs.Tables.{find}
use Rattle.rp_words.specs.Words.{begins_as_number, number_of}
use Rattle.rp_words.specs.Reading.{◌>>=◌, some_or, unless, word_at, end_at, name_of}

pub data ExprText : Type 0 where
  Number : (number : ℤ) → ExprText
  Arg : ExprText
  Out : ExprText
  Int : (place : ℕ) → ExprText
  Add : (first second : ExprText) → ExprText
  Sub : (first second : ExprText) → ExprText

pub data CondText : Type 0 where
  Constant : (truth : Bool) → CondText
  Named : (place : ℕ) → CondText
  Less : (first second : ExprText) → CondText
  LessOrEqual : (first second : ExprText) → CondText
  Equal : (first second : ExprText) → CondText
  Not : (negated : CondText) → CondText
  And : (first second : CondText) → CondText
  Or : (first second : CondText) → CondText

-- the words of expressions and conditions, by which no component may be named
abbrev pub expression_words : List (List ℕ)
expression_words =
    codes "arg" ∷ codes "out" ∷ codes "add" ∷ codes "sub" ∷ codes "true" ∷ codes "false"
    ∷ codes "lt" ∷ codes "le" ∷ codes "eq" ∷ codes "not" ∷ codes "and" ∷ codes "or" ∷ []

-- what a component's name denotes, of a kind
abbrev pub int_place : Component → Option ℕ
int_place (components.Int place) = Some place
int_place (components.Bool place) = None

abbrev pub bool_place : Component → Option ℕ
bool_place (components.Int place) = None
bool_place (components.Bool place) = Some place

-- the words by which a condition begins, but for a component's name
abbrev pub cond_word_named : List ℕ → Option CondWord
cond_word_named word =
    if bytes_eq word (codes "true") then Some words.True
    else if bytes_eq word (codes "false") then Some words.False
    else if bytes_eq word (codes "lt") then Some words.Less
    else if bytes_eq word (codes "le") then Some words.LessOrEqual
    else if bytes_eq word (codes "eq") then Some words.Equal
    else if bytes_eq word (codes "not") then Some words.Not
    else if bytes_eq word (codes "and") then Some words.And
    else if bytes_eq word (codes "or") then Some words.Or
    else None

-- A reader of an expression or of a condition: of how many nodes are left and the bytes of the
-- line, what was read, how many nodes are left after it, and the bytes after it.
abbrev pub NodeReader : Type 0 → Type 0
NodeReader X = ℕ → List ℕ → Result (X × ℕ × List ℕ) DeckReason

-- the word of one node more
unfoldable pub next_node_read : NodeReader (List ℕ)
next_node_read left words = do
  word ← word_at words
  more ← unless BadExpression (left == 0)
  Ok (word.0, left - 1, word.1)

-- a node without parts
abbrev pub leaf : {X Y : Type 0} → (X → Y) → Result X DeckReason → NodeReader Y
leaf make (Ok x) left words = Ok (make x, left, words)
leaf make (Err reason) left words = Err reason

-- one part, and what is made of it
abbrev pub one_at : {X Y : Type 0} → NodeReader X → (X → Y) → NodeReader Y
one_at part make left words = do
  first ← part left words
  Ok (make first.0, first.1, first.2)

-- two parts, one after the other, and what is made of them
abbrev pub two_at : {X Y : Type 0} → NodeReader X → (X → X → Y) → NodeReader Y
two_at part make left words = do
  first ← part left words
  second ← part first.1 first.2
  Ok (make first.0 second.0, second.1, second.2)

-- at most so deep: the word of a node, and what from reads after it, each part one less deep
unfoldable pub tree_at : {X : Type 0} → (NodeReader X → List ℕ → NodeReader X) → ℕ → NodeReader X
tree_at from zero left words = do
  node ← next_node_read left words
  Err BadExpression
tree_at from (suc depth) left words = do
  node ← next_node_read left words
  from (tree_at from depth) node.0 node.1 node.2

-- at most 32 nodes, and no word after them
unfoldable pub tree_line : {X : Type 0} → (NodeReader X → List ℕ → NodeReader X) → List ℕ
    → Result X DeckReason
tree_line from words = do
  tree ← tree_at from 32 32 words
  e ← end_at tree.2
  Ok tree.0

module _ (names : List (List ℕ)) (declared : List Component) where
  unfoldable pub component_of : List ℕ → Result Component DeckReason
  component_of word = do
    name ← name_of word
    some_or UnknownName (find name names declared)

  -- the word as the name of a whole-number component
  unfoldable pub int_of : List ℕ → Result ℕ DeckReason
  int_of word = do
    component ← component_of word
    some_or UnknownName (int_place component)

  -- the word as the name of a Boolean component
  unfoldable pub bool_of : List ℕ → Result ℕ DeckReason
  bool_of word = do
    component ← component_of word
    some_or UnknownName (bool_place component)

  -- an expression that begins with this word, each part of it read by part
  unfoldable pub expr_from : NodeReader ExprText → List ℕ → NodeReader ExprText
  expr_from part word left words =
      if bytes_eq word (codes "arg") then Ok (Arg, left, words)
      else if bytes_eq word (codes "out") then Ok (Out, left, words)
      else if bytes_eq word (codes "add") then two_at part Add left words
      else if bytes_eq word (codes "sub") then two_at part Sub left words
      else if begins_as_number word then leaf Number (some_or BadNumber (number_of word)) left words
      else leaf Int (int_of word) left words

  -- an expression, at most so deep
  abbrev pub expr_at : ℕ → NodeReader ExprText
  expr_at = tree_at expr_from

  -- a whole expression
  abbrev pub expr_line : List ℕ → Result ExprText DeckReason
  expr_line = tree_line expr_from

  -- a condition that begins with this word, each condition in it read by part
  unfoldable pub cond_of : NodeReader CondText → Option CondWord → List ℕ → NodeReader CondText
  cond_of part (Some words.True) word left rest = Ok (Constant true, left, rest)
  cond_of part (Some words.False) word left rest = Ok (Constant false, left, rest)
  cond_of part (Some words.Less) word left rest = two_at (expr_at 32) Less left rest
  cond_of part (Some words.LessOrEqual) word left rest = two_at (expr_at 32) LessOrEqual left rest
  cond_of part (Some words.Equal) word left rest = two_at (expr_at 32) Equal left rest
  cond_of part (Some words.Not) word left rest = one_at part Not left rest
  cond_of part (Some words.And) word left rest = two_at part And left rest
  cond_of part (Some words.Or) word left rest = two_at part Or left rest
  cond_of part None word left rest = leaf Named (bool_of word) left rest

  abbrev pub cond_from : NodeReader CondText → List ℕ → NodeReader CondText
  cond_from part word = cond_of part (cond_word_named word) word

  -- a condition, at most so deep, the nodes of its expressions counted too
  abbrev pub cond_at : ℕ → NodeReader CondText
  cond_at = tree_at cond_from

  -- a whole condition
  abbrev pub cond_line : List ℕ → Result CondText DeckReason
  cond_line = tree_line cond_from
