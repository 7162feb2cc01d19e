-- A tree of nodes by its first word.
use Rattle.std.proofs.Common.{◌≡◌, ℕ, zero, suc, ◌+◌, Bool, true, false, List, Option, Some, None, Result, Ok, Err, arith, refl, ap, ◌∙◌}
use Rattle.std.specs.Prelude.{codes, if◌then◌else◌}
use Rattle.std.specs.Str.{bytes_eq}
use Rattle.rp_words.specs.rp_base.specs.declared.fault.DeckReason.{DeckReason}
use Rattle.rp_words.specs.rp_base.specs.declared.fault.DeckReason.TheVariants.{BadExpression}
use Rattle.rp_words.specs.Reading.{◌>>=◌}
use Rattle.rp_words.specs.rp_base.specs.declared.fault.DeckReason.TheVariants.{BadNumber}
use Rattle.rp_words.specs.Reading.{some_or}
use Rattle.rp_words.specs.Words.{begins_as_number, number_of}
use Rattle.rp_deck_bodies.specs.declared.expressions.ExprWord.{ExprWord}
use Rattle.rp_deck_bodies.specs.declared.expressions.ExprWord.TheVariants as words
use Rattle.rp_deck_bodies.specs.declared.names.Component.{Component}
use Rattle.rp_deck_bodies.specs.Expressions.{NodeReader, ExprText, Number, Arg, Out, Int, Add, Sub, leaf, two_at, int_of, expr_from, next_node_read, tree_at}
use Rattle.rp_deck_bodies.specs.NodeReads.{expr_word_named, expr_of}

module _ {X : Type 0} (from : NodeReader X → List ℕ → NodeReader X) where
  -- no node, and so no tree
  pub tree_refused : (depth left : ℕ) (words : List ℕ) (reason : DeckReason) → next_node_read left words ≡ Err reason → tree_at from depth left words ≡ Err reason
  unfolding tree_at
  tree_refused zero left words reason h = ap (λ (node : Result (List ℕ × ℕ × List ℕ) DeckReason). node >>= (λ _. Err BadExpression)) h
  tree_refused (suc depth) left words reason h = ap (λ (node : Result (List ℕ × ℕ × List ℕ) DeckReason). node >>= (λ n. from (tree_at from depth) n.0 n.1 n.2)) h

  -- a node that is too deep
  pub tree_too_deep : (depth left : ℕ) (words : List ℕ) (node : List ℕ × ℕ × List ℕ) → depth ≡ 0 → next_node_read left words ≡ Ok node → tree_at from depth left words ≡ Err BadExpression
  unfolding tree_at
  tree_too_deep zero left words node none h = ap (λ (found : Result (List ℕ × ℕ × List ℕ) DeckReason). found >>= (λ _. Err BadExpression)) h
  tree_too_deep (suc depth) left words node none h = absurd (omega (arith, none))

  -- a node, and then the parts, which are less deep
  next_deeper : (depth left : ℕ) (words : List ℕ) (node : List ℕ × ℕ × List ℕ) → next_node_read left words ≡ Ok node → tree_at from (suc depth) left words ≡ from (tree_at from depth) node.0 node.1 node.2
  unfolding tree_at
  next_deeper depth left words node h = ap (λ (found : Result (List ℕ × ℕ × List ℕ) DeckReason). found >>= (λ n. from (tree_at from depth) n.0 n.1 n.2)) h

  pub tree_deeper : (depth inner left : ℕ) (words : List ℕ) (node : List ℕ × ℕ × List ℕ) → inner + 1 ≡ depth
      → next_node_read left words ≡ Ok node → tree_at from depth left words ≡ from (tree_at from inner) node.0 node.1 node.2
  tree_deeper depth inner left words node is h =
      let one : depth ≡ suc inner = omega arith in
      ap (λ k. tree_at from k left words) one ∙ next_deeper inner left words node h

-- an expression by what its first word names
pub expr_by_word : (names : List (List ℕ)) (declared : List Component) (part : NodeReader ExprText) (word : List ℕ) (left : ℕ) (rest : List ℕ)
    → expr_from names declared part word left rest ≡ expr_of names declared part (expr_word_named word) word left rest
unfolding expr_from expr_of
expr_by_word names declared part word left rest = by (bytes_eq word (codes "arg")) (bytes_eq word (codes "out")) (bytes_eq word (codes "add")) (bytes_eq word (codes "sub"))
  where
    last : Result (ExprText × ℕ × List ℕ) DeckReason
    last = if begins_as_number word then leaf Number (some_or BadNumber (number_of word)) left rest else leaf Int (int_of names declared word) left rest

    by : (a b c d : Bool)
        → (if a then Ok (Arg, left, rest) else if b then Ok (Out, left, rest) else if c then two_at part Add left rest else if d then two_at part Sub left rest else last)
        ≡ expr_of names declared part (if a then Some words.Arg else if b then Some words.Out else if c then Some words.Add else if d then Some words.Sub else None) word left rest
    by true b c d = refl
    by false true c d = refl
    by false false true d = refl
    by false false false true = refl
    by false false false false = refl
