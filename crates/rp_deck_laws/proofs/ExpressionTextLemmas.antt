-- The text of an expression and of a condition is read back.
use Rattle.std.proofs.Common.{◌≡◌, ℕ, zero, suc, ◌+◌, ◌-◌, ◌≤◌, ◌==◌, ◌||◌, ◌&&◌, not, List, [], ◌∷◌, ◌++◌, Bool, true, false, cond, length, Some, Result, Ok, arith, inl, inr, ap, refl, sym, subst, ◌∙◌, append_assoc}
use Rattle.std.specs.Prelude.{ℤ, pos, negsuc, FitsSigned, codes}
use Rattle.std.specs.Fmt.{decimal, signed_decimal}
use Rattle.std.specs.Int.{w64}
use Rattle.std.specs.List.{list_all}
use Rattle.std.specs.Char.{is_ascii_digit, is_ascii_alphabetic}
use Rattle.std.specs.Str.{bytes_eq}
use Rattle.std.proofs.lemmas.List.{append-nil}
use Rattle.std.proofs.lemmas.Bool.{cases_Bool, cond-true, cond-false, eqb-true}
use Rattle.std.proofs.lemmas.Bool.Decides.{nat_tests}
use Rattle.std.proofs.lemmas.Slice.Eq.{bytes_eq-Decides}
use Rattle.rp_deck.specs.rp_base.specs.declared.fault.DeckReason.{DeckReason}
use Rattle.rp_deck_declarations.specs.rp_deck_bodies.specs.declared.names.Component.{Component}
use Rattle.rp_deck_declarations.specs.rp_deck_bodies.specs.declared.names.Component.TheVariants as components
use Rattle.rp_deck_declarations.specs.rp_deck_bodies.specs.Expressions.{NodeReader, ExprText, Number, Arg, Out, Int, Add, Sub, CondText, Constant, Named, Less, LessOrEqual, Equal, Not, And, Or, component_of, int_of, bool_of, next_node_read, two_at, one_at, tree_at, tree_line, expr_from, expr_at, expr_line, cond_of, cond_from, cond_at, cond_line, cond_word_named, expression_words}
use Rattle.rp_deck_laws.specs.ExpressionTexts.{is_int, is_bool, component_name, expr_nodes, cond_nodes, HasOne, AreComponents, expr_words, truth_word, cond_words, IsExprOf, IsCondOf}
use Rattle.rp_words.specs.Reading.{◌>>=◌}
use Rattle.rp_deck_laws.specs.ScriptText.{spaced, is_distinct}
use Rattle.rp_words.specs.Tables.{is_declared, find}
use Rattle.rp_words.specs.Words.{begins_with, is_name, is_digits, begins_as_number, number_of, is_of_name}
use Rattle.rp_words.proofs.WordsLemmas.{both}
use Rattle.rp_deck_laws.proofs.SpacedLemmas.{end_back, is_solid, word_back, name_is, name_solid, signed_solid, signed_back, decimal_digits}
use Rattle.rp_deck_laws.proofs.ScriptTextLemmas.{same_text, or_right, no_first, another, find_step}

-- ---- the name of a component

-- the name of a component that passes a test
pub record IsFound (test : Component → Bool) (names : List (List ℕ)) (declared : List Component) (name : List ℕ) : Type 0 where
  pub component : Component
  pub passes : test component ≡ true
  pub found : find name names declared ≡ Some component
  pub among : is_declared name names ≡ true
  pub name_is : is_name name ≡ true
  pub is_free : not (is_declared name expression_words) ≡ true

found_here : (test : Component → Bool) (name : List ℕ) (names : List (List ℕ)) (first : Component) (rest : List Component) → test first ≡ true → is_name name ≡ true → not (is_declared name expression_words) ≡ true
    → IsFound test (name ∷ names) (first ∷ rest) name
found_here test name names first rest passes name_is is_free = record {
  component = first;
  passes = passes;
  found = find_step name name names first rest ∙ ap (λ (t : Bool). cond t (Some first) (find name names rest)) (same_text name);
  among = ap (λ (t : Bool). t || is_declared name names) (same_text name);
  name_is = name_is;
  is_free = is_free;
}

found_after : (test : Component → Bool) (x name : List ℕ) (names : List (List ℕ)) (first : Component) (rest : List Component) → is_distinct (x ∷ names) ≡ true → IsFound test names rest name → IsFound test (x ∷ names) (first ∷ rest) name
found_after test x name names first rest distinct is = record {
  component = is.component;
  passes = is.passes;
  found = find_step name x names first rest ∙ ap (λ (t : Bool). cond t (Some first) (find name names rest)) (another x name names distinct is.among) ∙ is.found;
  among = or_right (bytes_eq name x) (is_declared name names) is.among;
  name_is = is.name_is;
  is_free = is.is_free;
}

pub finds : (test : Component → Bool) (names : List (List ℕ)) (declared : List Component) → list_all is_name names ≡ true → is_distinct names ≡ true → list_all (λ name. not (is_declared name expression_words)) names ≡ true
    → length names ≡ length declared → HasOne test declared → IsFound test names declared (component_name test names declared)
finds test [] [] all distinct free even one = absurd one
finds test [] (first ∷ rest) all distinct free even one = absurd (omega (arith, even))
finds test (name ∷ names) [] all distinct free even one = absurd (omega (arith, even))
finds test (name ∷ names) (first ∷ rest) all distinct free even one =
    let names_are = both (is_name name) (list_all is_name names) all in
    let apart = both (not (is_declared name names)) (is_distinct names) distinct in
    let are_free = both (not (is_declared name expression_words)) (list_all (λ n. not (is_declared n expression_words)) names) free in
    let later : List ℕ = component_name test names rest in
    elim (cases_Bool (test first)) [
      | inl hit ↦ subst (λ (n : List ℕ). IsFound test (name ∷ names) (first ∷ rest) n) (sym (cond-true (test first) name later hit)) (found_here test name names first rest hit names_are.0 are_free.0)
      | inr miss ↦ subst (λ (n : List ℕ). IsFound test (name ∷ names) (first ∷ rest) n) (sym (cond-false (test first) name later miss))
          (found_after test name later names first rest distinct (finds test names rest names_are.1 apart.1 are_free.1 (omega (arith, even)) (elim one [
            | inl here ↦ absurd (by here miss)
            | inr following ↦ following
          ])))
    ]
  where
    by : test first ≡ true → test first ≡ false → ⊥
    by here miss = cc

-- ---- words of the expressions

or_false : (a b : Bool) → not (a || b) ≡ true → (a ≡ false) × (not b ≡ true)
or_false true b h = absurd cc
or_false false b h = (refl, h)

not_number : (word : List ℕ) → is_name word ≡ true → begins_as_number word ≡ false
not_number [] name = absurd cc
not_number (b ∷ bs) name =
    let t = both (is_ascii_alphabetic b) (list_all is_of_name (b ∷ bs)) (both_right (b ∷ bs) name) in
    grind (arith, nat_tests)
  where
    both_right : (word : List ℕ) → is_name word ≡ true → (begins_with is_ascii_alphabetic word && list_all is_of_name word) ≡ true
    both_right word name = grind (arith, nat_tests)

another_word : (word key : List ℕ) → begins_as_number word ≡ true → begins_as_number key ≡ false → bytes_eq word key ≡ false
another_word word key number other =
    no_first (bytes_eq word key) (λ e. let same : begins_as_number key ≡ true = subst (λ (w : List ℕ). begins_as_number w ≡ true) ((bytes_eq-Decides word key).0 e) number in absurd cc)

digits_begin : (ds : List ℕ) → is_digits ds ≡ true → begins_as_number ds ≡ true
digits_begin [] h = absurd cc
digits_begin (d ∷ ds) h = or_right (d == 45) (is_ascii_digit d) (both (is_ascii_digit d) (list_all is_ascii_digit (d ∷ ds)) h).0

signed_begins : (z : ℤ) → FitsSigned w64 z → begins_as_number (signed_decimal z) ≡ true
signed_begins (pos n) fits = digits_begin (decimal n) (decimal_digits n (omega (arith, fits.sfits)))
signed_begins (negsuc n) fits = refl

-- ---- a node and its parts

some_left : (left : ℕ) → 1 ≤ left → (left == 0) ≡ false
some_left left some = grind (arith, nat_tests)

node_back : (left : ℕ) (word : List ℕ) (words : List (List ℕ)) → is_solid word ≡ true → 1 ≤ left → next_node_read left (spaced (word ∷ words)) ≡ Ok (word, left - 1, spaced words)
unfolding next_node_read
node_back left word words solid some = rw (word_back word words solid, some_left left some) refl

two_back : {X Y : Type 0} (part : NodeReader X) (make : X → X → Y) (left n m : ℕ) (one two more : List (List ℕ)) (a b : X)
    → part left (spaced (one ++ (two ++ more))) ≡ Ok (a, left - n, spaced (two ++ more)) → part (left - n) (spaced (two ++ more)) ≡ Ok (b, left - n - m, spaced more)
    → two_at part make left (spaced ((one ++ two) ++ more)) ≡ Ok (make a b, left - n - m, spaced more)
two_back part make left n m one two more a b first second = rw (append_assoc one two more, first, second) refl

one_back : {X Y : Type 0} (part : NodeReader X) (make : X → Y) (left n : ℕ) (rest : List ℕ) (more : List (List ℕ)) (a : X)
    → part left rest ≡ Ok (a, left - n, spaced more) → one_at part make left rest ≡ Ok (make a, left - n, spaced more)
one_back part make left n rest more a is = rw is refl

module _ {X : Type 0} (from : NodeReader X → List ℕ → NodeReader X) where
  tree_step : (depth left : ℕ) (word : List ℕ) (words : List (List ℕ)) → is_solid word ≡ true → 1 ≤ left
      → tree_at from (suc depth) left (spaced (word ∷ words)) ≡ from (tree_at from depth) word (left - 1) (spaced words)
  unfolding tree_at
  tree_step depth left word words solid some =
      ap (λ (r : Result (List ℕ × ℕ × List ℕ) DeckReason). r >>= (λ (n : List ℕ × ℕ × List ℕ). from (tree_at from depth) n.0 n.1 n.2)) (node_back left word words solid some)

  -- a word with two parts
  two_parts : (word : List ℕ) (make : X → X → X) (depth left n m : ℕ) (one two more : List (List ℕ)) (a b : X) → is_solid word ≡ true → 1 ≤ left
      → ((rest : List ℕ) → from (tree_at from depth) word (left - 1) rest ≡ two_at (tree_at from depth) make (left - 1) rest)
      → tree_at from depth (left - 1) (spaced (one ++ (two ++ more))) ≡ Ok (a, left - 1 - n, spaced (two ++ more))
      → tree_at from depth (left - 1 - n) (spaced (two ++ more)) ≡ Ok (b, left - 1 - n - m, spaced more)
      → tree_at from (suc depth) left (spaced (word ∷ ((one ++ two) ++ more))) ≡ Ok (make a b, left - (1 + (n + m)), spaced more)
  two_parts word make depth left n m one two more a b solid some is first second =
      let count : left - 1 - n - m ≡ left - (1 + (n + m)) = omega arith in
      tree_step depth left word ((one ++ two) ++ more) solid some ∙ is (spaced ((one ++ two) ++ more))
      ∙ two_back (tree_at from depth) make (left - 1) n m one two more a b first second ∙ ap (λ (k : ℕ). Ok (make a b, k, spaced more)) count

module _ (names : List (List ℕ)) (declared : List Component) where
  -- ---- an expression by its first word

  from_arg : (part : ℕ → List ℕ → Result (ExprText × ℕ × List ℕ) DeckReason) (left : ℕ) (rest : List ℕ) → expr_from names declared part (codes "arg") left rest ≡ Ok (Arg, left, rest)
  unfolding expr_from
  from_arg part left rest = refl

  from_out : (part : ℕ → List ℕ → Result (ExprText × ℕ × List ℕ) DeckReason) (left : ℕ) (rest : List ℕ) → expr_from names declared part (codes "out") left rest ≡ Ok (Out, left, rest)
  unfolding expr_from
  from_out part left rest = refl

  from_add : (part : ℕ → List ℕ → Result (ExprText × ℕ × List ℕ) DeckReason) (left : ℕ) (rest : List ℕ) → expr_from names declared part (codes "add") left rest ≡ two_at part Add left rest
  unfolding expr_from
  from_add part left rest = refl

  from_sub : (part : ℕ → List ℕ → Result (ExprText × ℕ × List ℕ) DeckReason) (left : ℕ) (rest : List ℕ) → expr_from names declared part (codes "sub") left rest ≡ two_at part Sub left rest
  unfolding expr_from
  from_sub part left rest = refl

  from_number : (part : ℕ → List ℕ → Result (ExprText × ℕ × List ℕ) DeckReason) (word : List ℕ) (number : ℤ) (left : ℕ) (rest : List ℕ) → begins_as_number word ≡ true → number_of word ≡ Some number
      → expr_from names declared part word left rest ≡ Ok (Number number, left, rest)
  unfolding expr_from
  from_number part word number left rest begins is =
      rw (another_word word (codes "arg") begins refl, another_word word (codes "out") begins refl, another_word word (codes "add") begins refl, another_word word (codes "sub") begins refl, begins, is) refl

  int_is : (place : ℕ) (component : Component) → is_int place component ≡ true → component ≡ components.Int place
  int_is place (components.Int p) h = ap components.Int (eqb-true p place h)
  int_is place (components.Bool p) h = absurd cc

  bool_is : (place : ℕ) (component : Component) → is_bool place component ≡ true → component ≡ components.Bool place
  bool_is place (components.Int p) h = absurd cc
  bool_is place (components.Bool p) h = ap components.Bool (eqb-true p place h)

  component_back : (test : Component → Bool) (word : List ℕ) (is : IsFound test names declared word) → component_of names declared word ≡ Ok is.component
  unfolding component_of
  component_back test word is = rw (name_is word is.name_is, is.found) refl

  pub int_back : (place : ℕ) (word : List ℕ) → IsFound (is_int place) names declared word → int_of names declared word ≡ Ok place
  unfolding int_of
  int_back place word is = rw (component_back (is_int place) word is, int_is place is.component is.passes) refl

  pub bool_back : (place : ℕ) (word : List ℕ) → IsFound (is_bool place) names declared word → bool_of names declared word ≡ Ok place
  unfolding bool_of
  bool_back place word is = rw (component_back (is_bool place) word is, bool_is place is.component is.passes) refl

  -- which words a component's name is not
  record IsFree (word : List ℕ) : Type 0 where
    arg : bytes_eq word (codes "arg") ≡ false
    out : bytes_eq word (codes "out") ≡ false
    add : bytes_eq word (codes "add") ≡ false
    sub : bytes_eq word (codes "sub") ≡ false
    is_true : bytes_eq word (codes "true") ≡ false
    is_false : bytes_eq word (codes "false") ≡ false
    lt : bytes_eq word (codes "lt") ≡ false
    le : bytes_eq word (codes "le") ≡ false
    eq : bytes_eq word (codes "eq") ≡ false
    negated : bytes_eq word (codes "not") ≡ false
    both_of : bytes_eq word (codes "and") ≡ false
    one_of : bytes_eq word (codes "or") ≡ false

  free_of : (word : List ℕ) → not (is_declared word expression_words) ≡ true → IsFree word
  free_of word free =
      let a = or_false (bytes_eq word (codes "arg")) _ free in
      let b = or_false (bytes_eq word (codes "out")) _ a.1 in
      let c = or_false (bytes_eq word (codes "add")) _ b.1 in
      let d = or_false (bytes_eq word (codes "sub")) _ c.1 in
      let e = or_false (bytes_eq word (codes "true")) _ d.1 in
      let f = or_false (bytes_eq word (codes "false")) _ e.1 in
      let g = or_false (bytes_eq word (codes "lt")) _ f.1 in
      let h = or_false (bytes_eq word (codes "le")) _ g.1 in
      let i = or_false (bytes_eq word (codes "eq")) _ h.1 in
      let j = or_false (bytes_eq word (codes "not")) _ i.1 in
      let k = or_false (bytes_eq word (codes "and")) _ j.1 in
      let l = or_false (bytes_eq word (codes "or")) _ k.1 in
      record { arg = a.0; out = b.0; add = c.0; sub = d.0; is_true = e.0; is_false = f.0; lt = g.0; le = h.0; eq = i.0; negated = j.0; both_of = k.0; one_of = l.0 }

  from_int : (part : ℕ → List ℕ → Result (ExprText × ℕ × List ℕ) DeckReason) (word : List ℕ) (place : ℕ) (left : ℕ) (rest : List ℕ) → IsFound (is_int place) names declared word
      → expr_from names declared part word left rest ≡ Ok (Int place, left, rest)
  unfolding expr_from
  from_int part word place left rest is =
      let free = free_of word is.is_free in
      rw (free.arg, free.out, free.add, free.sub, not_number word is.name_is, int_back place word is) refl

  some_nodes : (e : ExprText) → 1 ≤ expr_nodes e
  some_nodes (Number number) = omega arith
  some_nodes Arg = omega arith
  some_nodes Out = omega arith
  some_nodes (Int place) = omega arith
  some_nodes (Add first second) = omega arith
  some_nodes (Sub first second) = omega arith

  pub expr_back : (depth left : ℕ) (e : ExprText) (more : List (List ℕ)) → AreComponents names declared → IsExprOf names declared e → expr_nodes e ≤ suc depth → expr_nodes e ≤ left
      → expr_at names declared (suc depth) left (spaced (expr_words names declared e ++ more)) ≡ Ok (e, left - expr_nodes e, spaced more)
  expr_back depth left (Number number) more c is deep many =
      tree_step (expr_from names declared) depth left (signed_decimal number) more (signed_solid number is) many
      ∙ from_number (expr_at names declared depth) (signed_decimal number) number (left - 1) (spaced more) (signed_begins number is) (signed_back number is)
  expr_back depth left Arg more c is deep many = tree_step (expr_from names declared) depth left (codes "arg") more refl many ∙ from_arg (expr_at names declared depth) (left - 1) (spaced more)
  expr_back depth left Out more c is deep many = tree_step (expr_from names declared) depth left (codes "out") more refl many ∙ from_out (expr_at names declared depth) (left - 1) (spaced more)
  expr_back depth left (Int place) more c is deep many =
      let t = both (list_all is_name names) (is_distinct names) c.names_are in
      let found = finds (is_int place) names declared t.0 t.1 c.free c.even is in
      let word : List ℕ = component_name (is_int place) names declared in
      tree_step (expr_from names declared) depth left word more (name_solid word found.name_is) many ∙ from_int (expr_at names declared depth) word place (left - 1) (spaced more) found
  expr_back zero left (Add first second) more c is deep many = absurd (omega (arith, deep, some_nodes first, some_nodes second))
  expr_back (suc depth) left (Add first second) more c is deep many =
      two_parts (expr_from names declared) (codes "add") Add (suc depth) left (expr_nodes first) (expr_nodes second) (expr_words names declared first) (expr_words names declared second) more first second refl (omega (arith, many))
      (from_add (expr_at names declared (suc depth)) (left - 1))
      (expr_back depth (left - 1) first (expr_words names declared second ++ more) c is.0 (omega (arith, deep, some_nodes second)) (omega (arith, many)))
      (expr_back depth (left - 1 - expr_nodes first) second more c is.1 (omega (arith, deep, some_nodes first)) (omega (arith, many)))
  expr_back zero left (Sub first second) more c is deep many = absurd (omega (arith, deep, some_nodes first, some_nodes second))
  expr_back (suc depth) left (Sub first second) more c is deep many =
      two_parts (expr_from names declared) (codes "sub") Sub (suc depth) left (expr_nodes first) (expr_nodes second) (expr_words names declared first) (expr_words names declared second) more first second refl (omega (arith, many))
      (from_sub (expr_at names declared (suc depth)) (left - 1))
      (expr_back depth (left - 1) first (expr_words names declared second ++ more) c is.0 (omega (arith, deep, some_nodes second)) (omega (arith, many)))
      (expr_back depth (left - 1 - expr_nodes first) second more c is.1 (omega (arith, deep, some_nodes first)) (omega (arith, many)))

  -- a whole expression
  pub expr_line_back : (e : ExprText) → AreComponents names declared → IsExprOf names declared e → expr_nodes e ≤ 32 → expr_line names declared (spaced (expr_words names declared e)) ≡ Ok e
  unfolding tree_line
  expr_line_back e c is few =
      let read : expr_at names declared 32 32 (spaced (expr_words names declared e)) ≡ Ok (e, 32 - expr_nodes e, spaced []) =
      subst (λ (l : List (List ℕ)). expr_at names declared 32 32 (spaced l) ≡ Ok (e, 32 - expr_nodes e, spaced [])) (append-nil (expr_words names declared e)) (expr_back 31 32 e [] c is few few) in
      rw (read, end_back) refl

  -- ---- conditions

  from_truth : (part : ℕ → List ℕ → Result (CondText × ℕ × List ℕ) DeckReason) (truth : Bool) (left : ℕ) (rest : List ℕ)
      → cond_of names declared part (cond_word_named (truth_word names declared truth)) (truth_word names declared truth) left rest ≡ Ok (Constant truth, left, rest)
  unfolding cond_of
  from_truth part true left rest = refl
  from_truth part false left rest = refl

  from_bool : (part : ℕ → List ℕ → Result (CondText × ℕ × List ℕ) DeckReason) (word : List ℕ) (place : ℕ) (left : ℕ) (rest : List ℕ) → IsFound (is_bool place) names declared word
      → cond_of names declared part (cond_word_named word) word left rest ≡ Ok (Named place, left, rest)
  unfolding cond_of
  from_bool part word place left rest is =
      let free = free_of word is.is_free in
      rw (free.is_true, free.is_false, free.lt, free.le, free.eq, free.negated, free.both_of, free.one_of, bool_back place word is) refl

  from_less : (part : ℕ → List ℕ → Result (CondText × ℕ × List ℕ) DeckReason) (left : ℕ) (rest : List ℕ) → cond_of names declared part (cond_word_named (codes "lt")) (codes "lt") left rest ≡ two_at (expr_at names declared 32) Less left rest
  unfolding cond_of
  from_less part left rest = refl

  from_less_or_equal : (part : ℕ → List ℕ → Result (CondText × ℕ × List ℕ) DeckReason) (left : ℕ) (rest : List ℕ) → cond_of names declared part (cond_word_named (codes "le")) (codes "le") left rest ≡ two_at (expr_at names declared 32) LessOrEqual left rest
  unfolding cond_of
  from_less_or_equal part left rest = refl

  from_equal : (part : ℕ → List ℕ → Result (CondText × ℕ × List ℕ) DeckReason) (left : ℕ) (rest : List ℕ) → cond_of names declared part (cond_word_named (codes "eq")) (codes "eq") left rest ≡ two_at (expr_at names declared 32) Equal left rest
  unfolding cond_of
  from_equal part left rest = refl

  from_not : (part : ℕ → List ℕ → Result (CondText × ℕ × List ℕ) DeckReason) (left : ℕ) (rest : List ℕ) → cond_of names declared part (cond_word_named (codes "not")) (codes "not") left rest ≡ one_at part Not left rest
  unfolding cond_of
  from_not part left rest = refl

  from_and : (part : ℕ → List ℕ → Result (CondText × ℕ × List ℕ) DeckReason) (left : ℕ) (rest : List ℕ) → cond_of names declared part (cond_word_named (codes "and")) (codes "and") left rest ≡ two_at part And left rest
  unfolding cond_of
  from_and part left rest = refl

  from_or : (part : ℕ → List ℕ → Result (CondText × ℕ × List ℕ) DeckReason) (left : ℕ) (rest : List ℕ) → cond_of names declared part (cond_word_named (codes "or")) (codes "or") left rest ≡ two_at part Or left rest
  unfolding cond_of
  from_or part left rest = refl

  some_cond : (c : CondText) → 1 ≤ cond_nodes c
  some_cond (Constant truth) = omega arith
  some_cond (Named place) = omega arith
  some_cond (Less first second) = omega arith
  some_cond (LessOrEqual first second) = omega arith
  some_cond (Equal first second) = omega arith
  some_cond (Not negated) = omega arith
  some_cond (And first second) = omega arith
  some_cond (Or first second) = omega arith

  -- two expressions that are compared
  compared : (make : ExprText → ExprText → CondText) (left : ℕ) (first second : ExprText) (more : List (List ℕ)) → AreComponents names declared → IsExprOf names declared first → IsExprOf names declared second → left ≤ 32
      → expr_nodes first + expr_nodes second ≤ left
      → two_at (expr_at names declared 32) make left (spaced ((expr_words names declared first ++ expr_words names declared second) ++ more)) ≡ Ok (make first second, left - expr_nodes first - expr_nodes second, spaced more)
  compared make left first second more c one two few many =
      two_back (expr_at names declared 32) make left (expr_nodes first) (expr_nodes second) (expr_words names declared first) (expr_words names declared second) more first second
      (expr_back 31 left first (expr_words names declared second ++ more) c one (omega (arith, few, many)) (omega (arith, many)))
      (expr_back 31 (left - expr_nodes first) second more c two (omega (arith, few, many)) (omega (arith, many)))

  pub cond_back : (depth left : ℕ) (k : CondText) (more : List (List ℕ)) → AreComponents names declared → IsCondOf names declared k → cond_nodes k ≤ suc depth → cond_nodes k ≤ left → left ≤ 32
      → cond_at names declared (suc depth) left (spaced (cond_words names declared k ++ more)) ≡ Ok (k, left - cond_nodes k, spaced more)
  cond_back depth left (Constant true) more c is deep many few = tree_step (cond_from names declared) depth left (codes "true") more refl many ∙ from_truth (cond_at names declared depth) true (left - 1) (spaced more)
  cond_back depth left (Constant false) more c is deep many few = tree_step (cond_from names declared) depth left (codes "false") more refl many ∙ from_truth (cond_at names declared depth) false (left - 1) (spaced more)
  cond_back depth left (Named place) more c is deep many few =
      let t = both (list_all is_name names) (is_distinct names) c.names_are in
      let found = finds (is_bool place) names declared t.0 t.1 c.free c.even is in
      let word : List ℕ = component_name (is_bool place) names declared in
      tree_step (cond_from names declared) depth left word more (name_solid word found.name_is) many ∙ from_bool (cond_at names declared depth) word place (left - 1) (spaced more) found
  cond_back depth left (Less first second) more c is deep many few =
      let count : left - 1 - expr_nodes first - expr_nodes second ≡ left - (1 + (expr_nodes first + expr_nodes second)) = omega arith in
      let rest : List (List ℕ) = (expr_words names declared first ++ expr_words names declared second) ++ more in
      tree_step (cond_from names declared) depth left (codes "lt") rest refl (omega (arith, many)) ∙ from_less (cond_at names declared depth) (left - 1) (spaced rest)
      ∙ compared Less (left - 1) first second more c is.0 is.1 (omega (arith, few)) (omega (arith, many)) ∙ ap (λ (n : ℕ). Ok (Less first second, n, spaced more)) count
  cond_back depth left (LessOrEqual first second) more c is deep many few =
      let count : left - 1 - expr_nodes first - expr_nodes second ≡ left - (1 + (expr_nodes first + expr_nodes second)) = omega arith in
      let rest : List (List ℕ) = (expr_words names declared first ++ expr_words names declared second) ++ more in
      tree_step (cond_from names declared) depth left (codes "le") rest refl (omega (arith, many)) ∙ from_less_or_equal (cond_at names declared depth) (left - 1) (spaced rest)
      ∙ compared LessOrEqual (left - 1) first second more c is.0 is.1 (omega (arith, few)) (omega (arith, many)) ∙ ap (λ (n : ℕ). Ok (LessOrEqual first second, n, spaced more)) count
  cond_back depth left (Equal first second) more c is deep many few =
      let count : left - 1 - expr_nodes first - expr_nodes second ≡ left - (1 + (expr_nodes first + expr_nodes second)) = omega arith in
      let rest : List (List ℕ) = (expr_words names declared first ++ expr_words names declared second) ++ more in
      tree_step (cond_from names declared) depth left (codes "eq") rest refl (omega (arith, many)) ∙ from_equal (cond_at names declared depth) (left - 1) (spaced rest)
      ∙ compared Equal (left - 1) first second more c is.0 is.1 (omega (arith, few)) (omega (arith, many)) ∙ ap (λ (n : ℕ). Ok (Equal first second, n, spaced more)) count
  cond_back zero left (Not negated) more c is deep many few = absurd (omega (arith, deep, some_cond negated))
  cond_back (suc depth) left (Not negated) more c is deep many few =
      let rest : List (List ℕ) = cond_words names declared negated ++ more in
      let count : left - 1 - cond_nodes negated ≡ left - (1 + cond_nodes negated) = omega arith in
      tree_step (cond_from names declared) (suc depth) left (codes "not") rest refl (omega (arith, many)) ∙ from_not (cond_at names declared (suc depth)) (left - 1) (spaced rest)
      ∙ one_back (cond_at names declared (suc depth)) Not (left - 1) (cond_nodes negated) (spaced rest) more negated (cond_back depth (left - 1) negated more c is (omega (arith, deep)) (omega (arith, many)) (omega (arith, few)))
      ∙ ap (λ (n : ℕ). Ok (Not negated, n, spaced more)) count
  cond_back zero left (And first second) more c is deep many few = absurd (omega (arith, deep, some_cond first, some_cond second))
  cond_back (suc depth) left (And first second) more c is deep many few =
      two_parts (cond_from names declared) (codes "and") And (suc depth) left (cond_nodes first) (cond_nodes second) (cond_words names declared first) (cond_words names declared second) more first second refl (omega (arith, many))
      (from_and (cond_at names declared (suc depth)) (left - 1))
      (cond_back depth (left - 1) first (cond_words names declared second ++ more) c is.0 (omega (arith, deep, some_cond second)) (omega (arith, many)) (omega (arith, few)))
      (cond_back depth (left - 1 - cond_nodes first) second more c is.1 (omega (arith, deep, some_cond first)) (omega (arith, many)) (omega (arith, few)))
  cond_back zero left (Or first second) more c is deep many few = absurd (omega (arith, deep, some_cond first, some_cond second))
  cond_back (suc depth) left (Or first second) more c is deep many few =
      two_parts (cond_from names declared) (codes "or") Or (suc depth) left (cond_nodes first) (cond_nodes second) (cond_words names declared first) (cond_words names declared second) more first second refl (omega (arith, many))
      (from_or (cond_at names declared (suc depth)) (left - 1))
      (cond_back depth (left - 1) first (cond_words names declared second ++ more) c is.0 (omega (arith, deep, some_cond second)) (omega (arith, many)) (omega (arith, few)))
      (cond_back depth (left - 1 - cond_nodes first) second more c is.1 (omega (arith, deep, some_cond first)) (omega (arith, many)) (omega (arith, few)))

  -- a whole condition
  pub cond_line_back : (k : CondText) → AreComponents names declared → IsCondOf names declared k → cond_nodes k ≤ 32 → cond_line names declared (spaced (cond_words names declared k)) ≡ Ok k
  unfolding tree_line
  cond_line_back k c is few =
      let read : cond_at names declared 32 32 (spaced (cond_words names declared k)) ≡ Ok (k, 32 - cond_nodes k, spaced []) =
      subst (λ (l : List (List ℕ)). cond_at names declared 32 32 (spaced l) ≡ Ok (k, 32 - cond_nodes k, spaced [])) (append-nil (cond_words names declared k)) (cond_back 31 32 k [] c is few few (omega arith)) in
      rw (read, end_back) refl
