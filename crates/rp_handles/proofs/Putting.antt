-- Words and lines that are put one after another.
use Rattle.std.proofs.Common.{◌≡◌, ℕ, zero, suc, true, Ok, List, [], ◌∷◌, ◌++◌, inl, inr, refl, ap, sym, subst, ◌∙◌, append-nil, append_assoc, arith}
use Rattle.std.specs.Prelude.{false, codes}
use Rattle.std.specs.Str.{bytes_eq}
use Rattle.rp_deck.specs.rp_words.specs.Lines.{LineText}
use Rattle.rp_deck.specs.rp_words.specs.Reading.{word_at}
use Rattle.rp_deck.specs.rp_words.specs.Words.{is_at_end}
use Rattle.rp_handles.specs.NextLines.{AreFirstWords, AreNextLines, IsNextLine}

-- no word is left
pub none_left : (n : ℕ) (bytes : List ℕ) → is_at_end bytes ≡ true → AreFirstWords n bytes []
none_left zero bytes e = refl
none_left (suc n) bytes e = inl (e, refl)

-- no word more
pub no_more : (n : ℕ) (bytes : List ℕ) → n ≡ 0 → AreFirstWords n bytes []
no_more zero bytes e = refl
no_more (suc n) bytes e = absurd cc

-- one word, and n more
pub one_more : (n k : ℕ) (bytes word rest after : List ℕ) → n ≡ suc k → word_at bytes ≡ Ok (word, rest) → AreFirstWords k rest after → AreFirstWords n bytes (32 ∷ word ++ after)
one_more zero k bytes word rest after e is words = absurd cc
one_more (suc n) k bytes word rest after e is words = inr (word, rest, after, is, refl, (let same : k ≡ n = omega arith in subst (λ (j : ℕ). AreFirstWords j rest after) same words))

-- a line after what is there
pub line_joined : (front first rest end : List ℕ) → ((front ++ first) ++ rest) ++ end ≡ front ++ (first ++ rest ++ end)
line_joined front first rest end = ap (λ (l : List ℕ). l ++ end) (append_assoc front first rest) ∙ append_assoc front (first ++ rest) end

-- ---- lines

module _ (all : List ℕ → Type 0) (lines : List LineText) (text : List ℕ) (more : (after : List ℕ) → AreNextLines lines after → all (text ++ after)) where
  -- no line is left
  pub no_line : lines ≡ [] → all text
  no_line e = subst all (append-nil text) (more [] (subst (λ (l : List LineText). AreNextLines l []) (sym e) refl))

  -- the script begins
  pub script_line : (line : LineText) (left : List LineText) → lines ≡ line ∷ left → bytes_eq line.first (codes "script") ≡ true → all (text ++ codes "script\n")
  script_line line left e is = more (codes "script\n") (subst (λ (l : List LineText). AreNextLines l (codes "script\n")) (sym e) (inl (is, refl)))

  -- a line, and those after it
  pub one_line : (line : LineText) (left : List LineText) (here : List ℕ) → lines ≡ line ∷ left → bytes_eq line.first (codes "script") ≡ false → IsNextLine line here
      → (after : List ℕ) → AreNextLines left after → all ((text ++ here) ++ after)
  one_line line left here e other is after rest =
      subst all (sym (append_assoc text here after)) (more (here ++ after) (subst (λ (l : List LineText). AreNextLines l (here ++ after)) (sym e) (inr (other, (here, after, is, rest, refl)))))
