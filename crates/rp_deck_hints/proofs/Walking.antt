-- Where no word is left of a line, none is left after more words; and what a loop over the words of
-- a line keeps.
use Rattle.std.proofs.Common.{◌≡◌, ℕ, ◌+◌, ◌-◌, ◌<◌, ◌≤◌, ◌⊎◌, ⊎_elim, inl, inr, List, [], ◌∷◌, length, take, drop, true, false, ◌==◌, not, arith, zero, suc, refl, ap, sym, subst, ◌∙◌}
use Rattle.std.specs.List.{prefix_len}
use Rattle.std.proofs.lemmas.Bool.Decides.{nat_tests}
use Rattle.std.proofs.Math.Nat.{le-suc_iff}
use Rattle.rp_deck.specs.rp_base.specs.declared.fault.DeckReason.{DeckReason}
use Rattle.rp_deck_hints.specs.declared.reading.Reading.{Reading}
use Rattle.rp_deck_hints.specs.Places.{after_lines, after_words, before_word, first_line, length_before, line_at, line_start, through_word}
use Rattle.rp_deck_hints.proofs.LinesAt.{line_after}
use Rattle.rp_deck_hints.specs.Hints.{IsAtFault, IsBadAt, IsNoneAtFault}
use Rattle.rp_deck.specs.rp_words.specs.Words.{after_word, is_at_end, is_blank, without_blanks}

-- ---- the end of a line

no_bytes : (bytes : List ℕ) → (length bytes == 0) ≡ true → bytes ≡ []
no_bytes [] h = refl
no_bytes (byte ∷ bytes) h = grind (arith, nat_tests)

abbrev past_word : List ℕ → List ℕ
past_word bytes = drop (prefix_len (λ byte. not (is_blank byte)) bytes) bytes

end_after : (bytes : List ℕ) → is_at_end bytes ≡ true → is_at_end (after_word bytes) ≡ true
end_after bytes h = ap (λ rest. is_at_end (past_word rest)) (no_bytes (without_blanks bytes) h)

end_stays : (line : List ℕ) (n more : ℕ) → is_at_end (after_words line n) ≡ true
    → is_at_end (after_words line (n + more)) ≡ true
end_stays line n zero h =
    let same : n ≡ n + 0 = omega arith in
    subst (λ k. is_at_end (after_words line k) ≡ true) same h
end_stays line n (suc more) h =
    let same : suc (n + more) ≡ n + suc more = omega arith in
    subst (λ k. is_at_end (after_words line k) ≡ true) same (end_after (after_words line (n + more)) (end_stays line n more h))

low_or_high : (a b : ℕ) → (a ≤ b) ⊎ (b < a)
low_or_high zero b = inl (omega arith)
low_or_high (suc a) zero = inr (omega arith)
low_or_high (suc a) (suc b) = ⊎_elim (λ low. inl (omega (arith, low))) (λ high. inr (omega (arith, high))) (low_or_high a b)

-- ---- the words of a line

-- so many words were tried, and the text is bad up to none of them
pub record HasTried (reading : Reading) (text : List ℕ) (line : ℕ) (reason : DeckReason)
    (all after : List ℕ) (words : ℕ) : Type 0 where
  pub after_is : after ≡ after_words (line_at text line) words
  pub shorter : length after ≤ length all
  pub none : (n : ℕ) → 1 ≤ n → n ≤ words
      → ¬ IsBadAt reading line reason (through_word text line n)

module _ (reading : Reading) (text : List ℕ) (line : ℕ) (reason : DeckReason) (all : List ℕ) where
  -- no word is left, and the text is bad up to none of them
  pub none_left : (after from : List ℕ) (words : ℕ) → HasTried reading text line reason all after words → from ≡ without_blanks after
      → (length from == 0) ≡ true → IsNoneAtFault reading text line reason
  none_left after from words tried from_is empty n one most there bad = ⊎_elim (tried.none n one) above (low_or_high n words) bad
    where
      at_end : is_at_end (after_words (line_at text line) words) ≡ true
      at_end = ap (λ bytes. length bytes == 0) (sym (from_is ∙ ap without_blanks tried.after_is)) ∙ empty

      above : words < n → ¬ IsBadAt reading line reason (through_word text line n)
      above high bad =
          let sum : words + (n - 1 - words) ≡ n - 1 = omega (arith, high) in
          let stays = end_stays (line_at text line) words (n - 1 - words) at_end in
          let ended : is_at_end (after_words (line_at text line) (n - 1)) ≡ true = subst (λ k. is_at_end (after_words (line_at text line) k) ≡ true) sum stays in
          absurd (let both : true ≡ false = sym ended ∙ there in cc)

  module _ (rest : List ℕ) (rest_is : rest ≡ after_lines text (line - 1)) (all_is : all ≡ first_line rest) where
    line_is : all ≡ line_at text line
    line_is = all_is ∙ ap first_line rest_is ∙ line_after text (line - 1)

    -- the text up to where these bytes of the line begin
    pub cut_is : (here there : List ℕ) → here ≡ there
        → take (length text - length rest + (length all - length here)) text ≡ take (line_start text line + length_before (line_at text line) there) text
    cut_is here there same =
        ap (λ r. take (length text - length r + (length all - length here)) text) rest_is
        ∙ ap (λ a. take (line_start text line + (length a - length here)) text) line_is
        ∙ ap (λ x. take (line_start text line + length_before (line_at text line) x) text) same

    pub begins : HasTried reading text line reason all all 0
    begins = record { after_is = line_is; shorter = omega arith; none = λ n one few bad. absurd (omega (arith, one, few)) }

    module _ (after from : List ℕ) (words : ℕ) (tried : HasTried reading text line reason all after words) (from_is : from ≡ without_blanks after) where
      from_here : from ≡ without_blanks (after_words (line_at text line) words)
      from_here = from_is ∙ ap without_blanks tried.after_is

      from_there : from ≡ without_blanks (after_words (line_at text line) (words + 1 - 1))
      from_there =
          let same : words ≡ words + 1 - 1 = omega arith in
          from_here ∙ ap (λ k. without_blanks (after_words (line_at text line) k)) same

      pub before_is : take (length text - length rest + (length all - length from)) text ≡ before_word text line (words + 1)
      before_is = cut_is from _ from_there

      module _ (next : List ℕ) (next_is : next ≡ past_word from) where
        next_there : next ≡ after_words (line_at text line) (words + 1)
        next_there =
            let same : suc words ≡ words + 1 = omega arith in
            next_is ∙ ap past_word from_here ∙ ap (after_words (line_at text line)) same

        pub through_is : take (length text - length rest + (length all - length next)) text ≡ through_word text line (words + 1)
        through_is = cut_is next _ next_there

        -- the text is not bad up to the next word either
        pub goes_on : length next ≤ length all → ¬ IsBadAt reading line reason (take (length text - length rest + (length all - length next)) text)
            → HasTried reading text line reason all next (words + 1)
        goes_on shorter right = record { after_is = next_there; shorter = shorter; none = none }
          where
            none : (n : ℕ) → 1 ≤ n → n ≤ words + 1 → ¬ IsBadAt reading line reason (through_word text line n)
            none n one few bad =
                let within : n ≤ suc words = omega (arith, few) in
                ⊎_elim (λ low. tried.none n one low bad) (λ last. at_last (omega (arith, last)) bad) (le-suc_iff.0 within)
              where
                at_last : n ≡ words + 1 → ¬ IsBadAt reading line reason (through_word text line n)
                at_last last bad = right (subst (IsBadAt reading line reason) (sym through_is) (subst (λ k. IsBadAt reading line reason (through_word text line k)) last bad))

        -- or it is, so that the next word is at fault
        pub at_fault : (word : List ℕ) → word ≡ take (prefix_len (λ byte. not (is_blank byte)) from) from → (length from == 0) ≡ false
            → IsBadAt reading line reason (take (length text - length rest + (length all - length next)) text)
            → IsAtFault reading text line reason (words + 1) word
        at_fault word word_is some bad = record {
          there = ap (λ bytes. length bytes == 0) (sym from_there) ∙ some;
          word_is = word_is ∙ ap (λ bytes. take (prefix_len (λ byte. not (is_blank byte)) bytes) bytes) from_there;
          bad = subst (IsBadAt reading line reason) through_is bad;
          first = λ n one before. tried.none n one (omega (arith, before));
        }
