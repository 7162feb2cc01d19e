-- The line that begins after n lines is the one at that place of all lines of the text.
use Rattle.std.proofs.Common.{◌≡◌, ℕ, ◌+◌, ◌<◌, ◌≤◌, ◌==◌, List, [], ◌∷◌, length, take, drop, Bool, true, false, cond, slice_index_or, arith, zero, suc, refl, ap, sym, ◌∙◌}
use Rattle.std.proofs.lemmas.Bool.Decides.{nat_tests}
use Rattle.std.proofs.lemmas.List.{drop-drop, get_or-drop}
use Rattle.std.proofs.lemmas.List.Sums.{prefix_len-le-length}
use Rattle.std.proofs.Math.ListN.{drop_of_length-le}
use Rattle.rp_deck.specs.rp_words.specs.LineEnds.{line_end, without_return}
use Rattle.rp_deck.specs.rp_words.specs.Lines.{lines_of}
use Rattle.rp_deck.specs.rp_words.proofs.LinesLemmas.{split_ended, split_last}
use Rattle.rp_deck_hints.specs.Places.{after_line, after_lines, first_line}

end_within : (bytes : List ℕ) → line_end bytes ≤ length bytes
end_within bytes = prefix_len-le-length _ bytes

same_length : (a b : ℕ) → (a == b) ≡ true → a ≡ b
same_length a b h = grind (arith, nat_tests)

other_length : (a b : ℕ) → a ≤ b → (a == b) ≡ false → a < b
other_length a b within h = grind (arith, nat_tests)

-- the first line and the others, where there is one
abbrev IsSplit : List ℕ → List ℕ → Type 0
IsSplit bytes first = lines_of bytes ≡ first ∷ lines_of (after_line bytes)

split_at : (bytes : List ℕ) (whole : Bool) → 0 < length bytes → (line_end bytes == length bytes) ≡ whole
    → IsSplit bytes (cond whole bytes (without_return (take (line_end bytes) bytes)))
split_at bytes true some h =
    let is : line_end bytes ≡ length bytes = same_length _ _ h in
    let past : length bytes ≤ line_end bytes + 1 = omega (arith, is) in
    let none : after_line bytes ≡ [] = drop_of_length-le bytes past in
    split_last bytes some is ∙ ap (λ rest. bytes ∷ lines_of rest) (sym none)
split_at bytes false some h = split_ended bytes (other_length _ _ (end_within bytes) h)

split : (bytes : List ℕ) → 0 < length bytes → IsSplit bytes (first_line bytes)
split bytes some = split_at bytes (line_end bytes == length bytes) some refl

first_of : (bytes : List ℕ) → first_line bytes ≡ slice_index_or (lines_of bytes) 0 []
first_of [] = refl
first_of (byte ∷ bytes) = sym (ap (λ lines. slice_index_or lines 0 []) (split (byte ∷ bytes) (omega arith)))

others_of : (bytes : List ℕ) → lines_of (after_line bytes) ≡ drop 1 (lines_of bytes)
others_of [] = refl
others_of (byte ∷ bytes) = sym (ap (drop 1) (split (byte ∷ bytes) (omega arith)))

lines_after : (text : List ℕ) (n : ℕ) → lines_of (after_lines text n) ≡ drop n (lines_of text)
lines_after text zero = refl
lines_after text (suc n) =
    let same : n + 1 ≡ suc n = omega arith in
    others_of (after_lines text n) ∙ ap (drop 1) (lines_after text n) ∙ drop-drop 1 n (lines_of text) ∙ ap (λ k. drop k (lines_of text)) same

pub line_after : (text : List ℕ) (n : ℕ) → first_line (after_lines text n) ≡ slice_index_or (lines_of text) n []
line_after text n =
    let same : n + 0 ≡ n = omega arith in
    first_of (after_lines text n) ∙ ap (λ lines. slice_index_or lines 0 []) (lines_after text n)
    ∙ get_or-drop n (lines_of text) 0 [] ∙ ap (λ k. slice_index_or (lines_of text) k []) same
