-- The lines of a text: the first one, and the others.
use Rattle.std.proofs.Common.{◌≡◌, ℕ, suc, ◌+◌, ◌-◌, ◌<◌, ◌≤◌, ◌==◌, ◌&&◌, not, List, [], ◌∷◌, Bool, true, false, cond, length, take, drop, arith, ap, refl, sym, subst, ◌∙◌}
use Rattle.std.specs.Prelude.{nat_eq}
use lib.Pointwise.{pointwise}
use Rattle.std.proofs.lemmas.Bool.{eq-eqb}
use Rattle.std.proofs.lemmas.Bool.Decides.{nat_tests}
use Rattle.std.proofs.lemmas.List.Folds.{prefix_len-append}
use Rattle.std.proofs.lemmas.List.Sums.{prefix_len-le-length}
use Rattle.std.proofs.lemmas.Simd.{chunk-drop, length-chunk}
use Rattle.rp_words.specs.Words.{begins_with}
use Rattle.rp_words.specs.Lines.{is_line_feed, in_front, lines_of}
use Rattle.rp_words.specs.LineEnds.{line_end, without_return}

-- ---- a return at the end of a line

cut_at : ℕ → List ℕ → List ℕ
cut_at k line = cond (pointwise nat_eq (13 ∷ []) (drop k line)) (take k line) line

front_of_cond : (b : ℕ) (t : Bool) (x y : List ℕ) → cond t (b ∷ x) (b ∷ y) ≡ b ∷ cond t x y
front_of_cond b true x y = refl
front_of_cond b false x y = refl

cut_front : (b k : ℕ) (line : List ℕ) → cut_at (suc k) (b ∷ line) ≡ b ∷ cut_at k line
unfolding cut_at
cut_front b k line = front_of_cond b (pointwise nat_eq (13 ∷ []) (drop k line)) (take k line) line

is_cut : (line : List ℕ) → without_return line ≡ cut_at (length line - 1) line
unfolding cut_at
is_cut line = refl

return_alone : (b : ℕ) → (b == 13) ≡ true → without_return (b ∷ []) ≡ []
return_alone b h = grind (arith, nat_tests)

other_alone : (b : ℕ) → (b == 13) ≡ false → without_return (b ∷ []) ≡ b ∷ []
other_alone b h = grind (arith, nat_tests)

-- a byte in front of a line stays, if it is not alone there
in_front_of_line : (b : ℕ) (line : List ℕ) → (line ≡ [] → (b == 13) ≡ false) → without_return (b ∷ line) ≡ b ∷ without_return line
in_front_of_line b [] h = other_alone b (h refl)
in_front_of_line b (c ∷ bs) h =
    let whole : length (b ∷ c ∷ bs) - 1 ≡ suc (length bs) = omega arith in
    let part : length (c ∷ bs) - 1 ≡ length bs = omega arith in
    is_cut (b ∷ c ∷ bs) ∙ ap (λ k. cut_at k (b ∷ c ∷ bs)) whole ∙ cut_front b (length bs) (c ∷ bs)
    ∙ ap (λ k. b ∷ cut_at k (c ∷ bs)) (sym part) ∙ ap (λ l. b ∷ l) (sym (is_cut (c ∷ bs)))

-- ---- a line that ends

-- the text's lines, where its first line has n bytes
Splits : List ℕ → ℕ → Type 0
Splits bytes n = lines_of bytes ≡ without_return (take n bytes) ∷ lines_of (drop (n + 1) bytes)

nothing_before : (rest : List ℕ) → line_end rest < length rest → take (line_end rest) rest ≡ [] → begins_with is_line_feed rest ≡ true
nothing_before [] h none = absurd (omega arith)
nothing_before (c ∷ cs) h none = by (is_line_feed c) (line_end cs) refl none
  where
    by : (t : Bool) (n : ℕ) → is_line_feed c ≡ t → take (cond (not t) (1 + n) 0) (c ∷ cs) ≡ [] → is_line_feed c ≡ true
    by true n e none = e
    by false n e none =
        let more : 1 + n ≡ suc n = omega arith in
        let two : take (suc n) (c ∷ cs) ≡ [] = ap (λ k. take k (c ∷ cs)) (sym more) ∙ none in
        absurd cc

at_feed : (rest : List ℕ) → begins_with is_line_feed rest ≡ true → line_end rest ≡ 0
at_feed [] h = absurd cc
at_feed (c ∷ cs) h = ap (λ (t : Bool). cond (not t) (1 + line_end cs) 0) h

return_tested : (b : ℕ) (t : Bool) → ((b == 13) && t) ≡ true → ((b == 13) ≡ true) × (t ≡ true)
return_tested b true h = grind (arith, nat_tests)
return_tested b false h = grind (arith, nat_tests)

not_return : (b : ℕ) (t : Bool) → ((b == 13) && t) ≡ false → t ≡ true → (b == 13) ≡ false
not_return b true h e = grind (arith, nat_tests)
not_return b false h e = absurd cc

-- ---- the first line of a text

-- one byte more, by what it is: a line feed, a return before one, or another
one_more : (b : ℕ) (rest : List ℕ) (n : ℕ) (r : Bool) → n < length rest → line_end rest ≡ n → (b == 13 && begins_with is_line_feed rest) ≡ r → lines_of rest ≡ without_return (take n rest) ∷ lines_of (drop (n + 1) rest)
    → cond r (lines_of rest) (in_front b (lines_of rest)) ≡ without_return (b ∷ take n rest) ∷ lines_of (drop (n + 1) rest)
one_more b rest n true small end is so_far =
    let t = return_tested b (begins_with is_line_feed rest) is in
    let none : take n rest ≡ [] = ap (λ k. take k rest) (sym end ∙ at_feed rest t.1) in
    so_far ∙ ap (λ l. without_return l ∷ lines_of (drop (n + 1) rest)) none ∙ ap (λ l. l ∷ lines_of (drop (n + 1) rest)) (sym (return_alone b t.0))
    ∙ ap (λ l. without_return (b ∷ l) ∷ lines_of (drop (n + 1) rest)) (sym none)
one_more b rest n false small end is so_far =
    ap (in_front b) so_far
    ∙ ap (λ l. l ∷ lines_of (drop (n + 1) rest))
    (sym (in_front_of_line b (take n rest)
    (λ none. not_return b (begins_with is_line_feed rest) is
    (nothing_before rest (subst (λ k. k < length rest) (sym end) small) (ap (λ k. take k rest) end ∙ none)))))

first_or_more : (b : ℕ) (rest : List ℕ) (t : Bool) (n : ℕ) → is_line_feed b ≡ t → cond (not t) (1 + line_end rest) 0 ≡ n → n < length (b ∷ rest)
    → (line_end rest < length rest → lines_of rest ≡ without_return (take (line_end rest) rest) ∷ lines_of (drop (line_end rest + 1) rest))
    → cond t ([] ∷ lines_of rest) (cond (b == 13 && begins_with is_line_feed rest) (lines_of rest) (in_front b (lines_of rest)))
    ≡ without_return (take n (b ∷ rest)) ∷ lines_of (drop (n + 1) (b ∷ rest))
first_or_more b rest true n is end small so_far = subst (λ (k : ℕ). ([] ∷ lines_of rest) ≡ without_return (take k (b ∷ rest)) ∷ lines_of (drop (k + 1) (b ∷ rest))) end refl
first_or_more b rest false n is end small so_far =
    let inner : line_end rest < length rest = omega arith in
    let one : suc (line_end rest) ≡ n = omega arith in
    let two : suc (line_end rest + 1) ≡ n + 1 = omega arith in
    one_more b rest (line_end rest) (b == 13 && begins_with is_line_feed rest) inner refl refl (so_far inner)
    ∙ ap (λ k. without_return (take k (b ∷ rest)) ∷ lines_of (drop (line_end rest + 1) rest)) one
    ∙ ap (λ k. without_return (take n (b ∷ rest)) ∷ lines_of (drop k (b ∷ rest))) two

pub split_ended : (bytes : List ℕ) → line_end bytes < length bytes → lines_of bytes ≡ without_return (take (line_end bytes) bytes) ∷ lines_of (drop (line_end bytes + 1) bytes)
split_ended [] small = absurd (omega arith)
split_ended (b ∷ rest) small = first_or_more b rest (is_line_feed b) (line_end (b ∷ rest)) refl refl small (split_ended rest)

-- a byte in front of a line that has no end
in_front_of_last : (b : ℕ) (rest : List ℕ) (t r : Bool) → is_line_feed b ≡ t → (b == 13 && begins_with is_line_feed rest) ≡ r → cond (not t) (1 + line_end rest) 0 ≡ length (b ∷ rest)
    → (0 < length rest → line_end rest ≡ length rest → lines_of rest ≡ rest ∷ [])
    → cond t ([] ∷ lines_of rest) (cond r (lines_of rest) (in_front b (lines_of rest))) ≡ (b ∷ rest) ∷ []
in_front_of_last b rest true r is tested whole so_far = absurd (omega arith)
in_front_of_last b [] false true is tested whole so_far = absurd (let t = return_tested b false tested in cc)
in_front_of_last b (c ∷ cs) false true is tested whole so_far = absurd (let end = at_feed (c ∷ cs) (return_tested b (is_line_feed c) tested).1 in omega arith)
in_front_of_last b [] false false is tested whole so_far = refl
in_front_of_last b (c ∷ cs) false false is tested whole so_far = ap (in_front b) (so_far (omega arith) (omega arith))

pub split_last : (bytes : List ℕ) → 0 < length bytes → line_end bytes ≡ length bytes → lines_of bytes ≡ bytes ∷ []
split_last [] some whole = absurd (omega arith)
split_last (b ∷ rest) some whole = in_front_of_last b rest (is_line_feed b) (b == 13 && begins_with is_line_feed rest) refl refl whole (split_last rest)

-- ---- bytes that are looked at together

-- no line feed is among 16 bytes
pub past_lanes : (bytes : List ℕ) (from : ℕ) → from + 16 ≤ length bytes → 16 ≤ line_end (take 16 (drop from bytes)) → line_end (drop from bytes) ≡ 16 + line_end (drop (from + 16) bytes)
past_lanes bytes from room none =
    let lanes = take 16 (drop from bytes) in
    let long : length lanes ≡ 16 = length-chunk from 16 bytes room in
    let all : line_end lanes ≡ length lanes = omega (arith, prefix_len-le-length (λ byte. not (is_line_feed byte)) lanes) in
    ap line_end (chunk-drop from 16 bytes) ∙ prefix_len-append (λ byte. not (is_line_feed byte)) lanes (drop (from + 16) bytes)
    ∙ ap (λ (t : Bool). cond t (length lanes + line_end (drop (from + 16) bytes)) (line_end lanes)) (eq-eqb (line_end lanes) (length lanes) all)
    ∙ ap (λ n. n + line_end (drop (from + 16) bytes)) long
