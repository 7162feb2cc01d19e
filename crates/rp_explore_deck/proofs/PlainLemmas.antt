-- The lines of a text whose added lines are blank.
use Rattle.std.proofs.Common.{◌≡◌, ℕ, suc, ◌+◌, Bool, true, false, List, [], ◌∷◌, ◌++◌, length, filter, not, refl, ap, sym, subst, ◌∙◌, arith, drop}
use Rattle.std.specs.Prelude.{Some, None, option_to_list, if◌then◌else◌, ◌==◌, ◌&&◌}
use Rattle.std.specs.List.{prefix_len}
use Rattle.std.proofs.lemmas.List.Elements.{filter-append}
use Rattle.rp_deck.specs.Meaning.{texts_of, line_after}
use Rattle.rp_explore_deck.specs.AddedLines.{Added, is_added, blanked, plain_text}
use Rattle.rp_words.specs.Lines.{LineText, lines_of, texts_from, text_at, in_front, is_line_feed, is_skipped}
use Rattle.rp_words.specs.Words.{begins_with, is_at_end, first_word, is_blank, after_word}

-- an added line has no word, and any other is the same
abbrev IsBlankOf : Bool → List ℕ → List ℕ → Type 0
IsBlankOf true line blank = is_at_end blank ≡ true
IsBlankOf false line blank = blank ≡ line

-- so is each line, the first of which has this number
abbrev AreBlanked : Added → ℕ → List (List ℕ) → List (List ℕ) → Type 0
AreBlanked added number [] [] = Unit {0}
AreBlanked added number [] (blank ∷ blanks) = ⊥
AreBlanked added number (line ∷ lines) [] = ⊥
AreBlanked added number (line ∷ lines) (blank ∷ blanks) = IsBlankOf (is_added added number) line blank × AreBlanked added (number + 1) lines blanks

-- ---- one byte more

drop_more : (x : ℕ) (xs : List ℕ) (n : ℕ) → drop (1 + n) (x ∷ xs) ≡ drop n xs
drop_more x xs n = let e : 1 + n ≡ suc n = omega arith in ap (λ (m : ℕ). drop m (x ∷ xs)) e

space_more : (line : List ℕ) → is_at_end line ≡ true → is_at_end (32 ∷ line) ≡ true
space_more line blank = ap (λ (rest : List ℕ). length rest == 0) (drop_more 32 line (prefix_len is_blank line)) ∙ blank

-- in front of both, in an added line and in any other
front_added : (byte : ℕ) (added : Added) (number : ℕ) (lines blanks : List (List ℕ)) → is_added added number ≡ true → AreBlanked added number lines blanks → AreBlanked added number (in_front byte lines) (in_front 32 blanks)
front_added byte added number [] [] is are = (subst (λ (b : Bool). IsBlankOf b (byte ∷ []) (32 ∷ [])) (sym is) refl, tt)
front_added byte added number [] (blank ∷ blanks) is are = absurd are
front_added byte added number (line ∷ lines) [] is are = absurd are
front_added byte added number (line ∷ lines) (blank ∷ blanks) is are = (subst (λ (b : Bool). IsBlankOf b (byte ∷ line) (32 ∷ blank)) (sym is) (space_more blank (subst (λ (b : Bool). IsBlankOf b line blank) is are.0)), are.1)

front_same : (byte : ℕ) (added : Added) (number : ℕ) (lines blanks : List (List ℕ)) → is_added added number ≡ false → AreBlanked added number lines blanks → AreBlanked added number (in_front byte lines) (in_front byte blanks)
front_same byte added number [] [] is are = (subst (λ (b : Bool). IsBlankOf b (byte ∷ []) (byte ∷ [])) (sym is) refl, tt)
front_same byte added number [] (blank ∷ blanks) is are = absurd are
front_same byte added number (line ∷ lines) [] is are = absurd are
front_same byte added number (line ∷ lines) (blank ∷ blanks) is are = (subst (λ (b : Bool). IsBlankOf b (byte ∷ line) (byte ∷ blank)) (sym is) (ap (λ (l : List ℕ). byte ∷ l) (subst (λ (b : Bool). IsBlankOf b line blank) is are.0)), are.1)

-- in front of the blank one alone, where a return is dropped
front_blank : (added : Added) (number : ℕ) (line : List ℕ) (lines blanks : List (List ℕ)) → is_added added number ≡ true → AreBlanked added number (line ∷ lines) blanks → AreBlanked added number (line ∷ lines) (in_front 32 blanks)
front_blank added number line lines [] is are = absurd are
front_blank added number line lines (blank ∷ blanks) is are = (subst (λ (b : Bool). IsBlankOf b line (32 ∷ blank)) (sym is) (space_more blank (subst (λ (b : Bool). IsBlankOf b line blank) is are.0)), are.1)

-- a text that begins with a line feed begins with an empty line
returned : (added : Added) (number : ℕ) (rest : List ℕ) (blanks : List (List ℕ)) → begins_with is_line_feed rest ≡ true → is_added added number ≡ true → AreBlanked added number (lines_of rest) blanks → AreBlanked added number (lines_of rest) (in_front 32 blanks)
returned added number [] blanks feed is are = absurd (cc)
returned added number (byte ∷ rest) blanks feed is are =
    let first : lines_of (byte ∷ rest) ≡ [] ∷ lines_of rest = rw feed refl in
    subst (λ (lines : List (List ℕ)). AreBlanked added number lines (in_front 32 blanks)) (sym first)
    (front_blank added number [] (lines_of rest) blanks is (subst (λ (lines : List (List ℕ)). AreBlanked added number lines blanks) first are))

and_second : (a b : Bool) → (a && b) ≡ true → b ≡ true
and_second true b is = is
and_second false b is = absurd (cc)

-- an added line, whose return may be dropped
added_line : (test : Bool) (byte : ℕ) (added : Added) (number : ℕ) (rest : List ℕ) (blanks : List (List ℕ)) → (test ≡ true → begins_with is_line_feed rest ≡ true) → is_added added number ≡ true → AreBlanked added number (lines_of rest) blanks
    → AreBlanked added number (if test then lines_of rest else in_front byte (lines_of rest)) (in_front 32 blanks)
added_line true byte added number rest blanks feed is are = returned added number rest blanks (feed refl) is are
added_line false byte added number rest blanks feed is are = front_added byte added number (lines_of rest) blanks is are

same_line : (test : Bool) (byte : ℕ) (added : Added) (number : ℕ) (lines blanks : List (List ℕ)) → is_added added number ≡ false → AreBlanked added number lines blanks
    → AreBlanked added number (if test then lines else in_front byte lines) (if test then blanks else in_front byte blanks)
same_line true byte added number lines blanks is are = are
same_line false byte added number lines blanks is are = front_same byte added number lines blanks is are

-- a blanked text begins with a line feed where the text does
begins_at : (feed more : Bool) (byte : ℕ) (one other : List ℕ) → is_line_feed byte ≡ feed → begins_with is_line_feed (if feed then byte ∷ one else (if more then 32 else byte) ∷ other) ≡ is_line_feed byte
begins_at true more byte one other is = refl
begins_at false true byte one other is = sym is
begins_at false false byte one other is = refl

begins_same : (added : Added) (number : ℕ) (rest : List ℕ) → begins_with is_line_feed (blanked added number rest) ≡ begins_with is_line_feed rest
begins_same added number [] = refl
begins_same added number (byte ∷ rest) = begins_at (is_line_feed byte) (is_added added number) byte (blanked added (number + 1) rest) (blanked added number rest) refl

-- ---- all bytes

feed_more : (added : Added) (number byte : ℕ) (rest : List ℕ) → is_line_feed byte ≡ true → AreBlanked added (number + 1) (lines_of rest) (lines_of (blanked added (number + 1) rest))
    → AreBlanked added number (lines_of (byte ∷ rest)) (lines_of (blanked added number (byte ∷ rest)))
feed_more added number byte rest feed are =
    let lines : lines_of (byte ∷ rest) ≡ [] ∷ lines_of rest = rw feed refl in
    let blank : blanked added number (byte ∷ rest) ≡ byte ∷ blanked added (number + 1) rest = rw feed refl in
    let blanks : lines_of (byte ∷ blanked added (number + 1) rest) ≡ [] ∷ lines_of (blanked added (number + 1) rest) = rw feed refl in
    let empty : (test : Bool) → IsBlankOf test [] [] = empty_line in
    subst (λ (l : List (List ℕ)). AreBlanked added number l (lines_of (blanked added number (byte ∷ rest)))) (sym lines)
    (subst (λ (l : List (List ℕ)). AreBlanked added number ([] ∷ lines_of rest) l) (sym (ap lines_of blank ∙ blanks)) (empty (is_added added number), are))
  where
    empty_line : (test : Bool) → IsBlankOf test [] []
    empty_line true = refl
    empty_line false = refl

byte_more : (more : Bool) (added : Added) (number byte : ℕ) (rest : List ℕ) → is_added added number ≡ more → is_line_feed byte ≡ false → AreBlanked added number (lines_of rest) (lines_of (blanked added number rest))
    → AreBlanked added number (lines_of (byte ∷ rest)) (lines_of (blanked added number (byte ∷ rest)))
byte_more true added number byte rest is feed are =
    let lines : lines_of (byte ∷ rest) ≡ (if byte == 13 && begins_with is_line_feed rest then lines_of rest else in_front byte (lines_of rest)) = rw feed refl in
    let blank : blanked added number (byte ∷ rest) ≡ 32 ∷ blanked added number rest = rw (feed, is) refl in
    subst (λ (l : List (List ℕ)). AreBlanked added number l (lines_of (blanked added number (byte ∷ rest)))) (sym lines)
    (subst (λ (l : List (List ℕ)). AreBlanked added number (if byte == 13 && begins_with is_line_feed rest then lines_of rest else in_front byte (lines_of rest)) l) (sym (ap lines_of blank))
    (added_line (byte == 13 && begins_with is_line_feed rest) byte added number rest (lines_of (blanked added number rest)) (and_second (byte == 13) (begins_with is_line_feed rest)) is are))
byte_more false added number byte rest is feed are =
    let test = byte == 13 && begins_with is_line_feed rest in
    let lines : lines_of (byte ∷ rest) ≡ (if byte == 13 && begins_with is_line_feed rest then lines_of rest else in_front byte (lines_of rest)) = rw feed refl in
    let blank : blanked added number (byte ∷ rest) ≡ byte ∷ blanked added number rest = rw (feed, is) refl in
    let blanks : lines_of (byte ∷ blanked added number rest) ≡ (if byte == 13 && begins_with is_line_feed rest then lines_of (blanked added number rest) else in_front byte (lines_of (blanked added number rest))) = rw (feed, begins_same added number rest) refl in
    subst (λ (l : List (List ℕ)). AreBlanked added number l (lines_of (blanked added number (byte ∷ rest)))) (sym lines)
    (subst (λ (l : List (List ℕ)). AreBlanked added number (if byte == 13 && begins_with is_line_feed rest then lines_of rest else in_front byte (lines_of rest)) l) (sym (ap lines_of blank ∙ blanks))
    (same_line test byte added number (lines_of rest) (lines_of (blanked added number rest)) is are))

bytes_more : (feed : Bool) (added : Added) (number byte : ℕ) (rest : List ℕ) → is_line_feed byte ≡ feed
    → AreBlanked added (number + 1) (lines_of rest) (lines_of (blanked added (number + 1) rest)) → AreBlanked added number (lines_of rest) (lines_of (blanked added number rest))
    → AreBlanked added number (lines_of (byte ∷ rest)) (lines_of (blanked added number (byte ∷ rest)))
bytes_more true added number byte rest feed next here = feed_more added number byte rest feed next
bytes_more false added number byte rest feed next here = byte_more (is_added added number) added number byte rest refl feed here

blanked_lines : (added : Added) (number : ℕ) (text : List ℕ) → AreBlanked added number (lines_of text) (lines_of (blanked added number text))
blanked_lines added number [] = tt
blanked_lines added number (byte ∷ rest) = bytes_more (is_line_feed byte) added number byte rest refl (blanked_lines added (number + 1) rest) (blanked_lines added number rest)

-- ---- the lines that have words

abbrev is_kept : Added → LineText → Bool
is_kept added line = not (is_added added line.number)

kept_line : (skipped more : Bool) (added : Added) (line : LineText) → is_added added line.number ≡ more → (if more then [] else option_to_list (if skipped then None else Some line)) ≡ filter (is_kept added) (option_to_list (if skipped then None else Some line))
kept_line true true added line is = refl
kept_line true false added line is = refl
kept_line false true added line is = rw is refl
kept_line false false added line is = rw is refl

text_blank : (more : Bool) (number : ℕ) (line blank : List ℕ) → IsBlankOf more line blank → option_to_list (text_at number blank) ≡ (if more then [] else option_to_list (text_at number line))
text_blank true number line blank is = rw is refl
text_blank false number line blank is = ap (λ (l : List ℕ). option_to_list (text_at number l)) is

text_kept : (added : Added) (number : ℕ) (line blank : List ℕ) → IsBlankOf (is_added added number) line blank → option_to_list (text_at number blank) ≡ filter (is_kept added) (option_to_list (text_at number line))
text_kept added number line blank is =
    text_blank (is_added added number) number line blank is
    ∙ kept_line (is_skipped line) (is_added added number) added (record { number = number; first = first_word line; rest = after_word line }) refl

texts_kept : (added : Added) (number : ℕ) (lines blanks : List (List ℕ)) → AreBlanked added number lines blanks → texts_from number blanks ≡ filter (is_kept added) (texts_from number lines)
texts_kept added number [] [] are = refl
texts_kept added number [] (blank ∷ blanks) are = absurd are
texts_kept added number (line ∷ lines) [] are = absurd are
texts_kept added number (line ∷ lines) (blank ∷ blanks) are =
    (λ i. text_kept added number line blank are.0 i ++ texts_kept added (number + 1) lines blanks are.1 i)
    ∙ sym (filter-append (is_kept added) (option_to_list (text_at number line)) (texts_from (number + 1) lines))

as_many : (added : Added) (number : ℕ) (lines blanks : List (List ℕ)) → AreBlanked added number lines blanks → length blanks ≡ length lines
as_many added number [] [] are = refl
as_many added number [] (blank ∷ blanks) are = absurd are
as_many added number (line ∷ lines) [] are = absurd are
as_many added number (line ∷ lines) (blank ∷ blanks) are = ap suc (as_many added (number + 1) lines blanks are.1)

pub others_are_kept : (added : Added) (text : List ℕ) → texts_of (plain_text added text) ≡ filter (is_kept added) (texts_of text)
others_are_kept added text = texts_kept added 1 (lines_of text) (lines_of (blanked added 1 text)) (blanked_lines added 1 text)

pub end_is_kept : (added : Added) (text : List ℕ) → line_after (plain_text added text) ≡ line_after text
end_is_kept added text = ap (λ (n : ℕ). n + 1) (as_many added 1 (lines_of text) (lines_of (blanked added 1 text)) (blanked_lines added 1 text))
