-- What is printed is ASCII, and so it is text.
use Rattle.std.proofs.Common.{◌≡◌, ℕ, ◌<◌, List, [], ◌∷◌, true, arith, IsUtf8, zero, suc}
use Rattle.std.specs.Prelude.{IsTrue, length, nat_le}
use Rattle.std.specs.List.{list_all}
use Rattle.std.specs.Str.{IsAscii}
use Rattle.std.proofs.lemmas.Bool.Decides.{nat_tests}
use Rattle.std.proofs.lemmas.Str.{IsUtf8-from_ascii}
use Rattle.rp_deck.specs.rp_words.proofs.WordsLemmas.{both}
use Rattle.rp_deck_hints.specs.Hints.{is_graphic, is_printed}

small : (b : ℕ) → IsTrue (is_graphic b) → b < 128
small b h = grind (arith, nat_tests)

ascii : (word : List ℕ) → list_all is_graphic word ≡ true → IsAscii word
ascii [] h zero = omega arith
ascii [] h (suc i) = omega arith
ascii (b ∷ bs) h zero = small b (both (is_graphic b) (list_all is_graphic bs) h).0
ascii (b ∷ bs) h (suc i) = ascii bs (both (is_graphic b) (list_all is_graphic bs) h).1 i

pub printed_is_text : (word : List ℕ) → is_printed word ≡ true → IsUtf8 word
printed_is_text word h =
    IsUtf8-from_ascii word (ascii word (both (nat_le (length word) 40) (list_all is_graphic word) h).1)
