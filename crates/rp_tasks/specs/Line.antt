-- A faulty link, which loses, repeats and reorders packets by its random words. The words are the
-- stream of ChaCha20 (RFC 8439, with a counter and a nonce of 64 bits each).
use Rattle.std.specs.Prelude.{ℕ, ◌+◌, ◌-◌, ◌%◌, ◌^◌, min, nat_eq, nat_lt, Option, List, [], ◌++◌}
use Rattle.std.specs.Prelude.{length, take, replicate, remove, slice_get, if◌then◌else◌}
use Rattle.rand_chacha.specs.ChaCha.{ChaCha, next_word, of_seed}

-- the sum of two numbers, as far as 64 bits hold it
abbrev pub saturating_sum : ℕ → ℕ → ℕ
saturating_sum n more = min (n + more) (2 ^ 64 - 1)

-- the packets that are held, in the order in which they were accepted, the generator of the words,
-- and how many copies were lost so far
pub record Line : Type 0 where
  pub held : List (List ℕ)
  pub words : ChaCha
  pub lost : ℕ

-- a link that holds nothing and has lost nothing, its words those of the seed
abbrev pub line_of : List ℕ → Line
line_of seed = record { held = []; words = of_seed seed; lost = 0 }

-- the next word, after ten double rounds
abbrev pub word_of : Line → ℕ
word_of line = (next_word 10 line.words).0

-- the link once this word is drawn
abbrev pub drawn : Line → Line
drawn line = record line { words = (next_word 10 line.words).1 }

-- how many copies of a packet a word asks for: of the word modulo 16, none at 0 and 1, two at 2 and
-- 3, and one at the rest
abbrev pub copies_of : ℕ → ℕ
copies_of word = if nat_lt (word % 16) 2 then 0 else if nat_lt (word % 16) 4 then 2 else 1

-- how many of these copies are lost, where n packets are held: the packet itself if no copy is
-- asked for, and else each copy that finds no place among 16
abbrev pub lost_of : ℕ → ℕ → ℕ
lost_of copies held = if nat_eq copies 0 then 1 else held + copies - 16

-- the link once it took a packet: the copies are after what is held, and what finds no place among
-- 16 is lost
abbrev pub accepted : ℕ → List ℕ → Line → Line
accepted word packet line = record line {
  held = take 16 (line.held ++ replicate (copies_of word) packet);
  lost = saturating_sum line.lost (lost_of (copies_of word) (length line.held));
}

-- the packet that a word picks among those held, counted from 0, if there is one
abbrev pub picked : ℕ → Line → Option (List ℕ)
picked word line = slice_get line.held (word % length line.held)

-- the link without it
abbrev pub released : ℕ → Line → Line
released word line = record line { held = remove line.held (word % length line.held) }
