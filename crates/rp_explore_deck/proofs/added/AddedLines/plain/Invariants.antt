use Rattle.std.proofs.Common.{◌≡◌, ◌+◌, ◌≤◌, ◌++◌, drop, length}
use Rattle.rp_explore_deck.specs.AddedLines.{blanked, plain_text}
use Rattle.rp_explore_deck.proofs.added.AddedLines.plain.Given as goal

-- what is written, and then the bytes that are left with their added lines blank
abbrev pub invariant-loop-byte : goal.invariant-loop-byte
invariant-loop-byte l = record {
  written : l.plain.items ++ blanked l.self l.number (drop l.byte-index l.text) ≡ plain_text l.self l.text;
  size : length l.plain.items ≡ l.byte-index;
  line : l.number ≤ l.byte-index + 1;
}
