use Rattle.std.proofs.Common.{◌≡◌, map, take, string_bytes}
use Rattle.std.specs.Prelude.{All}
use Rattle.rp_drawing.specs.Words.{IsPlain, plain}
use Rattle.rp_drawing.proofs.words.letters.Given as goal

-- the letters so far are plain
abbrev pub invariant-loop-byte : goal.invariant-loop-byte
invariant-loop-byte l = record {
  are_plain : All IsPlain (string_bytes l.text);
  letters : string_bytes l.text ≡ map plain (take l.byte-index l.bytes);
}
