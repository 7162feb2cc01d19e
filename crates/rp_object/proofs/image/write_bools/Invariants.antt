use Rattle.std.proofs.Common.{◌≡◌, ◌++◌, take, string_bytes}
use Rattle.rp_object.specs.Image.{bools_text}
use Rattle.rp_object.proofs.image.write_bools.Given as goal

abbrev pub invariant-loop-name : goal.invariant-loop-name
invariant-loop-name l = record {
  place : l.place ≡ l.name-index;
  text : string_bytes l.text ≡ string_bytes l.initial.text ++ bools_text l.components 0 (take l.name-index l.names);
}
