-- Where a list lies in memory, and how a component is called, no rule reads: the programs of the
-- worked examples take both from outside, and the examples hold for all of them.
use Rattle.std.specs.Prelude.{◌<◌, ◌^◌, List, length, refl, Vec, String, Box}
use Rattle.std.specs.declared.alloc.Global.{Global}
use Rattle.std.proofs.Math.Nat.{le_refl}
use denote.RawPtr.{Ptr}
use Rattle.rp_object.specs.rp_body.specs.Store.{Store}
use Rattle.rp_object.specs.rp_entry.specs.declared.operations.Operations.{Operations}
use Rattle.rp_object.specs.declared.program.ObjectDeclaration.{ObjectDeclaration}

-- what no rule reads: the heap, an address, a box, a name, and the names of components and entries
pub record Unread : Type 0 where
  pub heap : Global
  pub at : Ptr
  pub box : Box (Unit {0}) Global
  pub name : String Global
  pub ints : Vec (String Global) Global
  pub bools : Vec (String Global) Global
  pub entries : Vec (String Global) Global

-- these elements as a list in memory
abbrev pub listed : {X : Type 0} → Unread → (xs : List X) → length xs < 2 ^ 63 → Vec X Global
listed unread xs small = record {
  ptr = unread.at;
  len = length xs;
  cap = length xs;
  alloc = unread.heap;
  items = xs;
  ok = (refl, le_refl (length xs));
  small = small;
}

-- an object of ceiling 10 with these components and operations
abbrev pub object_with : Unread → Store → Operations → ObjectDeclaration
object_with unread components operations = record {
  name = unread.name;
  ceiling = 10;
  ints = unread.ints;
  bools = unread.bools;
  components = components;
  entries = unread.entries;
  operations = record { ptr = unread.at; value = operations };
}
