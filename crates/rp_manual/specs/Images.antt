-- Programs whose components and entries have names, and what is shown of them.
use Rattle.std.specs.Prelude.{ℕ, List, [], ◌∷◌, ◌<◌, ◌^◌, length, String}
use Rattle.std.specs.declared.alloc.Global.{Global}
use Rattle.std.proofs.Common.{lit<}
use Rattle.rp_object.specs.declared.program.Declarations.{Declarations}
use Rattle.rp_object.specs.State.{ProgramState}
use Rattle.rp_object.specs.Image.{objects_image}
use Rattle.rp_manual.specs.Memory.{Unread, listed}

-- the whole number is called so
abbrev pub number_named : Unread → String Global → Unread
number_named unread number = record unread {
  ints = listed unread (number ∷ []) (lit< tt);
  bools = listed unread [] (lit< tt);
  entries = listed unread [] (lit< tt);
}

-- and the Boolean and the entries so
abbrev pub named : Unread → String Global → String Global → (entries : List (String Global))
    → length entries < 2 ^ 63 → Unread
named unread number boolean entries few = record (number_named unread number) {
  bools = listed unread (boolean ∷ []) (lit< tt);
  entries = listed unread entries few;
}

-- the lines that show a program in this state
abbrev pub shows : Declarations → ProgramState → List ℕ
shows program state = objects_image (record { program = program; state = state })
