-- A deck with most kinds of lines, as an example.
use Rattle.std.specs.Prelude.{ℕ, pos, false, List, [], ◌∷◌, ◌++◌, codes, Some, None}
use Rattle.rp_object.specs.declared.program.Profile.TheVariants.{Jorvik}
use Rattle.rp_deck_laws.specs.Named.{NamedExpr, NamedBody, Value, Truth, NamedPart, AnInt}
use Rattle.rp_deck_laws.specs.Named.{ABool}
use Rattle.rp_deck_laws.specs.Named.{AFunction, AProcedure, AnEntry, NamedDeck}
use Rattle.rp_deck_laws.specs.Named.{NamedExpr as exprs}
use Rattle.rp_deck_laws.specs.Named.{NamedCond as conds}
use Rattle.rp_deck_laws.specs.Named.{NamedBody as bodies}
use Rattle.rp_deck_laws.specs.Named.{NamedStep as steps}
use Rattle.rp_deck_laws.specs.Named.{NamedCommand as commands}

-- sets n to a value, and opens the entry if n is not 0
abbrev pub sets_n : NamedExpr → NamedBody
sets_n value =
    bodies.Put (bodies.Set bodies.Empty (codes "n") value) (codes "some")
    (conds.Less (exprs.Number (pos 0)) (exprs.Int (codes "n")))

abbrev pub example_parts : List NamedPart
example_parts =
    ABool (record { name = codes "some"; value = false })
    ∷ AnInt (record { name = codes "n"; low = pos 0; high = pos 9; value = pos 0 })
    ∷ AProcedure (record {
      name = codes "put";
      body = sets_n (exprs.Add (exprs.Int (codes "n")) exprs.Arg);
    })
    ∷ AFunction (record { name = codes "count"; result = Value (exprs.Int (codes "n")) })
    ∷ AnEntry (record {
      name = codes "take";
      barrier = codes "some";
      longest = 2;
      body = sets_n (exprs.Sub (exprs.Int (codes "n")) (exprs.Number (pos 1)));
    })
    ∷ AFunction (record { name = codes "any"; result = Truth (conds.Named (codes "some")) })
    ∷ []

abbrev pub example : NamedDeck
example = record {
  nodes = 3;
  positions = Some 50;
  profile = Some Jorvik;
  tasks = record { name = codes "a"; priority = 10 } ∷ record { name = codes "b"; priority = 7 }
      ∷ [];
  objects = record { name = codes "store"; ceiling = 20; parts = example_parts } ∷ [];
  interrupts = record { name = codes "key"; object = codes "store"; procedure = codes "put" } ∷ [];
  timers = record { name = codes "late"; object = codes "store"; procedure = codes "put" } ∷ [];
  script =
      commands.Call (codes "a") 1 (codes "store") (codes "take") (pos 0)
      ∷ commands.Call (codes "b") 2 (codes "store") (codes "put") (pos 3)
      ∷ commands.Arm (codes "a") 3 (codes "late") (pos 100)
      ∷ commands.Makes (steps.Interrupt 1 (codes "key") 1)
      ∷ commands.Makes (steps.Lead 1 None) ∷ commands.Drain ∷ commands.Show ∷ [];
}

-- a line feed after each line
abbrev pub lines : List (List ℕ) → List ℕ
lines [] = []
lines (line ∷ rest) = line ++ 10 ∷ lines rest

abbrev pub example_text : List ℕ
example_text = lines
    (codes "nodes 3" ∷ codes "positions 50" ∷ codes "profile jorvik" ∷ codes "task a 10"
    ∷ codes "task b 7"
    ∷ codes "object store 20" ∷ codes "bool some false" ∷ codes "int n 0 9 0"
    ∷ codes "procedure put" ∷ codes "set n add n arg" ∷ codes "put some lt 0 n" ∷ codes "end"
    ∷ codes "function count value n"
    ∷ codes "entry take when some queue 2" ∷ codes "set n sub n 1" ∷ codes "put some lt 0 n"
    ∷ codes "end"
    ∷ codes "function any truth some"
    ∷ codes "interrupt key store.put" ∷ codes "timer late store.put" ∷ codes "script"
    ∷ codes "call a 1 store.take" ∷ codes "call b 2 store.put 3" ∷ codes "arm a 3 late 100"
    ∷ codes "irq 1 key 1" ∷ codes "lead 1" ∷ codes "drain" ∷ codes "show" ∷ [])
