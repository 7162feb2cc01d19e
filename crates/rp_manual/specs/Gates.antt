-- A gate with two entries, of which two may pass before it is put down.
--
--     profile jorvik
--     object gate 10
--     int n 0 9 0
--     bool up false
--     procedure lift             put up true
--     entry pass when up queue 2    set n add n 1, out n, if eq n 2: put up false
--     entry late when up         out 7
use Rattle.std.specs.Prelude.{Bool, ℕ, ℤ, pos, true, false, List, [], ◌∷◌}
use Rattle.std.proofs.Common.{lit<}
use Rattle.rp_object.specs.rp_base.specs.declared.action.Action.{Action}
use Rattle.rp_object.specs.rp_base.specs.declared.action.Action.TheVariants.{Call}
use Rattle.rp_object.specs.rp_base.specs.declared.action.Operation.TheVariants.{Procedure, Entry}
use Rattle.rp_object.specs.rp_body.specs.declared.expression.Expr.TheVariants.{Number, Int, Add'}
use Rattle.rp_object.specs.rp_body.specs.declared.expression.Cond.TheVariants.{Constant, Equal}
use Rattle.rp_object.specs.rp_body.specs.declared.statement.Stmt.{Stmt}
use Rattle.rp_object.specs.rp_body.specs.declared.statement.Stmt.TheVariants.{Set, Put, Out, If}
use Rattle.rp_object.specs.rp_body.specs.Store.{Store, by_place}
use Rattle.rp_object.specs.rp_entry.specs.declared.operations.Operations.{Operations}
use Rattle.rp_object.specs.rp_entry.specs.declared.state.Waiting.{Waiting}
use Rattle.rp_object.specs.declared.program.Profile.TheVariants.{Jorvik}
use Rattle.rp_object.specs.declared.program.Declarations.{Declarations}
use Rattle.rp_object.specs.State.{ProgramState}
use Rattle.rp_manual.specs.Memory.{Unread, listed, object_with}
use Rattle.rp_manual.specs.Outcomes.{one_object}

abbrev pub lift_body : List Stmt
lift_body = Put 0 (Constant true) ∷ []

abbrev pub down_body : List Stmt
down_body = Put 0 (Constant false) ∷ []

abbrev pub pass_body : Unread → List Stmt
pass_body unread =
    Set 0 (Add' unread.box (Int 0) unread.box (Number (pos 1)))
    ∷ Out (Int 0)
    ∷ If (Equal (Int 0) (Number (pos 2))) (listed unread down_body (lit< tt))
    (listed unread [] (lit< tt))
    ∷ []

abbrev pub late_body : List Stmt
late_body = Out (Number (pos 7)) ∷ []

-- n, from 0 to 9, and up
abbrev pub gates_components : ℤ → Bool → Store
gates_components n up = record {
  ints = by_place (record { low = pos 0; high = pos 9; value = n } ∷ []);
  bools = by_place (up ∷ []);
}

abbrev pub gates_operations : Unread → Operations
gates_operations unread = record {
  functions = listed unread [] (lit< tt);
  procedures = listed unread (listed unread lift_body (lit< tt) ∷ []) (lit< tt);
  entries =
      listed unread
      (record { barrier = 0; longest = 2; body = listed unread (pass_body unread) (lit< tt) }
      ∷ record { barrier = 0; longest = 1; body = listed unread late_body (lit< tt) }
      ∷ [])
      (lit< tt);
}

-- four tasks of priority 5, and the gate
abbrev pub gates : Unread → Declarations
gates unread = record {
  profile = Jorvik;
  priorities = listed unread (5 ∷ 5 ∷ 5 ∷ 5 ∷ []) (lit< tt);
  objects =
      listed unread
      (object_with unread (gates_components (pos 0) false) (gates_operations unread) ∷ [])
      (lit< tt);
  interrupts = listed unread [] (lit< tt);
  timers = listed unread [] (lit< tt);
}

-- the gate with this n, up or not, and these calls waiting at pass and at late
abbrev pub gates_are : Unread → ℤ → Bool → List Waiting → List Waiting → ProgramState
gates_are unread n up pass late =
    one_object (gates_operations unread) (gates_components n up) (pass ∷ late ∷ []) [] 0

-- the task's first call of the second entry, and the call of this number of lift
abbrev pub passes_late : ℕ → Action
passes_late task = Call task 1 1 (Entry 2) (pos 0)

abbrev pub lifts_as : ℕ → ℕ → Action
lifts_as task number = Call task number 1 (Procedure 1) (pos 0)
