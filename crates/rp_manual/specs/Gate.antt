-- The gate: who passes waits until it is up, and puts it down.
--
--     object gate 10
--     int n 0 4 0
--     bool up false
--     procedure lift     put up true
--     procedure burst    put up true, set n 9
--     entry pass when up    put up false, set n add n 1, out n
--
-- and, where it is said so, with two interrupts:
--
--     interrupt up      gate.lift
--     interrupt broken  gate.burst
use Rattle.std.specs.Prelude.{Bool, ℕ, ℤ, pos, true, false, List, [], ◌∷◌}
use Rattle.std.proofs.Common.{lit<}
use Rattle.rp_object.specs.rp_base.specs.declared.action.Action.{Action}
use Rattle.rp_object.specs.rp_base.specs.declared.action.Action.TheVariants.{Call}
use Rattle.rp_object.specs.rp_base.specs.declared.action.Operation.TheVariants.{Procedure, Entry}
use Rattle.rp_object.specs.rp_body.specs.declared.expression.Expr.TheVariants.{Number, Int, Add'}
use Rattle.rp_object.specs.rp_body.specs.declared.expression.Cond.TheVariants.{Constant}
use Rattle.rp_object.specs.rp_body.specs.declared.statement.Stmt.{Stmt}
use Rattle.rp_object.specs.rp_body.specs.declared.statement.Stmt.TheVariants.{Set, Put, Out}
use Rattle.rp_object.specs.rp_body.specs.Store.{Store, by_place}
use Rattle.rp_object.specs.rp_entry.specs.declared.operations.Operations.{Operations}
use Rattle.rp_object.specs.rp_entry.specs.declared.state.Waiting.{Waiting}
use Rattle.rp_object.specs.declared.program.Profile.TheVariants.{Ravenscar}
use Rattle.rp_object.specs.declared.program.Declarations.{Declarations}
use Rattle.rp_object.specs.State.{ProgramState}
use Rattle.rp_manual.specs.Memory.{Unread, listed, object_with}
use Rattle.rp_manual.specs.Outcomes.{one_object}

abbrev pub lift_body : List Stmt
lift_body = Put 0 (Constant true) ∷ []

abbrev pub burst_body : List Stmt
burst_body = Put 0 (Constant true) ∷ Set 0 (Number (pos 9)) ∷ []

abbrev pub pass_body : Unread → List Stmt
pass_body unread =
    Put 0 (Constant false)
    ∷ Set 0 (Add' unread.box (Int 0) unread.box (Number (pos 1)))
    ∷ Out (Int 0)
    ∷ []

-- n, from 0 to 4, and up
abbrev pub gate_components : ℤ → Bool → Store
gate_components n up = record {
  ints = by_place (record { low = pos 0; high = pos 4; value = n } ∷ []);
  bools = by_place (up ∷ []);
}

abbrev pub gate_operations : Unread → Operations
gate_operations unread = record {
  functions = listed unread [] (lit< tt);
  procedures =
      listed unread
      (listed unread lift_body (lit< tt) ∷ listed unread burst_body (lit< tt) ∷ []) (lit< tt);
  entries =
      listed unread
      (record { barrier = 0; longest = 1; body = listed unread (pass_body unread) (lit< tt) } ∷ [])
      (lit< tt);
}

-- two tasks of these base priorities, and the gate, where n is this at first
abbrev pub gate : Unread → ℕ → ℕ → ℤ → Declarations
gate unread first second n = record {
  profile = Ravenscar;
  priorities = listed unread (first ∷ second ∷ []) (lit< tt);
  objects =
      listed unread
      (object_with unread (gate_components n false) (gate_operations unread) ∷ []) (lit< tt);
  interrupts = listed unread [] (lit< tt);
  timers = listed unread [] (lit< tt);
}

-- the same with the two interrupts
abbrev pub gate_with_interrupts : Unread → Declarations
gate_with_interrupts unread = record (gate unread 5 5 (pos 0)) {
  interrupts =
      listed unread
      (record { object = 1; procedure = 1 } ∷ record { object = 1; procedure = 2 } ∷ []) (lit< tt);
}

-- the gate with this n, up or not, and these calls waiting
abbrev pub gate_is : Unread → ℤ → Bool → List Waiting → ProgramState
gate_is unread n up queue =
    one_object (gate_operations unread) (gate_components n up) (queue ∷ []) [] 0

-- the task's first call
abbrev pub passes : ℕ → Action
passes task = Call task 1 1 (Entry 1) (pos 0)

abbrev pub lifts : ℕ → Action
lifts task = Call task 1 1 (Procedure 1) (pos 0)

abbrev pub bursts : ℕ → Action
bursts task = Call task 1 1 (Procedure 2) (pos 0)

-- the task's first call, as it waits
abbrev pub first_call : ℕ → Waiting
first_call task = record { task = task; number = 1; arg = pos 0 }

-- the task's second call, of lift
abbrev pub lifts_next : ℕ → Action
lifts_next task = Call task 2 1 (Procedure 1) (pos 0)
