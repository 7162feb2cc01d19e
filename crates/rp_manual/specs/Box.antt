-- A box with two timing events and two interrupts.
--
--     object box 10
--     int n 0 1000 0
--     procedure inc    set n add n 1
--     procedure dbl    set n add n n
--     procedure raise  set n add n arg
--     timer x box.inc
--     timer y box.dbl
--     interrupt i box.inc
--     interrupt j box.raise
use Rattle.std.specs.Prelude.{ℕ, ℤ, pos, Option, List, [], ◌∷◌}
use Rattle.std.proofs.Common.{lit<}
use Rattle.std.specs.FinMap.{empty}
use Rattle.rp_object.specs.rp_base.specs.declared.action.Action.{Action}
use Rattle.rp_object.specs.rp_base.specs.declared.action.Action.TheVariants.{Call}
use Rattle.rp_object.specs.rp_base.specs.declared.action.Operation.TheVariants.{Procedure, SetTimer}
use Rattle.rp_object.specs.rp_base.specs.declared.action.Operation.TheVariants.{CancelTimer}
use Rattle.rp_object.specs.rp_body.specs.declared.expression.Expr.TheVariants.{Number, Arg, Int}
use Rattle.rp_object.specs.rp_body.specs.declared.expression.Expr.TheVariants.{Add'}
use Rattle.rp_object.specs.rp_body.specs.declared.statement.Stmt.{Stmt}
use Rattle.rp_object.specs.rp_body.specs.declared.statement.Stmt.TheVariants.{Set}
use Rattle.rp_object.specs.rp_body.specs.Store.{Store, by_place}
use Rattle.rp_object.specs.rp_entry.specs.declared.operations.Operations.{Operations}
use Rattle.rp_object.specs.declared.program.Profile.TheVariants.{Ravenscar}
use Rattle.rp_object.specs.declared.program.Declarations.{Declarations}
use Rattle.rp_object.specs.State.{ProgramState}
use Rattle.rp_manual.specs.Memory.{Unread, listed, object_with}
use Rattle.rp_manual.specs.Outcomes.{one_object}

abbrev pub inc_body : Unread → List Stmt
inc_body unread = Set 0 (Add' unread.box (Int 0) unread.box (Number (pos 1))) ∷ []

abbrev pub dbl_body : Unread → List Stmt
dbl_body unread = Set 0 (Add' unread.box (Int 0) unread.box (Int 0)) ∷ []

abbrev pub raise_body : Unread → List Stmt
raise_body unread = Set 0 (Add' unread.box (Int 0) unread.box Arg) ∷ []

-- n, from 0 to 1000
abbrev pub box_components : ℤ → Store
box_components n = record {
  ints = by_place (record { low = pos 0; high = pos 1000; value = n } ∷ []);
  bools = empty;
}

abbrev pub box_operations : Unread → Operations
box_operations unread = record {
  functions = listed unread [] (lit< tt);
  procedures =
      listed unread
      (listed unread (inc_body unread) (lit< tt)
      ∷ listed unread (dbl_body unread) (lit< tt)
      ∷ listed unread (raise_body unread) (lit< tt)
      ∷ [])
      (lit< tt);
  entries = listed unread [] (lit< tt);
}

-- a task of priority 5, the box, timing events x and y, and the interrupts i and j
abbrev pub box : Unread → Declarations
box unread = record {
  profile = Ravenscar;
  priorities = listed unread (5 ∷ []) (lit< tt);
  objects =
      listed unread (object_with unread (box_components (pos 0)) (box_operations unread) ∷ [])
      (lit< tt);
  interrupts =
      listed unread
      (record { object = 1; procedure = 1 } ∷ record { object = 1; procedure = 3 } ∷ []) (lit< tt);
  timers =
      listed unread
      (record { name = unread.name; handler = record { object = 1; procedure = 1 } }
      ∷ record { name = unread.name; handler = record { object = 1; procedure = 2 } }
      ∷ [])
      (lit< tt);
}

-- the box with this n, the times for which x and y are set, and the clock
abbrev pub box_is : Unread → ℤ → Option ℤ → Option ℤ → ℕ → ProgramState
box_is unread n x y clock =
    one_object (box_operations unread) (box_components n) [] (x ∷ y ∷ []) clock

-- the task's call of this number sets, or cancels, the timing event of this number
abbrev pub sets : ℕ → ℕ → ℤ → Action
sets number timer time = Call 1 number 1 (SetTimer timer) time

abbrev pub cancels : ℕ → ℕ → Action
cancels number timer = Call 1 number 1 (CancelTimer timer) (pos 0)

-- the task's call of this number raises n by this
abbrev pub raises : ℕ → ℤ → Action
raises number by = Call 1 number 1 (Procedure 3) by
