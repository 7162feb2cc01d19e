-- Functions whose values pass 64 signed bits on the way, and at the end.
--
--     object sums 30
--     function dbl value add arg arg
--     function more truth lt arg add arg arg
--     function back value sub add arg arg arg
use Rattle.std.specs.Prelude.{◌-◌, ◌^◌, ℕ, ℤ, pos, [], ◌∷◌}
use Rattle.std.proofs.Common.{lit<}
use Rattle.std.specs.FinMap.{empty}
use Rattle.rp_object.specs.rp_base.specs.declared.action.Action.{Action}
use Rattle.rp_object.specs.rp_base.specs.declared.action.Action.TheVariants.{Call}
use Rattle.rp_object.specs.rp_base.specs.declared.action.Operation.TheVariants.{Function}
use Rattle.rp_object.specs.rp_body.specs.declared.expression.Expr.{Expr}
use Rattle.rp_object.specs.rp_body.specs.declared.expression.Expr.TheVariants.{Arg, Add', Sub'}
use Rattle.rp_object.specs.rp_body.specs.declared.expression.Cond.TheVariants.{Less}
use Rattle.rp_object.specs.rp_body.specs.Store.{Store}
use Rattle.rp_object.specs.rp_entry.specs.declared.operations.Function.TheVariants.{Value, Truth}
use Rattle.rp_object.specs.rp_entry.specs.declared.operations.Operations.{Operations}
use Rattle.rp_object.specs.declared.program.Profile.TheVariants.{Ravenscar}
use Rattle.rp_object.specs.declared.program.Declarations.{Declarations}
use Rattle.rp_object.specs.State.{ProgramState}
use Rattle.rp_manual.specs.Memory.{Unread, listed, object_with}
use Rattle.rp_manual.specs.Outcomes.{one_object}

-- the argument twice
abbrev pub twice : Unread → Expr
twice unread = Add' unread.box Arg unread.box Arg

abbrev pub no_components : Store
no_components = record { ints = empty; bools = empty }

abbrev pub sums_operations : Unread → Operations
sums_operations unread = record {
  functions =
      listed unread
      (Value (twice unread)
      ∷ Truth (Less Arg (twice unread))
      ∷ Value (Sub' unread.box (twice unread) unread.box Arg)
      ∷ [])
      (lit< tt);
  procedures = listed unread [] (lit< tt);
  entries = listed unread [] (lit< tt);
}

-- a task of priority 5, and the sums
abbrev pub sums : Unread → Declarations
sums unread = record {
  profile = Ravenscar;
  priorities = listed unread (5 ∷ []) (lit< tt);
  objects =
      listed unread (object_with unread no_components (sums_operations unread) ∷ []) (lit< tt);
  interrupts = listed unread [] (lit< tt);
  timers = listed unread [] (lit< tt);
}

abbrev pub sums_are : Unread → ProgramState
sums_are unread = one_object (sums_operations unread) no_components [] [] 0

-- the greatest number of 64 signed bits
abbrev pub greatest_number : ℤ
greatest_number = pos (2 ^ 63 - 1)

-- the task's call of this number calls the function of this number with that
abbrev pub computes : ℕ → ℕ → Action
computes number index = Call 1 number 1 (Function index) greatest_number
