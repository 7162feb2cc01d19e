-- The operations of a protected object, and which of them keep the limits (the limits are ours).
use Rattle.std.specs.Prelude.{ℕ, zero, suc, ◌<◌, ◌≤◌, IsTrue, Option, None, List, length, slice_get}
use Rattle.std.specs.List.{All}
use Rattle.rp_body.specs.declared.components.Limits.{Limits}
use Rattle.rp_body.specs.Check.{expr_fits, cond_fits, KeepsLimits}
use Rattle.rp_entry.specs.declared.operations.Function.{Function}
use Rattle.rp_entry.specs.declared.operations.Function.TheVariants.{Value, Truth}
use Rattle.rp_entry.specs.declared.operations.Entry.{Entry}
use Rattle.rp_entry.specs.declared.operations.Operations.{Operations}

-- the one of this index, counted from 1
abbrev pub of_index : {X : Type 0} → List X → ℕ → Option X
of_index xs zero = None
of_index xs (suc n) = slice_get xs n

-- the expression or condition of a function has at most 32 nodes and names only components that are
-- counted
abbrev pub FunctionFits : Limits → Function → Type 0
FunctionFits limits (Value expr) = IsTrue (expr_fits limits expr)
FunctionFits limits (Truth test) = IsTrue (cond_fits limits test)

-- the longest queue that an entry may have
abbrev pub longest_queue : ℕ
longest_queue = 8

-- the barrier of an entry names a Boolean that is counted (a simple barrier: Ada Reference Manual,
-- section D.7), its longest queue is 1 to 8 calls (Max_Entry_Queue_Length), and its body keeps the
-- limits of bodies
pub record EntryFits (limits : Limits) (entry : Entry) : Type 0 where
  pub barrier : entry.barrier < limits.bools
  pub some_room : 1 ≤ entry.longest
  pub room : entry.longest ≤ longest_queue
  pub body : KeepsLimits limits entry.body.items

-- the most functions, and the most procedures, of an object
abbrev pub most_operations : ℕ
most_operations = 8

-- the most entries of an object
abbrev pub most_entries : ℕ
most_entries = 4

-- there are no more, and each function, each procedure's body and each entry do so
pub record OperationsFit (limits : Limits) (operations : Operations) : Type 0 where
  pub function_count : length operations.functions.items ≤ most_operations
  pub procedure_count : length operations.procedures.items ≤ most_operations
  pub entry_count : length operations.entries.items ≤ most_entries
  pub functions : All (FunctionFits limits) operations.functions.items
  pub procedures : All (λ body. KeepsLimits limits body.items) operations.procedures.items
  pub entries : All (EntryFits limits) operations.entries.items
